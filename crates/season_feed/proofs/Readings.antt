-- What an input is made of, decision by decision, for whatever follows. Assumes nothing.
use Prim.Native.Nat.{ℕ, ◌≤◌, ◌<◌}
use mathlib.Core.Path.{◌≡◌, refl, sym, ap, ◌∙◌}
use mathlib.Core.List.{List, [], ◌∷◌}
use native.Mathlib.Omega.{arith}
use borrow.Author.Tests.{lt-ltb, le-ltb}
use lib.ListN.{length, take, drop}
use lib.Seq.{length-take-le}
use Rattle.season_plan.specs.Plans.{Outcome, refused, plan_of}
use Rattle.season_feed.specs.Seasons.{CountLine, counted, none, line_from, planned, lined, outcomes_of}
use Rattle.season_feed.proofs.Outcomes.{outcomes-are}
use Rattle.season_feed.proofs.Wholes.{too_long}

-- no input is no plan
pub nothing-fed : outcomes_of [] ≡ []
nothing-fed = outcomes-are []

-- ---- a line with a count

module _ (byte : ℕ) (bytes : List ℕ) (size : ℕ) (rest : List ℕ) (e : line_from 0 0 (byte ∷ bytes) ≡ counted size rest) where
  count-planned : outcomes_of (byte ∷ bytes) ≡ planned outcomes_of size rest
  count-planned = outcomes-are (byte ∷ bytes) ∙ ap (lined outcomes_of) e

  -- so many bytes are the plan, and the next line starts at once
  pub count_fits : size ≤ length rest → outcomes_of (byte ∷ bytes) ≡ plan_of (take size rest) ∷ outcomes_of (drop size rest)
  count_fits h = count-planned ∙ rw (le-ltb (length rest) size h) refl

  -- a count above what follows is one refusal 13 and ends the input, however large it is
  pub count-exceeds : length rest < size → outcomes_of (byte ∷ bytes) ≡ refused 13 ∷ []
  count-exceeds h = count-planned ∙ rw (lt-ltb (length rest) size h) refl

  -- one above 4,096 that fits is one refusal 1, its bytes are passed over, and the next plan is read
  pub long-passed : 4096 < size → size ≤ length rest → outcomes_of (byte ∷ bytes) ≡ refused 1 ∷ outcomes_of (drop size rest)
  long-passed g h =
      count_fits h
      ∙ ap (λ (o : Outcome). o ∷ outcomes_of (drop size rest)) (sym (too_long (take size rest) (omega (arith, length-take-le size rest h))))

-- ---- a line without one

no-count : (byte : ℕ) (rest : List ℕ) → line_from 0 0 (byte ∷ rest) ≡ none → outcomes_of (byte ∷ rest) ≡ refused 13 ∷ []
no-count byte rest e = outcomes-are (byte ∷ rest) ∙ ap (lined outcomes_of) e

module _ (rest : List ℕ) where
  -- an LF after a plan that its count does not include is a line without digits
  pub lone-feed : outcomes_of (10 ∷ rest) ≡ refused 13 ∷ []
  unfolding line_from
  lone-feed = no-count 10 rest refl

  -- `3`, CR, LF
  pub carriage-return : outcomes_of (51 ∷ 13 ∷ 10 ∷ rest) ≡ refused 13 ∷ []
  unfolding line_from
  carriage-return = no-count 51 (13 ∷ 10 ∷ rest) refl

  -- `+3` and `-3`
  pub signs : (outcomes_of (43 ∷ 51 ∷ 10 ∷ rest) ≡ refused 13 ∷ []) × (outcomes_of (45 ∷ 51 ∷ 10 ∷ rest) ≡ refused 13 ∷ [])
  unfolding line_from
  signs = (no-count 43 (51 ∷ 10 ∷ rest) refl, no-count 45 (51 ∷ 10 ∷ rest) refl)

  -- a space before or after
  pub spaces : (outcomes_of (32 ∷ 51 ∷ 10 ∷ rest) ≡ refused 13 ∷ []) × (outcomes_of (51 ∷ 32 ∷ 10 ∷ rest) ≡ refused 13 ∷ [])
  unfolding line_from
  spaces = (no-count 32 (51 ∷ 10 ∷ rest) refl, no-count 51 (32 ∷ 10 ∷ rest) refl)

  -- ten digits, zeros though they are
  pub ten-digits : outcomes_of (48 ∷ 48 ∷ 48 ∷ 48 ∷ 48 ∷ 48 ∷ 48 ∷ 48 ∷ 48 ∷ 51 ∷ 10 ∷ rest) ≡ refused 13 ∷ []
  unfolding line_from
  ten-digits = no-count 48 (48 ∷ 48 ∷ 48 ∷ 48 ∷ 48 ∷ 48 ∷ 48 ∷ 48 ∷ 51 ∷ 10 ∷ rest) refl

  -- nine are a count
  pub nine-digits : line_from 0 0 (48 ∷ 48 ∷ 48 ∷ 48 ∷ 48 ∷ 48 ∷ 48 ∷ 48 ∷ 51 ∷ 10 ∷ rest) ≡ counted 3 rest
  unfolding line_from
  nine-digits = refl

  -- `0` is a count: a plan without a byte
  pub zero-counts : outcomes_of (48 ∷ 10 ∷ rest) ≡ plan_of [] ∷ outcomes_of rest
  unfolding line_from
  zero-counts = count_fits 48 (10 ∷ rest) 0 rest refl (omega arith)

-- a count line without its LF at the end of the input
pub no-feed : (outcomes_of (51 ∷ []) ≡ refused 13 ∷ []) × (outcomes_of (48 ∷ []) ≡ refused 13 ∷ [])
unfolding line_from
no-feed = (no-count 51 [] refl, no-count 48 [] refl)
