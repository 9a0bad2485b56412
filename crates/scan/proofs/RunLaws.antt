-- What stands at a place, and the place past it, over any class of bytes. Assumes nothing.
use Prim.Native.Nat.{ℕ, ◌+◌, ◌≤◌, ◌<◌}
use mathlib.Core.Path.{◌≡◌, sym, ◌∙◌, ap}
use mathlib.Core.Bool.{true, false, cond}
use mathlib.Core.Logic.{⊎_elim}
use mathlib.Core.List.{List}
use native.Mathlib.Omega.{arith}
use lib.Dec.{ltb}
use borrow.Author.Tests.{lt-ltb, le-ltb, ltb-true, ltb-false}
use lib.ListN.{length, get_or, get_or-eq_default}
use Rattle.scan.specs.Bytes.{among}
use Rattle.scan.specs.Runs.{stands, past_one, past_all}
use Rattle.scan.proofs.ByteLaws.{clash, either_way}
use Rattle.scan.proofs.ScanLaws.{scan-pass, scan-stop, scan-end, scan-onward, scan-within, scan-passed, scan-stopped, scan-again}

module _ (class text : List ℕ) (at : ℕ) where
  -- within the text, what stands at a place is a matter of its byte
  pub stands-inside : at < length text → stands text at class ≡ among (get_or text at 0) class
  unfolding stands
  stands-inside inside = simp (lt-ltb at (length text) inside)

  pub stands-past : length text ≤ at → stands text at class ≡ false
  unfolding stands
  stands-past past = simp (le-ltb at (length text) past)

  pub one-taken : at < length text → among (get_or text at 0) class ≡ true → at + 1 ≡ past_one class text at
  unfolding past_one
  one-taken inside is = sym (ap (λ t. cond t (at + 1) at) (stands-inside inside ∙ is))

  pub one_left : at < length text → among (get_or text at 0) class ≡ false → at ≡ past_one class text at
  unfolding past_one
  one_left inside isnt = sym (ap (λ t. cond t (at + 1) at) (stands-inside inside ∙ isnt))

  pub one_end : length text ≤ at → at ≡ past_one class text at
  unfolding past_one
  one_end past = sym (ap (λ t. cond t (at + 1) at) (stands-past past))

  -- a byte of the class stands at a place: the run from the next place ends where the run from here does
  pub all_pass : at < length text → among (get_or text at 0) class ≡ true → past_all class text (at + 1) ≡ past_all class text at
  unfolding past_all
  all_pass inside is = scan-pass (λ byte. among byte class) text 0 at inside is

  pub all-stop : at < length text → among (get_or text at 0) class ≡ false → past_all class text at ≡ at
  unfolding past_all
  all-stop inside isnt = scan-stop (λ byte. among byte class) text 0 at inside isnt

  pub all_end : length text ≤ at → past_all class text at ≡ at
  unfolding past_all
  all_end past = scan-end (λ byte. among byte class) text at past

  -- the byte at a place, which is 0 past the text, tells as much: 0 is of no class
  pub byte_inside : among 0 class ≡ false → among (get_or text at 0) class ≡ true → at < length text
  byte_inside none is =
      ⊎_elim (λ e. ltb-true at (length text) e) (λ e. absurd (clash is (ap (λ b. among b class) (get_or-eq_default text 0 (ltb-false at (length text) e)) ∙ none)))
      (either_way (ltb at (length text)))

  pub one_byte : among 0 class ≡ false → among (get_or text at 0) class ≡ true → at + 1 ≡ past_one class text at
  one_byte none is = one-taken (byte_inside none is) is

  pub one_none : among (get_or text at 0) class ≡ false → at ≡ past_one class text at
  one_none isnt =
      ⊎_elim (λ e. one_left (ltb-true at (length text) e) isnt) (λ e. one_end (ltb-false at (length text) e)) (either_way (ltb at (length text)))

  pub all_none : among (get_or text at 0) class ≡ false → past_all class text at ≡ at
  all_none isnt =
      ⊎_elim (λ e. all-stop (ltb-true at (length text) e) isnt) (λ e. all_end (ltb-false at (length text) e)) (either_way (ltb at (length text)))

  -- a byte of the class stands at a place, or none does and the place is past the run
  pub one-step : (stands text at class ≡ true → past_one class text at ≡ at + 1) × (stands text at class ≡ false → past_one class text at ≡ at)
  unfolding past_one
  one-step = (ap (λ t. cond t (at + 1) at), ap (λ t. cond t (at + 1) at))

  pub one-onward : at ≤ past_one class text at
  one-onward =
      ⊎_elim (λ h. let e = one-step.0 h in omega arith) (λ h. let e = one-step.1 h in omega arith) (either_way (stands text at class))

  -- where a byte stands is within the text
  pub stands-within : stands text at class ≡ true → at < length text
  stands-within h =
      ⊎_elim (λ e. ltb-true at (length text) e) (λ e. absurd (clash h (stands-past (ltb-false at (length text) e)))) (either_way (ltb at (length text)))

  -- the byte that stands there is of the class
  pub stands-among : stands text at class ≡ true → among (get_or text at 0) class ≡ true
  stands-among h = sym (stands-inside (stands-within h)) ∙ h

  pub one-within : at ≤ length text → past_one class text at ≤ length text
  one-within inside =
      ⊎_elim (λ h. let e = one-step.0 h in let w = stands-within h in omega arith) (λ h. let e = one-step.1 h in omega arith)
      (either_way (stands text at class))

  pub all-onward : at ≤ past_all class text at
  unfolding past_all
  all-onward = scan-onward (λ byte. among byte class) text at

  pub all-within : at ≤ length text → past_all class text at ≤ length text
  unfolding past_all
  all-within inside = scan-within (λ byte. among byte class) text at inside

  -- every byte of a run is of the class
  pub all-passed : (k : ℕ) → at ≤ k → k < past_all class text at → among (get_or text k 0) class ≡ true
  unfolding past_all
  all-passed k from upto = scan-passed (λ byte. among byte class) text 0 at k from upto

module _ (class text : List ℕ) (at : ℕ) where
  -- at every place of a run a byte of the class stands
  pub all-stands : (k : ℕ) → at ≤ k → k < past_all class text at → stands text k class ≡ true
  all-stands k from upto = ⊎_elim within (λ e. absurd (past (ltb-false at (length text) e))) (either_way (ltb at (length text)))
    where
      within : ltb at (length text) ≡ true → stands text k class ≡ true
      within e =
          let h = all-within class text at (omega (arith, ltb-true at (length text) e)) in
          stands-inside class text k (omega arith) ∙ all-passed class text at k from upto

      past : length text ≤ at → ⊥
      past h = omega (arith, all_end class text at h)

  all-fails : past_all class text at < length text → among (get_or text (past_all class text at) 0) class ≡ false
  unfolding past_all
  all-fails inside = scan-stopped (λ byte. among byte class) text 0 at inside

  -- where a run ends no byte of the class stands
  pub all-stopped : stands text (past_all class text at) class ≡ false
  all-stopped = ⊎_elim inside (λ e. stands-past class text _ (ltb-false _ (length text) e)) (either_way (ltb (past_all class text at) (length text)))
    where
      inside : ltb (past_all class text at) (length text) ≡ true → stands text (past_all class text at) class ≡ false
      inside e = let h = ltb-true _ (length text) e in stands-inside class text _ h ∙ all-fails h

  -- and a second run does not move
  pub all-again : past_all class text (past_all class text at) ≡ past_all class text at
  unfolding past_all
  all-again = scan-again (λ byte. among byte class) text 0 at
