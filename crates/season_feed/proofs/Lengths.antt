-- The lengths of a season, and how long its sheet is. Assumes nothing.
use Prim.Native.Nat.{ℕ, zero, suc, ◌≤◌, ◌<◌}
use mathlib.Core.Path.{◌≡◌, refl, sym, ap, ◌∙◌, subst}
use mathlib.Core.Bool.{Bool, true, false, cond}
use mathlib.Core.List.{List, [], ◌∷◌, ◌++◌}
use native.Mathlib.Omega.{arith}
use lib.Dec.{ltb}
use lib.ListN.{length, get_or, take, drop}
use Rattle.season_plan.specs.Plans.{Outcome, accepted, refused, plan_of}
use Rattle.season_plan.proofs.Bounds.{Bounded, plan-bounded}
use Rattle.season_sheet.specs.Lengths.{none_of, measured, Extremes}
use Rattle.season_sheet.proofs.Measuring.{measured-extremes}
use Rattle.season_sheet.proofs.Sizes.{lines-short}
use Rattle.season_feed.specs.Seasons.{CountLine, counted, none, line_from, planned, lined, outcomes_from, outcomes_of, length_in, lengths_in, counts_of, sheet_for, sheet_of}

-- each outcome of an input keeps its bounds
unfoldable AllBounded : List Outcome → Type 0
AllBounded [] = Unit {0}
AllBounded (outcome ∷ outcomes) = Bounded outcome × AllBounded outcomes

all-bounded : (plans : ℕ) (input : List ℕ) → AllBounded (outcomes_from plans input)
unfolding outcomes_from AllBounded
all-bounded zero input = tt
all-bounded (suc plans) [] = tt
all-bounded (suc plans) (byte ∷ bytes) = by-line (all-bounded plans) (line_from 0 0 (byte ∷ bytes))
  where
    by_size : ((input : List ℕ) → AllBounded (outcomes_from plans input)) → (size : ℕ) (rest : List ℕ) (b : Bool)
        → AllBounded (cond b (refused 13 ∷ []) (plan_of (take size rest) ∷ outcomes_from plans (drop size rest)))
    by_size more size rest true = (tt, tt)
    by_size more size rest false = (plan-bounded (take size rest), more (drop size rest))

    by-line : ((input : List ℕ) → AllBounded (outcomes_from plans input)) → (line : CountLine) → AllBounded (lined (outcomes_from plans) line)
    by-line more none = (tt, tt)
    by-line more (counted size rest) = by_size more size rest (ltb (length rest) size)

-- so no length of it is above 1,000,000,000
few-millimetres : (outcomes : List Outcome) → AllBounded outcomes → (i : ℕ) → i < length (lengths_in outcomes) → get_or (lengths_in outcomes) i 0 ≤ 1000000000
unfolding lengths_in AllBounded
few-millimetres [] all i h = absurd (omega arith)
few-millimetres (accepted letters kinds m ∷ outcomes) all zero h = all.0.2
few-millimetres (accepted letters kinds m ∷ outcomes) all (suc i) h = few-millimetres outcomes all.1 i (omega arith)
few-millimetres (refused number ∷ outcomes) all i h = few-millimetres outcomes all.1 i h

-- of one accepted plan or more: the shortest is one of their lengths and none is below it, the longest alike, and the sum is that of all
pub season-lengths : (input : List ℕ) → 0 < length (lengths_in (outcomes_of input)) → Extremes (lengths_in (outcomes_of input)) (measured (lengths_in (outcomes_of input)) none_of)
unfolding outcomes_of
season-lengths input some = by (lengths_in (outcomes_of input)) some (few-millimetres (outcomes_of input) (all-bounded (suc (length input)) input))
  where
    by : (lengths : List ℕ) → 0 < length lengths → ((i : ℕ) → i < length lengths → get_or lengths i 0 ≤ 1000000000) → Extremes lengths (measured lengths none_of)
    by [] h few = absurd (omega arith)
    by (x ∷ xs) h few = measured-extremes x xs few

-- 1,024 bytes are enough for every sheet
pub sheet-short : (input : List ℕ) → length (sheet_of input) ≤ 1024
unfolding sheet_of sheet_for
sheet-short input = lines-short (counts_of (outcomes_of input)) (measured (lengths_in (outcomes_of input)) none_of)
