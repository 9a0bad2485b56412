-- The two shapes of a morph (source document 004, `MorphPath::new`, `with_resolution`), and the answer: "with two shapes each step judges the first, then the second, and the count
-- after both". Definitions only.
use Rattle.std.specs.Prelude.{ℕ, max, ◌≡◌, ◌||◌, cond, List, [], ◌∷◌, ltb, length, Float, Result, Ok, Err}
use Rattle.std.specs.Borrow.{MutBor}
use denote.Triple.Both.{Both}
use Rattle.answers.specs.Answers.{Answer, refused, accepted}
use Rattle.answers.specs.Report.{written}
use Rattle.answers.specs.declared.refusals.Values.TheVariants.{Two}
use Rattle.answers.specs.declared.refusals.Refusal.{Refusal}
use Rattle.answers.specs.declared.refusals.Refusal.TheVariants.{NoRoom, Range}
use Rattle.polyline.specs.Points.{count_of}
use Rattle.polyline.specs.Judging.{judge_two_of}
use Rattle.resample.specs.Planning.{plan_of, rows_by}
use Rattle.resample.specs.declared.spreading.Way.{Way}
use Rattle.morph.specs.declared.morphing.Morphed.{Morphed}

-- "`MorphPath` uses at least 2"
abbrev pub resolved : ℕ → ℕ
resolved resolution = cond (ltb resolution 2) 2 resolution

-- the points of the larger shape
unfoldable pub larger_of : List Float → List Float → ℕ
larger_of from to = max (count_of from) (count_of to)

-- "The default becomes 128, or the larger count if that is more."
unfoldable pub default_of : List Float → List Float → ℕ
default_of from to = max 128 (larger_of from to)

-- 11 of the first shape, then of the second
abbrev pub both : Result Way Refusal → Result Way Refusal → Result (Way × Way) Refusal
both (Err reason) second = Err reason
both (Ok first) (Err reason) = Err reason
both (Ok first) (Ok second) = Ok (first, second)

unfoldable pub plans_of : List Float → List Float → ℕ → Result (Way × Way) Refusal
plans_of from to count = both (plan_of from count) (plan_of to count)

-- what a call comes to: the numbers of its two outputs, or a refusal
pub data Outcomes : Type 0 where
  shapes : List Float → List Float → Outcomes
  refusal : Refusal → Outcomes

-- 9 and 13 of the shapes come before the rest
abbrev pub after : Result (Unit {0}) Refusal → Outcomes → Outcomes
after (Ok fine) rest = rest
after (Err reason) rest = refusal reason

-- 8: "the count needed of each output, in the call's order"
abbrev pub roomed : ℕ → ℕ → List Float → List Float → Outcomes
roomed one other first second =
    cond (ltb one (length first) || ltb other (length second)) (refusal (NoRoom (Two (length first) (length second)))) (shapes first second)

-- 11 comes before 8
abbrev pub by_plans : List Float → List Float → ℕ → ℕ → ℕ → Result (Way × Way) Refusal → Outcomes
by_plans from to count one other (Ok ways) = roomed one other (rows_by from count ways.0) (rows_by to count ways.1)
by_plans from to count one other (Err reason) = refusal reason

-- two shapes at a count, into outputs of so many places
unfoldable pub morph_of : List Float → List Float → ℕ → ℕ → ℕ → Outcomes
morph_of from to count one other = after (judge_two_of from to) (cond (ltb 4096 count) (refusal (Range count)) (by_plans from to count one other (plans_of from to count)))

-- the number and the values of each case; an accepted call answers with the counts of its numbers
abbrev pub answer_of : Result Morphed Refusal → Answer
answer_of (Ok places) = accepted (places.from ∷ places.to ∷ [])
answer_of (Err reason) = refused reason

abbrev pub answered : Outcomes → Answer
answered (shapes first second) = accepted (length first ∷ length second ∷ [])
answered (refusal reason) = refused reason

-- "A refusal writes to no output. An accepted call writes the counted places from each output's start and no others."
abbrev pub first_written : Outcomes → List Float
first_written (shapes first second) = first
first_written (refusal reason) = []

abbrev pub second_written : Outcomes → List Float
second_written (shapes first second) = second
second_written (refusal reason) = []

pub record Morph (from to : List Float) (count : ℕ) (one other : List Float) (r : Result Morphed Refusal) (one' other' : List Float) : Type 0 where
  pub answer : answer_of r ≡ answered (morph_of from to count (length one) (length other))
  pub from_shape : one' ≡ written (first_written (morph_of from to count (length one) (length other))) one
  pub to_shape : other' ≡ written (second_written (morph_of from to count (length one) (length other))) other

-- a slice that is lent to be written, before and after
abbrev Lent : Type 0 → Type 0
Lent A = Both (MutBor (List A)) (MutBor (List A))

-- the same over the two outputs that a call is lent
abbrev pub MorphInto : List Float → List Float → ℕ → Lent Float → Lent Float → Result Morphed Refusal → Type 0
MorphInto from to count one other r = Morph from to count one.entry.now other.entry.now r one.exit.now other.exit.now
