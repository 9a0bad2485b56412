-- The answer of `resample` (document 01, "The answers"): "For points: 9, 13 (points, then the count), 11, 8". Definitions only.
use Rattle.std.specs.Prelude.{ℕ, ◌≡◌, cond, List, [], ◌∷◌, ltb, length, Float, Result, Ok, Err}
use Rattle.answers.specs.Answers.{Answer, refused, accepted}
use Rattle.answers.specs.Report.{written}
use Rattle.answers.specs.declared.refusals.Values.TheVariants.{One}
use Rattle.answers.specs.declared.refusals.Refusal.{Refusal}
use Rattle.answers.specs.declared.refusals.Refusal.TheVariants.{NoRoom, Range}
use Rattle.polyline.specs.Judging.{judge_of}
use Rattle.resample.specs.Planning.{plan_of, rows_by}
use Rattle.resample.specs.declared.spreading.Way.{Way}

-- what a call comes to: the numbers of its output, or a refusal
pub data Outcome : Type 0 where
  numbers : List Float → Outcome
  refusal : Refusal → Outcome

-- 9 and 13 of the points come before the rest
abbrev pub after : Result (Unit {0}) Refusal → Outcome → Outcome
after (Ok fine) rest = rest
after (Err reason) rest = refusal reason

-- 8: "all else is right and a lent output is too short", with "the count needed"
abbrev pub roomed : ℕ → List Float → Outcome
roomed room list = cond (ltb room (length list)) (refusal (NoRoom (One (length list)))) (numbers list)

-- 11 comes before 8
abbrev pub by_plan : List Float → ℕ → ℕ → Result Way Refusal → Outcome
by_plan points count room (Ok way) = roomed room (rows_by points count way)
by_plan points count room (Err reason) = refusal reason

-- into an output of so many places; 13: "resampled count above 4,096"
unfoldable pub resample_of : List Float → ℕ → ℕ → Outcome
resample_of points count room = after (judge_of points) (cond (ltb 4096 count) (refusal (Range count)) (by_plan points count room (plan_of points count)))

-- the number and the values of each case; an accepted call answers with the count of its numbers
abbrev pub answer_of : Result ℕ Refusal → Answer
answer_of (Ok count) = accepted (count ∷ [])
answer_of (Err reason) = refused reason

abbrev pub answered : Outcome → Answer
answered (numbers list) = accepted (length list ∷ [])
answered (refusal reason) = refused reason

-- "A refusal writes to no output. An accepted call writes the counted places from each output's start and no others."
abbrev pub written_by : Outcome → List Float
written_by (numbers list) = list
written_by (refusal reason) = []

pub record Resample (points : List Float) (count : ℕ) (before : List Float) (r : Result ℕ Refusal) (after : List Float) : Type 0 where
  pub answer : answer_of r ≡ answered (resample_of points count (length before))
  pub output : after ≡ written (written_by (resample_of points count (length before))) before
