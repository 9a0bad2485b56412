-- The answer of `evaluate` (document 01, "The answers" and "Points and shapes"): 9, 13, 8, each the first shape, then the second. "Where one shape is empty, evaluating gives no
-- points." Definitions only.
use Rattle.std.specs.Prelude.{ℕ, ◌≡◌, List, [], ◌∷◌, length, Float, Result, Ok, Err}
use Rattle.answers.specs.Answers.{Answer, refused, accepted}
use Rattle.answers.specs.Report.{written}
use Rattle.answers.specs.declared.refusals.Refusal.{Refusal}
use Rattle.polyline.specs.Points.{rows_of}
use Rattle.polyline.specs.Judging.{judge_two_of}
use Rattle.resample.specs.Resample.{Outcome, after, roomed, answered, written_by}
use Rattle.morph.specs.Shapes.{progress_of, shared_of, between_at}

-- the numbers of the shape between
unfoldable pub shape_of : List Float → List Float → Float → List Float
shape_of from to t = rows_of (between_at from to (progress_of t)) (shared_of from to)

-- into an output of so many places
unfoldable pub evaluate_of : List Float → List Float → Float → ℕ → Outcome
evaluate_of from to t room = after (judge_two_of from to) (roomed room (shape_of from to t))

-- the number and the values of each case; an accepted call answers with the count of its numbers
abbrev pub answer_of : Result ℕ Refusal → Answer
answer_of (Ok count) = accepted (count ∷ [])
answer_of (Err reason) = refused reason

pub record Evaluate (from to : List Float) (t : Float) (before : List Float) (r : Result ℕ Refusal) (after : List Float) : Type 0 where
  pub answer : answer_of r ≡ answered (evaluate_of from to t (length before))
  pub output : after ≡ written (written_by (evaluate_of from to t (length before))) before
