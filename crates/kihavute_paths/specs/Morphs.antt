-- What resampling and a morph give to C: the answer, and one or two outputs, which stay as they were where the answer is short. Definitions only.
use Rattle.std.specs.Prelude.{ℕ, ◌≡◌, cond, List, [], ◌∷◌, Float, length, Result, Ok, Err}
use Rattle.std.specs.Borrow.{MutBor}
use denote.Triple.Both.{Both}
use Rattle.answers.specs.Answers.{Answer, accepted, refused}
use Rattle.answers.specs.Report.{written, short}
use Rattle.floats.specs.Floats.{bits_of}
use Rattle.resample.specs.Resample.{Outcome, answered, written_by}
use Rattle.morph.specs.Morph.{Outcomes, morph_of, first_written, second_written}
use Rattle.morph.specs.Morph as Morph
use Rattle.answers.specs.declared.refusals.Refusal.{Refusal}
use Rattle.morph.specs.declared.morphing.Morphed.{Morphed}
use Rattle.morph.specs.declared.bounding.Bounds.{Bounds}
use Rattle.c_answer.specs.Given.{Given}

-- one output
pub record Put (outcome : Outcome) (before : List Float) (answer : List ℕ) (returned : ℕ) (after : List Float) (answer' : List ℕ) : Type 0 where
  pub given : Given (answered outcome) answer returned answer'
  pub output : after ≡ cond (short answer) before (written (written_by outcome) before)

-- two outputs
pub record PutTwo (outcome : Outcomes) (one other : List Float) (answer : List ℕ) (returned : ℕ) (one' other' : List Float) (answer' : List ℕ) : Type 0 where
  pub given : Given (Morph.answered outcome) answer returned answer'
  pub first : one' ≡ cond (short answer) one (written (first_written outcome) one)
  pub second : other' ≡ cond (short answer) other (written (second_written outcome) other)

-- a slice that is lent to be written, before and after
abbrev Lent : Type 0 → Type 0
Lent A = Both (MutBor (List A)) (MutBor (List A))

-- both outputs and the answer of a morph to so many points
abbrev pub PutMorph : List Float → List Float → ℕ → Lent Float → Lent Float → Lent ℕ → ℕ → Type 0
PutMorph from to count one other answer returned =
    PutTwo (morph_of from to count (length one.entry.now) (length other.entry.now)) one.entry.now other.entry.now answer.entry.now
    returned one.exit.now other.exit.now answer.exit.now

-- each case by its number and values
abbrev pub morphed_given : Result Morphed Refusal → Answer
morphed_given morphed = Morph.answer_of morphed

-- the bounds: the smallest x and y, then the largest
abbrev pub bounds_given : Result Bounds Refusal → Answer
bounds_given (Ok b) = accepted (bits_of b.min_x ∷ bits_of b.min_y ∷ bits_of b.max_x ∷ bits_of b.max_y ∷ [])
bounds_given (Err refusal) = refused refusal
