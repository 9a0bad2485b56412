-- A call that puts numbers into a lent output (document 01, "The answers"): what it answers and what stands there afterwards. Definitions only.
use Rattle.std.specs.Prelude.{ℕ, ◌≡◌, cond, List, [], ◌∷◌, ◌++◌, ltb, length, Float, Result, Ok, Err}
use Rattle.answers.specs.declared.refusals.Values.TheVariants.{One}
use Rattle.answers.specs.declared.refusals.Refusal.{Refusal}
use Rattle.answers.specs.declared.refusals.Refusal.TheVariants.{NoRoom}
use Rattle.answers.specs.Answers.{Answer, accepted, refused}
use Rattle.answers.specs.Report.{Report, written, short}
use Rattle.table.specs.declared.tables.Table.{Table}
use Rattle.ellipse.specs.declared.ends.Arc.{Arc}

-- "NoRoom: all else is right and a lent output is too short"; it carries "the count needed of each output"
abbrev pub fill_answer : Result (Unit {0}) Refusal → List ℕ → List Float → List Float → Answer
fill_answer (Ok _) values numbers out = cond (ltb (length out) (length numbers)) (refused (NoRoom (One (length numbers)))) (accepted values)
fill_answer (Err refusal) values numbers out = refused refusal

-- "A refusal writes to no output. An accepted call writes the counted places from each output's start and no others."
abbrev pub fill_output : Result (Unit {0}) Refusal → List Float → List Float → List Float
fill_output (Ok _) numbers out = cond (ltb (length out) (length numbers)) out (written numbers out)
fill_output (Err refusal) numbers out = out

-- an answer of fewer than 8 places is judged before all else, and then nothing is written at all
pub record Filled (verdict : Result (Unit {0}) Refusal) (values : List ℕ) (numbers out : List Float) (answer : List ℕ) (returned : ℕ) (out_after : List Float) (answer_after : List ℕ) : Type 0 where
  pub answers : Report (fill_answer verdict values numbers out).number (fill_answer verdict values numbers out).values answer returned answer_after
  pub output : out_after ≡ cond (short answer) out (fill_output verdict numbers out)

-- "32 running lengths and their total together": the entries, then the total
abbrev pub table_numbers : Table → List Float
table_numbers table = table.entries ++ table.total ∷ []

-- "the Rust's fields without `length` and `line_fallback`", in their order
abbrev pub arc_numbers : Arc → List Float
arc_numbers shape =
    shape.start.x
    ∷ shape.start.y
    ∷ shape.end.x
    ∷ shape.end.y
    ∷ shape.center.x
    ∷ shape.center.y
    ∷ shape.radii.x
    ∷ shape.radii.y
    ∷ shape.x_axis_rotation
    ∷ shape.start_angle
    ∷ shape.delta_angle
    ∷ []
