-- What an answer about a curve has in common with its record: 0 or the refusal's number, and the bits where it is 0. Definitions only.
use Rattle.std.specs.Prelude.{ℕ, ◌+◌, Bool, ◌&&◌, List, ◌==◌, Float, Result, Ok, Err}
use Rattle.answers.specs.Answers.{number_of}
use Rattle.answers.specs.declared.refusals.Refusal.{Refusal}
use Rattle.math.specs.declared.points.Point.{Point}
use Rattle.replay_records.specs.Records.{pattern_of}
use Rattle.replay_records.specs.Given.{has_bits, same_point}

abbrev pub verdict_number : Result (Unit {0}) Refusal → ℕ
verdict_number (Ok _) = 0
verdict_number (Err refusal) = number_of refusal

abbrev pub placed_as : Result Point Refusal → ℕ → ℕ → ℕ → Bool
placed_as (Ok p) due x y = due == 0 && same_point p x y
placed_as (Err refusal) due x y = number_of refusal == due

abbrev pub turned_as : Result Float Refusal → ℕ → ℕ → Bool
turned_as (Ok own) due degrees = due == 0 && has_bits own degrees
turned_as (Err refusal) due degrees = number_of refusal == due

-- a place, a direction and a heading, five patterns one after the other
abbrev pub same_answers : Result Point Refusal → Result Point Refusal → Result Float Refusal → List ℕ → ℕ → Bool
same_answers position tangent heading text at =
    placed_as position 0 (pattern_of text at) (pattern_of text (at + 8)) && placed_as tangent 0 (pattern_of text (at + 16)) (pattern_of text (at + 24))
    && turned_as heading 0 (pattern_of text (at + 32))
