-- What an answer has in common with its record. Definitions only.
use Rattle.std.specs.Prelude.{ℕ, ◌+◌, Bool, ◌&&◌, List, ◌==◌, slice_index, Float}
use Rattle.answers.specs.declared.refusals.Values.{Values}
use Rattle.answers.specs.Answers.{listed}
use Rattle.floats.specs.Floats.{bits_of}
use Rattle.math.specs.declared.points.Point.{Point}
use Rattle.math.specs.Math.{point_of}
use Rattle.replay_records.specs.Records.{pattern_of, float_of}

abbrev pub has_bits : Float → ℕ → Bool
has_bits x due = bits_of x == due

abbrev pub same_point : Point → ℕ → ℕ → Bool
same_point p x y = has_bits p.x x && has_bits p.y y

-- x at the offset, y eight digits past it
abbrev pub point_from : List ℕ → ℕ → Point
point_from text at = point_of (float_of (pattern_of text at)) (float_of (pattern_of text (at + 8)))

-- the first of the values, or 0
abbrev pub first_of : Values → ℕ
first_of values = slice_index (listed values) 0
