-- What a place and a heading give to C, floats as bits. Definitions only.
use Rattle.std.specs.Prelude.{[], ◌∷◌, Float, Result, Ok, Err}
use Rattle.answers.specs.Answers.{Answer, accepted, refused}
use Rattle.answers.specs.declared.refusals.Refusal.{Refusal}
use Rattle.floats.specs.Floats.{bits_of}
use Rattle.math.specs.declared.points.Point.{Point}

-- a place or a direction: x, then y
abbrev pub place_given : Result Point Refusal → Answer
place_given (Ok p) = accepted (bits_of p.x ∷ bits_of p.y ∷ [])
place_given (Err refusal) = refused refusal

-- a heading in degrees
abbrev pub turn_given : Result Float Refusal → Answer
turn_given (Ok degrees) = accepted (bits_of degrees ∷ [])
turn_given (Err refusal) = refused refusal
