-- The answer at a progress in document 01's terms: six values, floats as bits. Definitions only.
use Rattle.std.specs.Prelude.{ℕ, [], ◌∷◌, Option, Some, None, Result, Ok, Err}
use Rattle.answers.specs.declared.refusals.Refusal.{Refusal}
use Rattle.answers.specs.Answers.{Answer, accepted, refused}
use Rattle.floats.specs.Floats.{bits_of}
use Rattle.flight.specs.declared.Flight.{Flight}

-- 2^32 - 1, which is no segment's number: a path has at most 65,536
abbrev pub no_segment : ℕ
no_segment = 4294967295

abbrev pub segment_given : Option ℕ → ℕ
segment_given (Some number) = number
segment_given None = no_segment

-- x and y of the position, x and y of the tangent, the segment, the raw parameter
abbrev pub flight_given : Result Flight Refusal → Answer
flight_given (Ok flight) =
    accepted (bits_of flight.position.x ∷ bits_of flight.position.y ∷ bits_of flight.tangent.x ∷ bits_of flight.tangent.y
    ∷ segment_given flight.segment ∷ bits_of flight.raw.value ∷ [])
flight_given (Err refusal) = refused refusal
