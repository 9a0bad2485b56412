-- What the queries answer (document 01, "A path or spline query: 12 only."). Definitions only.
use Rattle.std.specs.Prelude.{cond, Float, Result, Ok, Err}
use Rattle.answers.specs.declared.refusals.Refusal.{Refusal}
use Rattle.answers.specs.declared.refusals.Refusal.TheVariants.{BadPath}
use Rattle.angles.specs.Angles.{rotation_deg_of}
use Rattle.flight.specs.declared.Flight.{Flight}
use Rattle.path_stored.specs.Buffers.{Buffers}
use Rattle.path_stored.specs.Stored.{is_stored}
use Rattle.path_query.specs.Flights.{flight_of}

unfoldable pub flew_of : Buffers → Float → Result Flight Refusal
flew_of b progress = cond (is_stored b) (Ok (flight_of b progress)) (Err BadPath)

-- `PathEvaluate`'s own `rotation_deg`: that of the tangent
abbrev pub turn_from : Result Flight Refusal → Result Float Refusal
turn_from (Ok flight) = Ok (rotation_deg_of flight.tangent)
turn_from (Err refusal) = Err refusal

unfoldable pub turned_of : Buffers → Float → Result Float Refusal
unfolding flew_of
turned_of b progress = turn_from (flew_of b progress)
