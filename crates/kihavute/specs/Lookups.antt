-- What a lookup gives to C, floats as bits. Definitions only.
use Rattle.std.specs.Prelude.{[], ◌∷◌, Option, Some, None, Result, Ok, Err}
use Rattle.answers.specs.Answers.{Answer, accepted, refused}
use Rattle.answers.specs.declared.refusals.Refusal.{Refusal}
use Rattle.floats.specs.Floats.{bits_of}
use Rattle.table.specs.declared.quantities.RawParameter.{RawParameter}
use Rattle.table.specs.declared.tables.Spot.{Spot}

-- the raw parameter
abbrev pub raw_given : Result RawParameter Refusal → Answer
raw_given (Ok raw) = accepted (bits_of raw.value ∷ [])
raw_given (Err refusal) = refused refusal

-- the segment, and the progress on it; a path without segments gives nothing
abbrev pub spot_given : Result (Option Spot) Refusal → Answer
spot_given (Ok (Some spot)) = accepted (spot.segment ∷ bits_of spot.progress.value ∷ [])
spot_given (Ok None) = accepted []
spot_given (Err refusal) = refused refusal
