-- The lookup of 0 in a single 0 gives the clamped 0, which is 0. Assumes nothing.
use mathlib.Core.Path.{ap, ◌∙◌}
use lib.Ieee.{Float, lt, le, ne, is_nan, of_bits}
use Rattle.floats.specs.Floats.{zero_f, one_f, min_of, max_of, clamp_of, clamp01_of}
use Rattle.table.proofs.Single.{single-sound, single-raw}
use Rattle.std.specs.Prelude.{None}
use Rattle.math.specs.Math.{origin_f}
use Rattle.path_query.proofs.flying.nowhere.Goals as goal

pub raw_parameter_in-raw-requires : goal.raw_parameter_in-raw-requires
unfolding zero_f
raw_parameter_in-raw-requires c = single-sound

pub returns : goal.returns
unfolding origin_f zero_f one_f clamp01_of clamp_of min_of max_of lt le is_nan of_bits ne
returns c = ap (λ (x : Float). record { position = origin_f; tangent = origin_f; segment = None; raw = record { value = x } }) (c.raw_parameter_in-raw.ensures ∙ single-raw _)
