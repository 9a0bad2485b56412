-- `kihavute_sin` meets its contract: what the entry below ensures; and the law of it, since what is passed is an f32 value. Assumes nothing.
use denote.Floats.{passes}
use Rattle.kihavute.proofs.Keeping.{sine-kept}
use Rattle.kihavute.proofs.turns.kihavute_sin.Goals as goal

pub returns : goal.returns
returns c = record { value = c.sin.ensures; sine_kept = sine-kept _ (passes _ c.well_formed.0.1) c.sin.ensures }
