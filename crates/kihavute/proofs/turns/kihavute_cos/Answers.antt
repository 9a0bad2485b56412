-- `kihavute_cos` meets its contract: what the entry below ensures; and the law of it, since what is passed is an f32 value. Assumes nothing.
use denote.Floats.{passes}
use Rattle.kihavute.proofs.Keeping.{cosine-kept}
use Rattle.kihavute.proofs.turns.kihavute_cos.Goals as goal

pub returns : goal.returns
returns c = record { value = c.cos.ensures; cosine_kept = cosine-kept _ (passes _ c.well_formed.0.1) c.cos.ensures }
