-- `kihavute_sqrt` meets its contract: what the root ensures, which `tidy` keeps; and the law of it, since what is passed is an f32 value. Assumes nothing.
use mathlib.Core.Path.{◌∙◌}
use denote.Floats.{passes}
use Rattle.kihavute.proofs.Keeping.{root-settled}
use Rattle.kihavute.proofs.numbers.kihavute_sqrt.Goals as goal

pub returns : goal.returns
returns c = let same = c.tidy.ensures ∙ c.sqrt.ensures in let settled = root-settled _ (passes _ c.well_formed.0.1) same in record { value = same; root_kept = settled.near; root_settled = settled }
