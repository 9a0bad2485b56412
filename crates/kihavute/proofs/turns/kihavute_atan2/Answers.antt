-- `kihavute_atan2` meets its contract: what the entry below ensures, which `tidy` keeps; and the law of it, since what is passed are f32 values. Assumes nothing.
use mathlib.Core.Path.{◌∙◌}
use denote.Floats.{passes}
use Rattle.kihavute.proofs.Keeping.{atan2-kept, atan2-settled}
use Rattle.kihavute.proofs.turns.kihavute_atan2.Goals as goal

pub returns : goal.returns
returns c =
    let same = c.tidy.ensures ∙ c.atan2.ensures in
    let rise = passes _ c.well_formed.0.1 in
    let run = passes _ c.well_formed.1.0.1 in
    record { value = same; atan2_kept = atan2-kept _ _ rise run same; atan2_settled = atan2-settled _ _ run same }
