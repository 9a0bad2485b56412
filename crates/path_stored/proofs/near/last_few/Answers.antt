-- `path_stored::near::last_few` meets its contract: what is shifted out are the lanes before the last few. Assumes nothing.
use mathlib.Core.Path.{refl}
use Rattle.path_stored.proofs.Lanes.{last-lanes}
use Rattle.path_stored.proofs.near.last_few.Goals as goal

pub returns : goal.returns
returns c =
    last-lanes c.args.kinds.now c.requires.known c.args.end c.args.few _ _ c.requires.word.enough c.requires.word.inside c.requires.short refl c.word_before.ensures
