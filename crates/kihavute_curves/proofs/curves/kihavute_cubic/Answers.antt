-- `kihavute_cubic` meets its contract: a made cubic can be asked, and what it answers is given. Assumes nothing.
use mathlib.Core.Path.{sym, ◌∙◌}
use Rattle.kihavute_curves.proofs.LoneGiven.{cubic-askable}
use Rattle.kihavute_curves.proofs.curves.kihavute_cubic.Goals as goal

pub cubic_lone-requires : goal.cubic_lone-requires
cubic_lone-requires c = cubic-askable _ _ _ _ (sym c.cubic.ensures ∙ c.in-Ok.is)

pub returns-in-Ok : goal.returns-in-Ok
returns-in-Ok c = rw (sym c.cubic.ensures ∙ c.in-Ok.is, sym c.cubic_lone.ensures) c.give_lone.ensures

pub returns-in-Err : goal.returns-in-Err
returns-in-Err c = rw (sym c.cubic.ensures ∙ c.in-Err.is) c.refuse.ensures
