-- `kihavute_quad` meets its contract: a made quad can be asked, and what it answers is given. Assumes nothing.
use mathlib.Core.Path.{sym, ◌∙◌}
use Rattle.kihavute_curves.proofs.LoneGiven.{quad-askable}
use Rattle.kihavute_curves.proofs.curves.kihavute_quad.Goals as goal

pub quad_lone-requires : goal.quad_lone-requires
quad_lone-requires c = quad-askable _ _ _ (sym c.quad.ensures ∙ c.in-Ok.is)

pub returns-in-Ok : goal.returns-in-Ok
returns-in-Ok c = rw (sym c.quad.ensures ∙ c.in-Ok.is, sym c.quad_lone.ensures) c.give_lone.ensures

pub returns-in-Err : goal.returns-in-Err
returns-in-Err c = rw (sym c.quad.ensures ∙ c.in-Err.is) c.refuse.ensures
