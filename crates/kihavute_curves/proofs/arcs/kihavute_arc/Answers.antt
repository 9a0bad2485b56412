-- `kihavute_arc` meets its contract: a made arc can be asked, and what it answers is given. Assumes nothing.
use mathlib.Core.Path.{sym, ◌∙◌}
use Rattle.kihavute_curves.proofs.LoneGiven.{arc-askable}
use Rattle.kihavute_curves.proofs.arcs.kihavute_arc.Goals as goal

pub arc_lone-requires : goal.arc_lone-requires
arc_lone-requires c = arc-askable _ (sym c.made.ensures ∙ c.in-Ok.is)

pub returns-in-Ok : goal.returns-in-Ok
returns-in-Ok c = rw (sym c.made.ensures ∙ c.in-Ok.is, sym c.arc_lone.ensures) c.give_lone.ensures

pub returns-in-Err : goal.returns-in-Err
returns-in-Err c = rw (sym c.made.ensures ∙ c.in-Err.is) c.refuse.ensures
