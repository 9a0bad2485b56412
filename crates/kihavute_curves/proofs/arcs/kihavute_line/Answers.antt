-- `kihavute_line` meets its contract: what the made line answers is given. Assumes nothing.
use mathlib.Core.Path.{sym, ◌∙◌}
use Rattle.kihavute_curves.proofs.arcs.kihavute_line.Goals as goal

pub returns-in-Ok : goal.returns-in-Ok
returns-in-Ok c = rw (sym c.line.ensures ∙ c.in-Ok.is, sym c.line_lone.ensures) c.give_lone.ensures

pub returns-in-Err : goal.returns-in-Err
returns-in-Err c = rw (sym c.line.ensures ∙ c.in-Err.is) c.refuse.ensures
