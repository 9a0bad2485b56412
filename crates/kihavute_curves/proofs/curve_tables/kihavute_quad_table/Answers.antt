-- `kihavute_quad_table` meets its contract: what fills the output is the made quad's. Assumes nothing.
use mathlib.Core.Path.{sym, ◌∙◌}
use Rattle.kihavute_curves.proofs.curve_tables.kihavute_quad_table.Goals as goal

pub returns-in-Ok : goal.returns-in-Ok
returns-in-Ok c = rw (sym c.quad.ensures ∙ c.in-Ok.is, sym c.table_numbers-numbers.ensures) c.fill.ensures

pub returns-in-Err : goal.returns-in-Err
returns-in-Err c = rw (sym c.quad.ensures ∙ c.in-Err.is) c.fill-in-Err.ensures
