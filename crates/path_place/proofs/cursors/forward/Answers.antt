-- `path_place::cursors::forward` meets its contract. Assumes nothing.
use Rattle.path_place.proofs.Walks.{walked_from, walked-is, walked_next, walked-fields, walked-tables, width-at-most, table-at-most}
use native.Mathlib.Omega.{arith}
use Rattle.path_place.proofs.cursors.forward.Goals as goal

pub loop-at-init : goal.loop-at-init
loop-at-init c = walked_from c.requires.is

pub overflow_add-fields : goal.overflow_add-fields
overflow_add-fields c = omega (arith, walked-fields c.loop-at.invariant (omega (arith, c.requires.inside, c.requires.few)), width-at-most _ _ c.width-fields.ensures)

pub overflow_add-tables : goal.overflow_add-tables
overflow_add-tables c = omega (arith, walked-tables c.loop-at.invariant (omega (arith, c.requires.inside, c.requires.few)), table-at-most _ _ c.table_width-tables.ensures)

pub loop-at-preserved : goal.loop-at-preserved
loop-at-preserved c = walked_next _ _ c.loop-at.invariant (omega (arith, c.requires.inside)) c.width-fields.ensures c.table_width-tables.ensures

pub returns : goal.returns
returns c = walked-is _ c.loop-at.invariant (omega (arith, c.requires.later))
