-- `path_place::cursors::back` meets its contract. Assumes nothing.
use Prim.Native.Nat.{◌≤◌}
use lib.ListN.{length}
use Rattle.path_place.proofs.Walks.{walked_from, walked-is, width-passed, table-passed, walked-back}
use native.Mathlib.Omega.{arith}
use Rattle.path_place.proofs.cursors.back.Goals as goal

pub loop-at-init : goal.loop-at-init
loop-at-init c = (c.requires.earlier, walked_from c.requires.is)

pub overflow_sub-fields : goal.overflow_sub-fields
overflow_sub-fields c =
    let inside : c.loop-at.at ≤ length c.args.kinds.now = omega (arith, c.requires.inside) in
    omega (arith, width-passed c.loop-at.invariant.1 (omega arith) inside _ c.width-fields.ensures)

pub overflow_sub-tables : goal.overflow_sub-tables
overflow_sub-tables c =
    let inside : c.loop-at.at ≤ length c.args.kinds.now = omega (arith, c.requires.inside) in
    omega (arith, table-passed c.loop-at.invariant.1 (omega arith) inside _ c.table_width-tables.ensures)

pub loop-at-preserved : goal.loop-at-preserved
loop-at-preserved c =
    let inside : c.loop-at.at ≤ length c.args.kinds.now = omega (arith, c.requires.inside) in
    (omega arith, walked-back c.loop-at.invariant.1 (omega arith) inside _ _ c.width-fields.ensures c.table_width-tables.ensures)

pub returns : goal.returns
returns c = walked-is _ c.loop-at.invariant.1 (omega arith)
