-- `path_build::passes::fill` meets its contract. Assumes nothing.
use native.Mathlib.Omega.{arith}
use Rattle.path_build.proofs.Along.{storing-none, stored-kinds, stored-fields, stored-tables, stored-lengths}
use Rattle.path_build.proofs.Along.{stored-commands, stored-all, storing-number, storing-asks, storing-next}
use Rattle.path_build.proofs.passes.fill.Goals as goal

pub loop-letter_at-init : goal.loop-letter_at-init
loop-letter_at-init c = rw c.start-site.ensures (storing-none _ c.requires)

-- the count of commands and that of segments fit
pub overflow_cast-number : goal.overflow_cast-number
overflow_cast-number c =
    let asks = storing-asks c.loop-letter_at.invariant c.requires c.loop-letter_at-test.true in
    omega (arith, storing-number c.loop-letter_at.invariant c.requires c.loop-letter_at-test.true, asks.1.segments)

pub lay_at-site-requires : goal.lay_at-site-requires
lay_at-site-requires c = storing-asks c.loop-letter_at.invariant c.requires c.loop-letter_at-test.true

pub overflow_add-at : goal.overflow_add-at
overflow_add-at c =
    let asks = storing-asks c.loop-letter_at.invariant c.requires c.loop-letter_at-test.true in
    omega (arith, asks.0, c.stride-at.ensures)

pub loop-letter_at-preserved : goal.loop-letter_at-preserved
loop-letter_at-preserved c =
    storing-next c.loop-letter_at.invariant c.requires c.loop-letter_at-test.true c.stride-at.ensures c.lay_at-site.ensures

pub shape_of-kinds : goal.shape_of-kinds
shape_of-kinds c = stored-kinds c.loop-letter_at.invariant c.requires

pub shape_of-fields : goal.shape_of-fields
shape_of-fields c = stored-fields c.loop-letter_at.invariant c.requires

pub shape_of-tables : goal.shape_of-tables
shape_of-tables c = stored-tables c.loop-letter_at.invariant c.requires

pub shape_of-lengths : goal.shape_of-lengths
shape_of-lengths c = stored-lengths c.loop-letter_at.invariant c.requires

pub shape_of-commands : goal.shape_of-commands
shape_of-commands c = stored-commands c.loop-letter_at.invariant c.requires

pub returns : goal.returns
returns c = stored-all c.loop-letter_at.invariant c.requires c.loop-letter_at-test.false
