-- `path_stored::near::tables_near` meets its contract: the last eight, or all, and those before them. Assumes nothing.
use Prim.Native.Nat.{◌-◌}
use native.Mathlib.Omega.{arith}
use Rattle.path_segment.specs.Segments.{tables_of}
use Rattle.path_stored.proofs.Lanes.{Halves, halves, lanes-most, joined, tables-few}
use Rattle.path_stored.proofs.near.tables_near.Goals as goal

pub tables_of_last-high-requires : goal.tables_of_last-high-requires
tables_of_last-high-requires c =
    let parts : Halves (c.args.to - c.args.from) c.at_most_eight-last.result = halves _ _ c.at_most_eight-last.ensures (omega arith) in
    record { word = record { enough = omega arith; inside = c.requires.inside }; short = parts.short; known = c.requires.known }

pub overflow_sub-few-2 : goal.overflow_sub-few-2
overflow_sub-few-2 c =
    let parts : Halves (c.args.to - c.args.from) c.at_most_eight-last.result = halves _ _ c.at_most_eight-last.ensures (omega arith) in
    omega arith

pub tables_of_last-low-requires : goal.tables_of_last-low-requires
tables_of_last-low-requires c =
    let parts : Halves (c.args.to - c.args.from) c.at_most_eight-last.result = halves _ _ c.at_most_eight-last.ensures (omega arith) in
    record { word = record { enough = omega arith; inside = omega arith }; short = parts.rest; known = c.requires.known }

-- no number of eight lanes is large
pub overflow_add-result : goal.overflow_add-result
overflow_add-result c =
    let parts : Halves (c.args.to - c.args.from) c.at_most_eight-last.result = halves _ _ c.at_most_eight-last.ensures (omega arith) in
    let high = lanes-most tables_of tables-few c.args.kinds.now c.requires.known _ _ _ parts.short (omega arith) c.tables_of_last-high.ensures in
    let low = lanes-most tables_of tables-few c.args.kinds.now c.requires.known _ _ _ parts.rest (omega arith) c.tables_of_last-low.ensures in
    record { fits = omega arith }

pub returns : goal.returns
returns c =
    joined c.args.kinds.now c.requires.known tables_of tables-few c.args.from c.args.to _ _ _ c.requires c.at_most_eight-last.ensures c.tables_of_last-high.ensures c.tables_of_last-low.ensures
