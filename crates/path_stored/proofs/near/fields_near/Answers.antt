-- `path_stored::near::fields_near` meets its contract: the last eight, or all, and those before them. Assumes nothing.
use Prim.Native.Nat.{◌-◌}
use native.Mathlib.Omega.{arith}
use Rattle.path_stored.specs.Near.{more_fields}
use Rattle.path_stored.proofs.Lanes.{Halves, halves, lanes-most, joined, all-fields, more-few}
use Rattle.path_stored.proofs.near.fields_near.Goals as goal

pub fields_of_last-high-requires : goal.fields_of_last-high-requires
fields_of_last-high-requires c =
    let parts : Halves (c.args.to - c.args.from) c.at_most_eight-last.result = halves _ _ c.at_most_eight-last.ensures (omega arith) in
    record { word = record { enough = omega arith; inside = c.requires.inside }; short = parts.short; known = c.requires.known }

pub overflow_sub-few-2 : goal.overflow_sub-few-2
overflow_sub-few-2 c =
    let parts : Halves (c.args.to - c.args.from) c.at_most_eight-last.result = halves _ _ c.at_most_eight-last.ensures (omega arith) in
    omega arith

pub fields_of_last-low-requires : goal.fields_of_last-low-requires
fields_of_last-low-requires c =
    let parts : Halves (c.args.to - c.args.from) c.at_most_eight-last.result = halves _ _ c.at_most_eight-last.ensures (omega arith) in
    record { word = record { enough = omega arith; inside = omega arith }; short = parts.rest; known = c.requires.known }

-- no number of eight lanes is large
pub overflow_add-result : goal.overflow_add-result
overflow_add-result c =
    let parts : Halves (c.args.to - c.args.from) c.at_most_eight-last.result = halves _ _ c.at_most_eight-last.ensures (omega arith) in
    let high = lanes-most more_fields more-few c.args.kinds.now c.requires.known _ _ _ parts.short (omega arith) c.fields_of_last-high.ensures in
    let low = lanes-most more_fields more-few c.args.kinds.now c.requires.known _ _ _ parts.rest (omega arith) c.fields_of_last-low.ensures in
    record { fits = omega arith }

pub returns : goal.returns
returns c =
    all-fields c.args.kinds.now c.requires.known c.args.from c.args.to _ c.requires.order c.requires.inside
    (joined c.args.kinds.now c.requires.known more_fields more-few c.args.from c.args.to _ _ _ c.requires c.at_most_eight-last.ensures c.fields_of_last-high.ensures
    c.fields_of_last-low.ensures)
