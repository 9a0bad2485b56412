-- `table::searches::raw_at` meets its contract: each way out rewrites with the tests that led there. Past both tests the entries found enclose the target, so both are in the list.
-- Assumes nothing.
use borrow.Author.Rules.{rules}
use Prim.Native.Nat.{◌-◌, ◌^◌}
use lib.Dec.{le→leb}
use lib.Ieee.{in_float}
use Rattle.floats.specs.Floats.{zero_f}
use Rattle.floats.proofs.Tests.{failed}
use Rattle.table.specs.Lookup.{last_of}
use Rattle.table.proofs.Lengths.{table-lengths}
use Rattle.table.proofs.Enclosure.{Encloses, table-encloses}
use Rattle.table.proofs.searches.raw_at.Goals as goal

pub first_not_below-upper-requires : goal.first_not_below-upper-requires
first_not_below-upper-requires c =
    table-lengths c.args.entries.now c.args.total c.requires.sound_table.sound

pub overflow_sub-lower : goal.overflow_sub-lower
unfolding zero_f
overflow_sub-lower c = let e = (let found_here : (Encloses (last_of c.args.entries.now) c.args.entries.now c.args.target c.first_not_below-upper.result) = rw c.first_not_below-upper.ensures
    (table-encloses c.args.entries.now c.args.total c.args.target c.requires.sound_table.sound c.requires.t (failed c.if-target.false) (failed c.if-target-total.false)) in found_here) in search rules

pub offset_bounds-entries-lower : goal.offset_bounds-entries-lower
unfolding zero_f
offset_bounds-entries-lower c = let e = (let found_here : (Encloses (last_of c.args.entries.now) c.args.entries.now c.args.target c.first_not_below-upper.result) = rw c.first_not_below-upper.ensures
    (table-encloses c.args.entries.now c.args.total c.args.target c.requires.sound_table.sound c.requires.t (failed c.if-target.false) (failed c.if-target-total.false)) in found_here) in search rules

pub bounds-entries-lower : goal.bounds-entries-lower
unfolding zero_f
bounds-entries-lower c = let e = (let found_here : (Encloses (last_of c.args.entries.now) c.args.entries.now c.args.target c.first_not_below-upper.result) = rw c.first_not_below-upper.ensures
    (table-encloses c.args.entries.now c.args.total c.args.target c.requires.sound_table.sound c.requires.t (failed c.if-target.false) (failed c.if-target-total.false)) in found_here) in search rules

pub offset_bounds-entries-upper : goal.offset_bounds-entries-upper
unfolding zero_f
offset_bounds-entries-upper c = let e = (let found_here : (Encloses (last_of c.args.entries.now) c.args.entries.now c.args.target c.first_not_below-upper.result) = rw c.first_not_below-upper.ensures
    (table-encloses c.args.entries.now c.args.total c.args.target c.requires.sound_table.sound c.requires.t (failed c.if-target.false) (failed c.if-target-total.false)) in found_here) in search rules

pub bounds-entries-upper : goal.bounds-entries-upper
unfolding zero_f
bounds-entries-upper c = let e = (let found_here : (Encloses (last_of c.args.entries.now) c.args.entries.now c.args.target c.first_not_below-upper.result) = rw c.first_not_below-upper.ensures
    (table-encloses c.args.entries.now c.args.total c.args.target c.requires.sound_table.sound c.requires.t (failed c.if-target.false) (failed c.if-target-total.false)) in found_here) in search rules

pub int_to_float-whole : goal.int_to_float-whole
unfolding in_float zero_f
int_to_float-whole c =
    let e = (let found_here : (Encloses (last_of c.args.entries.now) c.args.entries.now c.args.target c.first_not_below-upper.result) = rw c.first_not_below-upper.ensures
    (table-encloses c.args.entries.now c.args.total c.args.target c.requires.sound_table.sound c.requires.t (failed c.if-target.false) (failed c.if-target-total.false)) in found_here) in
    le→leb (c.first_not_below-upper.result - 1) (2 ^ 24) (search rules)

pub overflow_sub-last : goal.overflow_sub-last
unfolding zero_f
overflow_sub-last c = let e = (let found_here : (Encloses (last_of c.args.entries.now) c.args.entries.now c.args.target c.first_not_below-upper.result) = rw c.first_not_below-upper.ensures
    (table-encloses c.args.entries.now c.args.total c.args.target c.requires.sound_table.sound c.requires.t (failed c.if-target.false) (failed c.if-target-total.false)) in found_here) in search rules
