-- `put_part` meets its contract: the segment's numbers, and after them its table's where it has one. Assumes nothing.
use mathlib.Core.Path.{◌≡◌, sym, ap, ◌∙◌}
use lib.ListN.{length}
use native.Mathlib.Omega.{arith}
use Rattle.path_segment.specs.Segments.{kind_of, width_of, has_table}
use Rattle.path_segment.proofs.Reading.{fields-width}
use Rattle.kihavute_segments.proofs.SegmentsGiven.{places-some, put-own, put_both}
use Rattle.kihavute_segments.proofs.segments.put_part.Goals as goal

pub put_segment-requires : goal.put_segment-requires
put_segment-requires c = omega (arith, c.requires, fields-width c.args.segment)

pub put_table-requires : goal.put_table-requires
put_table-requires c =
    let has = ap has_table (sym c.kind.ensures) ∙ sym c.has_table.ensures ∙ c.if-has_table.true in
    let place : c.width.result ≡ width_of (kind_of c.args.segment) = c.width.ensures ∙ ap width_of c.kind-then-has_table.ensures in
    omega (arith, place, places-some (kind_of c.args.segment) has, c.requires, c.put_segment.auto.fields)

pub returns-then-has_table : goal.returns-then-has_table
returns-then-has_table c =
    let has = ap has_table (sym c.kind.ensures) ∙ sym c.has_table.ensures ∙ c.if-has_table.true in
    let size : length c.args.table.entries ≡ 32 = c.well_formed.0.1.1.0.1.0.1 in
    put_both c.args.segment c.args.table c.args.out.now c.put_segment.new.fields _ _ has size c.requires c.put_segment.ensures
    (c.width.ensures ∙ ap width_of c.kind-then-has_table.ensures) c.put_table.ensures

pub returns-else-has_table : goal.returns-else-has_table
returns-else-has_table c =
    let none = ap has_table (sym c.kind.ensures) ∙ sym c.has_table.ensures ∙ c.if-has_table.false in
    put-own c.args.segment c.args.table c.args.out.now _ none c.requires c.put_segment.ensures
