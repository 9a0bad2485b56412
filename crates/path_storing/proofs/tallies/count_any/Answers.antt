-- `path_storing::tallies::count_any` meets its contract: each way out is a case of what is drawn. Assumes nothing.
use mathlib.Core.Path.{◌≡◌, sym, ap, ◌∙◌}
use native.Mathlib.Omega.{arith}
use lib.ListN.{length}
use Rattle.std.specs.Prelude.{Some}
use Rattle.path_segment.specs.Segments.{fields_of, table_stored}
use Rattle.path_segment.proofs.Reading.{fields-most, fields-counted}
use Rattle.path_segment.proofs.Tables.{table-most, table_counted}
use Rattle.path_storing.proofs.Tallying.{grown-counted}
use Rattle.path_storing.proofs.tallies.count_any.Goals as goal

pub grown-requires : goal.grown-requires
grown-requires c =
    let segment = c.in-Some-Segment.segment in
    let more : c.table_width-more.result ≡ length (table_stored segment) = table_counted segment c.table_width-more.ensures c.kind-byte.ensures in
    let own : c.width-own.result ≡ length (fields_of segment) = fields-counted segment c.width-own.ensures c.kind-byte.ensures in
    (c.requires, omega (arith, own, fields-most segment), omega (arith, more, table-most segment))

pub returns-else-not-is_bounded : goal.returns-else-not-is_bounded
returns-else-not-is_bounded c =
    let segment = c.in-Some-Segment.segment in
    let more : c.table_width-more.result ≡ length (table_stored segment) = table_counted segment c.table_width-more.ensures c.kind-byte.ensures in
    let own : c.width-own.result ≡ length (fields_of segment) = fields-counted segment c.width-own.ensures c.kind-byte.ensures in
    grown-counted _ (sym c.draw.ensures ∙ c.in-Some-Segment.is ∙ ap Some c.in-Some-Segment.field-0-is) (sym c.is_bounded.ensures ∙ c.if-not-is_bounded.false) own more c.grown.ensures
