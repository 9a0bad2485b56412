-- `path_storing::laying::after` meets its contract: the counts fit, since there are few segments. Assumes nothing.
use mathlib.Core.Path.{◌≡◌, refl}
use native.Mathlib.Omega.{arith}
use lib.ListN.{length}
use Rattle.path_segment.specs.Segments.{fields_of, table_stored}
use Rattle.path_segment.proofs.Reading.{fields-most, fields-counted}
use Rattle.path_segment.proofs.Tables.{table-most, table_counted}
use Rattle.path_storing.proofs.Judged.{after_is}
use Rattle.path_storing.proofs.laying.after.Goals as goal

pub grown-requires : goal.grown-requires
grown-requires c =
    let more : c.table_width-more.result ≡ length (table_stored c.args.segment) = table_counted c.args.segment c.table_width-more.ensures c.kind-byte.ensures in
    let own : c.width-own.result ≡ length (fields_of c.args.segment) = fields-counted c.args.segment c.width-own.ensures c.kind-byte.ensures in
    (c.requires.0, omega (arith, own, fields-most c.args.segment), omega (arith, more, table-most c.args.segment))

pub returns : goal.returns
returns c =
    let more : c.table_width-more.result ≡ length (table_stored c.args.segment) = table_counted c.args.segment c.table_width-more.ensures c.kind-byte.ensures in
    let own : c.width-own.result ≡ length (fields_of c.args.segment) = fields-counted c.args.segment c.width-own.ensures c.kind-byte.ensures in
    after_is c.args.site c.args.segment own more c.requires.1 refl c.grown.ensures
