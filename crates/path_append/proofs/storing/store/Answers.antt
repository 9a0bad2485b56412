-- `path_append::store` meets its contract: each buffer is written by one call or one store. Assumes nothing.
use Rattle.path_append.specs.Appending.{grown_of}
use Rattle.path_stored.proofs.Buffers.{buffers-are}
use Rattle.path_segment.proofs.Reading.{fields-width}
use Rattle.path_segment.proofs.Tables.{stored-size}
use Rattle.path_segment.specs.Segments.{fields_of, table_stored}
use lib.Seq.{sets}
use lib.ListN.{set}
use native.Mathlib.Omega.{arith}
use mathlib.Core.Path.{◌≡◌, refl, ap, ◌∙◌}
use Rattle.path_append.proofs.storing.store.Goals as goal

-- ---- the answers
pub store_table-own-requires : goal.store_table-own-requires
store_table-own-requires c =
    omega (arith, c.requires.for_table, c.tables_used-m.ensures, stored-size c.args.segment)

pub put_segment-requires : goal.put_segment-requires
put_segment-requires c =
    omega (arith, c.requires.for_numbers, c.numbers_used-n.ensures, fields-width c.args.segment)

pub returns : goal.returns
unfolding grown_of
returns c =
    let kinds = ap (set c.args.kinds.now c.args.count) c.kind.ensures in
    let fields = c.put_segment.ensures ∙ ap (λ x. sets c.args.numbers.now x (fields_of c.args.segment)) c.numbers_used-n.ensures in
    let tables = c.store_table-own.ensures.tables_after ∙ ap (λ x. sets c.args.tables.now x (table_stored c.args.segment)) c.tables_used-m.ensures in
    let own : c.tidy.result ≡ grown_of c.args.lengths.now c.args.count c.args.segment = rw (c.tidy.ensures, c.length_before-before.ensures, c.store_table-own.ensures.length_told) in
    let lengths = ap (set c.args.lengths.now c.args.count) own in
    buffers-are kinds fields tables lengths refl
