-- `path_segment::store_table` meets its contract: with a table and without one. Assumes nothing.
use Rattle.path_segment.proofs.Tables.{total-is, stored_some}
use Rattle.path_segment.specs.Segments.{has_table, table_numbers}
use lib.Seq.{sets}
use mathlib.Core.Path.{sym, ap, ◌∙◌}
use Rattle.path_segment.proofs.fields.store_table.Goals as goal

pub returns-then-has_table : goal.returns-then-has_table
returns-then-has_table c =
    let curve = (ap has_table (sym c.kind.ensures) ∙ sym c.has_table.ensures) ∙ c.if-has_table.true in
    record {
      length_told = c.tidy.ensures ∙ ap (λ t. t.total) c.segment_table-table.ensures ∙ total-is c.args.segment curve;
      tables_after =
          c.put_table.ensures
          ∙ ap (λ t. sets c.args.tables.now c.args.at (table_numbers t)) c.segment_table-table.ensures
          ∙ ap (sets c.args.tables.now c.args.at) (sym (stored_some c.args.segment curve));
    }
