-- `path_marks::marks::Marks::unset` meets its contract: zeros for the first mark are enough. Assumes nothing.
use mathlib.Core.Path.{◌∙◌}
use native.Mathlib.Omega.{arith}
use lib.ListN.{set, length-set}
use lib.Seq.{get_or-set_same}
use Rattle.path_marks.specs.Marks.{Sized}
use Rattle.path_marks.proofs.Marking.{marked-unset}
use Rattle.path_marks.proofs.marks.Marks.unset.Goals as goal

pub invariant_of-result : goal.invariant_of-result
invariant_of-result c =
    let few = c.requires in
    let sized : Sized (set c.args.fields.now 0 0) (set c.args.tables.now 0 0) =
    record { fields_are = length-set c.args.fields.now 0 0 ∙ c.told-fields; tables_are = length-set c.args.tables.now 0 0 ∙ c.told-tables } in
    record {
      few = few;
      set = marked-unset few sized (get_or-set_same c.args.fields.now 0 0 0 (omega (arith, c.told-fields))) (get_or-set_same c.args.tables.now 0 0 0 (omega (arith, c.told-tables)));
    }
