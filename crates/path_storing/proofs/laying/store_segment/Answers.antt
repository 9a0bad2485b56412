-- `path_storing::laying::store_segment` meets its contract: five stores, each in its buffer. Assumes nothing.
use mathlib.Core.Path.{◌≡◌, ap, ◌∙◌}
use lib.Ieee.{binary32, add}
use Rattle.path_drawing.specs.Building.{length_after}
use Rattle.path_storing.proofs.Judged.{kind_fits, fields_fit, table_fits, length-fits, command-fits, segment-stored}
use Rattle.path_storing.proofs.laying.store_segment.Goals as goal

-- ---- the answers
pub bounds-kinds-index : goal.bounds-kinds-index
bounds-kinds-index c = kind_fits c.requires

pub put_segment-requires : goal.put_segment-requires
put_segment-requires c = fields_fit c.requires

pub store_table-requires : goal.store_table-requires
store_table-requires c = table_fits c.requires

pub bounds-lengths-index : goal.bounds-lengths-index
bounds-lengths-index c = length-fits c.requires

pub bounds-commands-index : goal.bounds-commands-index
bounds-commands-index c = command-fits c.requires

pub returns : goal.returns
returns c =
    let running : c.tidy-length.result ≡ length_after c.args.passed c.args.segment = c.tidy-length.ensures ∙ ap (add binary32 _) c.store_table.ensures.length_told in
    segment-stored c.kind.ensures c.put_segment.ensures c.store_table.ensures.tables_after running
