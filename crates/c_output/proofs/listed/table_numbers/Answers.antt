-- `table_numbers` meets its contract: the copy fills all places but the last. Assumes nothing.
use native.Mathlib.Omega.{arith}
use mathlib.Core.Path.{◌≡◌, ap, sym, ◌∙◌}
use lib.Ieee.{Float}
use lib.ListN.{length, set}
use mathlib.Core.List.{List}
use Rattle.c_output.proofs.FilledCases.{last-put}
use Rattle.c_output.proofs.listed.table_numbers.Goals as goal

pub copy-requires : goal.copy-requires
copy-requires c =
    let size : 32 ≡ length c.args.table.entries = sym c.well_formed.0.1.1.0.1.0.1 in
    omega arith

pub returns : goal.returns
returns c =
    let size : 32 ≡ length c.args.table.entries = sym c.well_formed.0.1.1.0.1.0.1 in
    ap (λ (l : List Float). set l 32 c.args.table.total) c.copy.ensures ∙ last-put c.args.table.entries c.args.table.total _ size
