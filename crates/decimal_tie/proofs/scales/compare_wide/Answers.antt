-- `decimal_tie::scales::compare_wide` meets its contract: the first word that differs settles the order. Assumes nothing.
use mathlib.Core.Path.{ap, ◌∙◌}
use Rattle.decimal_tie.specs.Weighing.{order_of}
use Rattle.decimal_tie.proofs.Wides.{words-order}
use Rattle.decimal_tie.proofs.scales.compare_wide.Goals as goal

pub returns : goal.returns
returns c = ap order_of c.cmp.ensures ∙ words-order _ _ c.requires.0 c.requires.1
