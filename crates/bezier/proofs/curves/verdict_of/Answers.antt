-- The test is the definition's (`less-itself`). Assumes nothing.
use mathlib.Core.Path.{◌≡◌, sym, ◌∙◌}
use mathlib.Core.Bool.{true, false}
use lib.Ieee.Scale.{finite}
use Rattle.bezier.specs.Curves.{verdict_of}
use Rattle.bezier.proofs.Finite.{less-itself}
use Rattle.bezier.proofs.curves.verdict_of.Goals as goal

pub returns-then-total : goal.returns-then-total
unfolding verdict_of
returns-then-total c = let yes : finite c.args.total ≡ true = sym (less-itself c.args.total) ∙ c.if-total.true in rw yes

pub returns : goal.returns
unfolding verdict_of
returns c = let no : finite c.args.total ≡ false = sym (less-itself c.args.total) ∙ c.if-total.false in rw no
