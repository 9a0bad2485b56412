-- `angles::rotation_deg` meets its contract: the two tests together are the definition's, and what the calls ensure is what it names. Assumes nothing.
use borrow.Author.Rules.{rules}
use mathlib.Core.Path.{sym, ap, ◌∙◌}
use Rattle.math.specs.Math.{rad_to_deg_of}
use Rattle.angles.proofs.Heading.{at_rest, moving-x, moving-y}
use Rattle.angles.proofs.rotation_deg.Goals as goal
use Rattle.angles.proofs.rotation_deg.Goals.{then-x+else-y, else-x}

pub returns-then-y : goal.returns-then-y
returns-then-y c = sym (at_rest c.args.tangent c.if-x.true c.if-y.true)

pub returns : goal.returns
returns c =
    c.rad_to_deg.ensures
    ∙ ap rad_to_deg_of c.atan2.ensures
    ∙ sym
    (elim c.if-x.branch [
      | then-x+else-y w ↦ moving-y c.args.tangent w.if-x.true w.if-y.false
      | else-x w ↦ moving-x c.args.tangent w.if-x.false
    ])
