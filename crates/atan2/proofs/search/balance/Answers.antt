-- Below half a turn the rest is the angle itself. Assumes nothing.
use native.Mathlib.Nat.{le_trans, le_of_eq}
use lib.Dec.{eqb}
use mathlib.Core.Path.{◌∙◌, ap}
use Rattle.atan2_rule.specs.Steps.{ahead, behind}
use Rattle.atan2_rule.proofs.Fixed.{under-half}
use Rattle.atan2.proofs.Weighed.{ahead-is, behind-is}
use Rattle.atan2.proofs.search.balance.Goals as goal

pub sides-s-requires : goal.sides-s-requires
sides-s-requires c = le_trans (le_of_eq c.fixed.ensures.0) (under-half c.args.b c.requires.0 c.requires.1)

pub returns : goal.returns
returns c =
    let right = eqb c.args.d.left 0 in (
      ahead-is c.sides-s.ensures c.args.d.u c.args.d.v right c.pick.ensures.value c.both-to.ensures.0 ∙ ap (ahead c.args.d.u c.args.d.v right) c.fixed.ensures.0,
      behind-is c.sides-s.ensures c.args.d.u c.args.d.v right c.pick-2.ensures.value c.both-from.ensures.0 ∙ ap (behind c.args.d.u c.args.d.v right) c.fixed.ensures.0,
    )
