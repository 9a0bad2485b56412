-- `decimal::magnitudes::side` meets its contract: the point is moved to one place, before which there are digits or zeros. Assumes nothing.
use mathlib.Core.Path.{refl, ◌∙◌}
use mathlib.Core.Logic.{inl, inr}
use native.Mathlib.Omega.{arith}
use Rattle.decimal.proofs.Sided.{weighed-is}
use Rattle.decimal.proofs.magnitudes.side.Goals as goal

pub weigh-requires : goal.weigh-requires
weigh-requires c = (omega arith, c.requires.1, inr refl)

pub returns-then-fall-whole : goal.returns-then-fall-whole
returns-then-fall-whole c =
    record { order = λ places e. c.weigh.ensures ∙ weighed-is _ c.args.count places c.args.rise c.args.fall _ _ _ e (omega (arith, c.if-fall-whole.true)) }

pub weigh-requires-2 : goal.weigh-requires-2
weigh-requires-2 c = (omega arith, c.requires.1, inl refl)

pub returns : goal.returns
returns c =
    record { order = λ places e. c.weigh-2.ensures ∙ weighed-is _ c.args.count places c.args.rise c.args.fall _ _ _ e (omega (arith, c.if-fall-whole.false)) }
