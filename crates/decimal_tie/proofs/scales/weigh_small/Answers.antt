-- `decimal_tie::scales::weigh_small` meets its contract: against a whole number the digits lose, and against a fraction it is multiplied up to them. Assumes nothing.
use mathlib.Core.Path.{sym, ◌∙◌}
use lib.Dec.{lit<}
use Rattle.decimal_digits.proofs.Values.{val-lt}
use Rattle.decimal_tie.proofs.Wides.{something, nothing}
use Rattle.decimal_tie.proofs.Weighed.{small-under, small_is, against-is}
use Rattle.decimal_tie.proofs.scales.weigh_small.Goals as goal

pub returns-then-ne : goal.returns-then-ne
returns-then-ne c = small-under _ (val-lt _) _ _ _ (something c.args.above (sym c.ne.ensures ∙ c.if-ne.true))

pub compare_rest-requires : goal.compare_rest-requires
compare_rest-requires c = (c.in-Some.ensures.said 0 1 (lit< tt)).0

pub returns-in-Some : goal.returns-in-Some
returns-in-Some c =
    c.compare_rest.ensures
    ∙ against-is _ _
    ∙ sym (small_is _ (val-lt _) _ _ _ (nothing c.args.above (sym c.ne.ensures ∙ c.if-ne.false)) ∙ (c.in-Some.ensures.said _ _ (val-lt _)).1)

pub returns-in-None : goal.returns-in-None
returns-in-None c =
    sym (small_is _ (val-lt _) _ _ _ (nothing c.args.above (sym c.ne.ensures ∙ c.if-ne.false)) ∙ c.in-None.ensures.said _ _ (val-lt _))
