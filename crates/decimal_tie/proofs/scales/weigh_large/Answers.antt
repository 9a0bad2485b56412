-- `decimal_tie::scales::weigh_large` meets its contract: the whole digits settle the order, or leave it to the fraction. Assumes nothing.
use mathlib.Core.Path.{ap, sym, ◌∙◌}
use Rattle.decimal_rounding.proofs.Compares.{eq-of-compare}
use Rattle.decimal_digits.proofs.Values.{val-lt}
use Rattle.decimal_tie.specs.Weighing.{order_of}
use Rattle.decimal_tie.proofs.Wides.{wide-lt}
use Rattle.decimal_tie.proofs.Weighed.{partly-start, partly-eq, partly-other, six-lt}
use Rattle.decimal_tie.proofs.scales.weigh_large.Goals as goal

pub compare_wide-requires : goal.compare_wide-requires
compare_wide-requires c = ((c.in-Some.ensures.said _ (six-lt _ _ (wide-lt _ c.requires.0) (wide-lt _ c.requires.1))).0, c.requires.0)

pub returns-in_default : goal.returns-in_default
returns-in_default c = sym (partly-start _ _ _ ∙ c.in_default.ensures.said _ (six-lt _ _ (wide-lt _ c.requires.0) (wide-lt _ c.requires.1)))

pub returns-in-Equal : goal.returns-in-Equal
returns-in-Equal c =
    c.compare_rest.ensures
    ∙ sym
    (partly-start _ _ _
    ∙ (c.in-Some.ensures.said _ (six-lt _ _ (wide-lt _ c.requires.0) (wide-lt _ c.requires.1))).1
    ∙ partly-eq _ _ _ _ (wide-lt _ c.requires.1) (val-lt _) (eq-of-compare _ _ (sym c.compare_wide.ensures ∙ ap order_of c.in-Equal.is)))

pub returns-in_default-compare_wide : goal.returns-in_default-compare_wide
returns-in_default-compare_wide c =
    partly-other _ _ _ _ (wide-lt _ c.requires.1) (val-lt _) c.compare_wide.result c.compare_wide.ensures c.in_default-compare_wide.not-Equal
    ∙ sym (partly-start _ _ _ ∙ (c.in-Some.ensures.said _ (six-lt _ _ (wide-lt _ c.requires.0) (wide-lt _ c.requires.1))).1)
