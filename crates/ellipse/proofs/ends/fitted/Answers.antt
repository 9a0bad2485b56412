-- `ellipse::fitted` meets its contract: the branch's test, on what `lambda` ensures, is the definition's. Assumes nothing.
use mathlib.Core.Path.{sym, ap, ◌∙◌}
use Rattle.math.specs.Math.{scale_of}
use Rattle.ellipse.proofs.Fitting.{grown, kept}
use Rattle.ellipse.proofs.ends.fitted.Goals as goal

pub returns-then-over : goal.returns-then-over
returns-then-over c =
    c.scale.ensures
    ∙ ap (scale_of c.args.radii) c.sqrt.ensures
    ∙ sym (grown _ _ _ c.lambda-over.ensures c.if-over.true)

pub returns : goal.returns
returns c = sym (kept _ _ _ c.lambda-over.ensures c.if-over.false)
