-- `ellipse::lambda` meets its contract: the body is the definition, operation by operation. Assumes nothing.
use mathlib.Core.Path.{refl}
use Rattle.ellipse.specs.Ends.{lambda_of}
use Rattle.ellipse.proofs.ends.lambda.Goals as goal

pub returns : goal.returns
unfolding lambda_of
returns c = refl
