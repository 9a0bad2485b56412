-- `ellipse::away` meets its contract: the body is the definition, operation by operation. Assumes nothing.
use mathlib.Core.Path.{refl}
use Rattle.ellipse.specs.Ends.{away_of}
use Rattle.ellipse.proofs.ends.away.Goals as goal

pub returns : goal.returns
unfolding away_of
returns c = refl
