-- What passes the check is sound. Assumes nothing.
use mathlib.Core.Path.{refl}
use Rattle.spline_query.proofs.Checking.{tested-sound}
use Rattle.spline_query.proofs.splines.StoredSpline.known.Goals as goal

pub invariant_of-result : goal.invariant_of-result
invariant_of-result c = record { sound = tested-sound _ _ _ refl c.requires }
