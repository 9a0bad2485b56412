-- `path_stored::parts::fields_before` meets its contract: nothing stands before the first segment. Assumes nothing.
use native.Mathlib.Omega.{arith}
use Rattle.path_segment.specs.Segments.{width_of}
use Rattle.path_stored.proofs.Counting.{before-zero}
use Rattle.path_stored.proofs.parts.fields_before.Goals as goal

pub returns : goal.returns
returns c = omega (arith, c.fields_between.ensures, before-zero width_of c.args.kinds.now)
