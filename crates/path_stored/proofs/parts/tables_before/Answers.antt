-- `path_stored::parts::tables_before` meets its contract: nothing stands before the first segment. Assumes nothing.
use native.Mathlib.Omega.{arith}
use Rattle.path_segment.specs.Segments.{tables_of}
use Rattle.path_stored.proofs.Counting.{before-zero}
use Rattle.path_stored.proofs.parts.tables_before.Goals as goal

pub returns : goal.returns
returns c = omega (arith, c.tables_between.ensures, before-zero tables_of c.args.kinds.now)
