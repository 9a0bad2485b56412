-- The sample at k and the running length at it are known, and the entries before k, whole rows of 16, are stored (`Filling`). Assumes nothing.
use Prim.Native.Nat.{◌*◌}
use Rattle.spline.specs.Formula.{spline_sample_of}
use Rattle.spline_table.proofs.Filling.{Filling}
use Rattle.spline_table.proofs.entries.fill.Given as goal

abbrev pub invariant-loop-span : goal.invariant-loop-span
invariant-loop-span l = Filling (spline_sample_of l.points) l.last l.initial.table l.table l.walk.previous l.walk.total (16 * l.span)
