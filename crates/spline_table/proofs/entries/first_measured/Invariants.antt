-- The invariant: the sample at k and the running length at it are known, and each entry so far is finite (`Finding`). Assumes nothing.
use Rattle.spline.specs.Formula.{spline_sample_of}
use Rattle.spline_table.proofs.Finding.{Finding}
use Rattle.spline_table.proofs.entries.first_measured.Given as goal

abbrev pub invariant-loop-k : goal.invariant-loop-k
invariant-loop-k l = Finding (spline_sample_of l.points) l.last l.previous l.total l.k
