-- The invariant: the entries of the row before i are stored (`Storing`). Assumes nothing.
use Rattle.spline.specs.Formula.{spline_sample_of}
use Rattle.spline_table.proofs.RowLaws.{Storing}
use Rattle.spline_table.proofs.rows.fill_row.Given as goal

abbrev pub invariant-loop-i : goal.invariant-loop-i
invariant-loop-i l = Storing (spline_sample_of l.points) l.last l.k l.initial.table l.total l.table l.i
