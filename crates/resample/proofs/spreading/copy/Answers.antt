-- The loop keeps that the first i rows are written. Assumes nothing.
use Rattle.std.proofs.Common.{arith}
use Rattle.polyline.proofs.Rows.{rows_none, rows_more, rows_all}
use Rattle.resample.proofs.spreading.copy.Goals as goal

pub loop-i-init : goal.loop-i-init
loop-i-init c = rows_none _ _

pub loop-i-preserved : goal.loop-i-preserved
loop-i-preserved c = rows_more _ _ _ _ _ _ (omega arith) c.loop-i.invariant c.point_at-first.ensures c.put_point.ensures

pub returns : goal.returns
returns c = rows_all _ _ _ _ _ (let u = c.loop-i.auto.i-end in omega arith) c.loop-i-test.false c.loop-i.invariant
