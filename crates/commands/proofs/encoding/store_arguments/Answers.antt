-- `commands::encoding::store_arguments` meets its contract: in each arm the value that was matched is the arm's constructor. Assumes nothing.
use native.Mathlib.Omega.{arith}
use Rattle.commands.proofs.encoding.store_arguments.Goals as goal

pub put_two-requires : goal.put_two-requires
put_two-requires c = omega (arith, rw c.in-MoveTo.is at c.requires)

pub put_two-requires-in-LineTo : goal.put_two-requires-in-LineTo
put_two-requires-in-LineTo c = omega (arith, rw c.in-LineTo.is at c.requires)

pub put_quad-requires : goal.put_quad-requires
put_quad-requires c = omega (arith, rw c.in-QuadTo.is at c.requires)

pub put_cubic-requires : goal.put_cubic-requires
put_cubic-requires c = omega (arith, rw c.in-CubicTo.is at c.requires)

pub put_arc-requires : goal.put_arc-requires
put_arc-requires c = omega (arith, rw c.in-ArcTo.is at c.requires)

pub returns-in-MoveTo : goal.returns-in-MoveTo
returns-in-MoveTo c = rw c.in-MoveTo.is c.put_two.ensures

pub returns-in-LineTo : goal.returns-in-LineTo
returns-in-LineTo c = rw c.in-LineTo.is c.put_two-in-LineTo.ensures

pub returns-in-QuadTo : goal.returns-in-QuadTo
returns-in-QuadTo c = rw c.in-QuadTo.is c.put_quad.ensures

pub returns-in-CubicTo : goal.returns-in-CubicTo
returns-in-CubicTo c = rw c.in-CubicTo.is c.put_cubic.ensures

pub returns-in-ArcTo : goal.returns-in-ArcTo
returns-in-ArcTo c = rw c.in-ArcTo.is c.put_arc.ensures

pub returns-in-ClosePath : goal.returns-in-ClosePath
returns-in-ClosePath c = rw c.in-ClosePath.is
