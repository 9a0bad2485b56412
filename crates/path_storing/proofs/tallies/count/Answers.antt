-- `path_storing::tallies::count` meets its contract: each command is a case of its definition. Assumes nothing.
use Rattle.path_storing.proofs.Tallying.{line-tallied, quad-tallied, cubic-tallied}
use Rattle.path_storing.proofs.tallies.count.Goals as goal

pub returns-in-LineTo : goal.returns-in-LineTo
returns-in-LineTo c = rw (c.in-LineTo.is, c.stroked.ensures, c.is_calm-in-LineTo.ensures) (line-tallied _ _)

pub returns-in-QuadTo : goal.returns-in-QuadTo
returns-in-QuadTo c = rw (c.in-QuadTo.is, c.stroked-in-QuadTo.ensures, c.is_calm-in-QuadTo-2.ensures, c.is_calm-in-QuadTo.ensures) (quad-tallied _ _ _)

pub returns-in-CubicTo : goal.returns-in-CubicTo
returns-in-CubicTo c =
    rw (c.in-CubicTo.is, c.stroked-in-CubicTo.ensures, c.is_calm-in-CubicTo-3.ensures, c.is_calm-in-CubicTo-2.ensures, c.is_calm-in-CubicTo.ensures) (cubic-tallied _ _ _ _)
