-- `path_marks::marks::shift_for` meets its contract. Assumes nothing.
use native.Mathlib.Omega.{arith}
use Rattle.path_marks.proofs.marks.shift_for.Goals as goal

pub returns : goal.returns
returns c = record { far = omega (arith, c.requires); small = omega arith }
