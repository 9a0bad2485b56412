-- `path_marks::marks::is_near` meets its contract. Assumes nothing.
use Prim.Native.Nat.{◌-◌}
use native.Mathlib.Omega.{arith}
use mathlib.Core.Bool.{false≢true}
use borrow.Author.Tests.{leb-true}
use Rattle.path_marks.proofs.marks.is_near.Goals as goal

pub returns-then-kinds-le1024 : goal.returns-then-kinds-le1024
returns-then-kinds-le1024 c = λ e. absurd (false≢true e)

pub returns-then-segment-lt16 : goal.returns-then-segment-lt16
returns-then-segment-lt16 c = λ e. absurd (false≢true e)

pub returns-then-segment-start : goal.returns-then-segment-start
returns-then-segment-start c = λ e. absurd (false≢true e)

pub returns : goal.returns
returns c = λ e.
    let h = leb-true (c.args.segment - c.args.from.segment) 16 e in
    record { later = omega arith; near = omega arith; enough = omega arith }
