-- `path_marks::marks::Marks::nearest` meets its contract: the mark is the cursor of a segment that is no later. Assumes nothing.
use mathlib.Core.Path.{sym, subst}
use mathlib.Core.List.{List}
use Prim.Native.Nat.{ℕ}
use native.Mathlib.Omega.{arith}
use Rattle.path_marks.specs.Marks.{Leap}
use Rattle.path_marks.proofs.Marking.{mark-le, mark-whole}
use Rattle.path_marks.proofs.marks.Marks.nearest.Goals as goal

pub overflow_sub-segment : goal.overflow_sub-segment
overflow_sub-segment c =
    let leap = subst (λ (kinds : List ℕ). Leap kinds c.args.from c.args.segment) (sym c.self.view_is) c.requires in
    omega (arith, mark-le c.self.invariant.set leap, mark-whole c.self.invariant.set leap)
