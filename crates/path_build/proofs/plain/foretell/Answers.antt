-- `path_build::plain::foretell` meets its contract: the counts of a plain list are those of what it builds. Assumes nothing.
use Prim.Native.Nat.{ℕ, ◌≤◌}
use mathlib.Core.Path.{◌≡◌, sym, ◌∙◌}
use mathlib.Core.List.{List}
use native.Mathlib.Omega.{arith}
use lib.ListN.{length}
use Rattle.path_build.specs.Plain.{count_in}
use Rattle.path_build.proofs.Counting.{count_most, plain-told}
use Rattle.path_build.proofs.plain.foretell.Goals as goal

-- no letter occurs more often than there are letters
few : (letters : List ℕ) {n : ℕ} (letter : ℕ) → n ≡ count_in letter letters → length letters ≤ 65536 → n ≤ 65536
few letters letter e h = omega (arith, count_most letter letters)

-- ---- the answers
pub count_of-moves-requires : goal.count_of-moves-requires
count_of-moves-requires c = omega (arith, c.if-size-gt65536.false)

pub count_of-lines-requires : goal.count_of-lines-requires
count_of-lines-requires c = omega (arith, c.if-size-gt65536.false)

pub count_of-quads-requires : goal.count_of-quads-requires
count_of-quads-requires c = omega (arith, c.if-size-gt65536.false)

pub count_of-cubics-requires : goal.count_of-cubics-requires
count_of-cubics-requires c = omega (arith, c.if-size-gt65536.false)

pub count_of-closes-requires : goal.count_of-closes-requires
count_of-closes-requires c = omega (arith, c.if-size-gt65536.false)

pub overflow_add-moves : goal.overflow_add-moves
overflow_add-moves c =
    omega (arith, few _ 77 c.count_of-moves.ensures c.if-size-gt65536.false, few _ 76 c.count_of-lines.ensures c.if-size-gt65536.false)

pub overflow_add-moves-2 : goal.overflow_add-moves-2
overflow_add-moves-2 c =
    omega (arith, few _ 77 c.count_of-moves.ensures c.if-size-gt65536.false, few _ 76 c.count_of-lines.ensures c.if-size-gt65536.false, few _ 81 c.count_of-quads.ensures c.if-size-gt65536.false)

pub overflow_add-moves-3 : goal.overflow_add-moves-3
overflow_add-moves-3 c =
    omega (arith, few _ 77 c.count_of-moves.ensures c.if-size-gt65536.false, few _ 76 c.count_of-lines.ensures c.if-size-gt65536.false, few _ 81 c.count_of-quads.ensures c.if-size-gt65536.false, few _ 67 c.count_of-cubics.ensures c.if-size-gt65536.false)

pub overflow_add-moves-4 : goal.overflow_add-moves-4
overflow_add-moves-4 c =
    omega (arith, few _ 77 c.count_of-moves.ensures c.if-size-gt65536.false, few _ 76 c.count_of-lines.ensures c.if-size-gt65536.false, few _ 81 c.count_of-quads.ensures c.if-size-gt65536.false, few _ 67 c.count_of-cubics.ensures c.if-size-gt65536.false, few _ 90 c.count_of-closes.ensures c.if-size-gt65536.false)

pub returns-then-all_near : goal.returns-then-all_near
returns-then-all_near c =
    plain-told _ c.count_of-moves.ensures c.count_of-lines.ensures c.count_of-quads.ensures c.count_of-cubics.ensures c.count_of-closes.ensures
    (omega (arith, c.if-size-eq0.false)) (omega (arith, c.if-size-gt65536.false)) (omega (arith, c.if-letters-ne77.false))
    c.if-moves-lines.true c.if-moves-lines-2.true (sym c.all_near.ensures ∙ c.if-all_near.true)
