-- `path_marks::marks::Marks::set` meets its contract. The loop keeps that the marks before its own are set and where the cursor stands, `Setting`; the kinds and what is between two marks
-- stay as they were. Assumes nothing.
use mathlib.Core.Path.{◌≡◌}
use Prim.Native.Nat.{◌^◌}
use lib.ListN.{length}
use Rattle.path_marks.specs.Marks.{Reach}
use Rattle.path_marks.proofs.Marking.{Setting}
use Rattle.path_marks.proofs.marks.Marks.set.Given as goal

abbrev pub invariant-loop-k : goal.invariant-loop-k
invariant-loop-k l =
    let kinds = l.self-inside.kinds.now in
    let shift = l.self-inside.shift in
    Setting kinds shift l.at l.k l.self-inside.fields.now l.self-inside.tables.now
    × (kinds ≡ l.initial.self-inside.kinds.now)
    × Reach (length kinds) shift
    × (l.apart ≡ 2 ^ shift)
    × (l.count ≡ length kinds)
