-- `legs::put_arc` meets its contract. The loop keeps that the legs before its point are stored, and where that point is. Assumes nothing.
use Prim.Native.Nat.{◌≤◌}
use mathlib.Core.Path.{◌≡◌}
use lib.Seq.{sets}
use Rattle.legs.specs.Segments.{arc_point, arc_legs}
use Rattle.legs.proofs.arcs.put_arc.Given as goal

abbrev pub invariant-loop-i : goal.invariant-loop-i
invariant-loop-i l = (l.i ≤ 31) × ((l.from ≡ arc_point l.shape l.i) × (l.out ≡ sets l.initial.out l.at (arc_legs l.shape 0 l.i)))
