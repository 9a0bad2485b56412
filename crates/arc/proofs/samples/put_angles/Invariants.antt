-- The invariant: each place before i has its angle. The measure is the places left. Assumes nothing.
use borrow.Author.Rules.{rules}
use Prim.Native.Nat.{◌-◌}
use Rattle.arc.specs.Rows.{angle_for}
use Rattle.arc.proofs.Rows.{Replacing, replacing-start, replacing-more, replacing-row}
use Rattle.arc.proofs.samples.put_angles.Given as goal

abbrev pub invariant-loop-i : goal.invariant-loop-i
invariant-loop-i l = Replacing (angle_for l.shape) l.initial.x l.x l.i
