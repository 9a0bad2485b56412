-- The invariant: each place before i has its difference, and the others what they had. The measure is the places left. Assumes nothing.
use borrow.Author.Rules.{rules}
use mathlib.Core.Path.{◌≡◌, ap, ◌∙◌}
use Prim.Native.Nat.{◌+◌, ◌-◌}
use native.Mathlib.Omega.{arith}
use Rattle.arc.specs.Rows.{step_for}
use Rattle.arc.proofs.Rows.{Replacing, replacing-start, replacing-here, replacing-more, replacing-row}
use Rattle.arc.proofs.samples.put_differences.Given as goal

abbrev pub invariant-loop-i : goal.invariant-loop-i
invariant-loop-i l = Replacing (step_for l.initial.x) l.initial.x l.x l.i
