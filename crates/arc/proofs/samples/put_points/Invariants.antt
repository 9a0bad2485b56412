-- The invariant: each place before i has its coordinate, and the others their sine and cosine. The measure is the places left. Assumes nothing.
use borrow.Author.Rules.{rules}
use mathlib.Core.Path.{◌≡◌, ap, ◌∙◌}
use Prim.Native.Nat.{◌-◌}
use Rattle.arc.specs.Rows.{across_for, along_for}
use Rattle.arc.proofs.Rows.{Replacing, replacing-start, replacing-here, replacing-more, replacing-row}
use Rattle.arc.proofs.samples.put_points.Given as goal

abbrev pub invariant-loop-i : goal.invariant-loop-i
invariant-loop-i l = Replacing (across_for l.center l.radii l.turn l.initial.x l.initial.y) l.initial.x l.x l.i × Replacing (along_for l.center l.radii l.turn l.initial.x l.initial.y) l.initial.y l.y l.i
