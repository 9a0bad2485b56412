-- `legs::copy` meets its contract. The loop keeps that the numbers before its place are stored; the measure is what is left of them. Assumes nothing.
use borrow.Author.Rules.{rules}
use Prim.Native.Nat.{◌-◌, ◌≤◌}
use mathlib.Core.Path.{◌≡◌, refl, ap, ◌∙◌}
use native.Mathlib.Nat.{zero-add}
use native.Mathlib.Omega.{arith}
use lib.ListN.{length, take}
use lib.Seq.{sets, length-sets}
use Rattle.path_segment.proofs.Runs.{put_next}
use Rattle.legs.proofs.flattening.copy.Goals as goal

pub loop-k-preserved : goal.loop-k-preserved
loop-k-preserved c =
    let e = rw (zero-add c.loop-k.k) at (put_next c.args.from.now c.args.out.now 0 c.loop-k.k c.loop-k.out _ (omega arith) c.loop-k.invariant.1 refl) in
    (ap length e ∙ simp length-sets, e)

pub returns : goal.returns
returns c = let z : c.loop-k.k ≡ c.args.count = omega arith in rw z at c.loop-k.invariant.1
