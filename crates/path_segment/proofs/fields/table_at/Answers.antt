-- `path_segment::fields::table_at` meets its contract: each turn copies one entry more. Assumes nothing.
use Rattle.path_segment.proofs.Runs.{copied_more, copied_all}
use lib.ListN.{length-set}
use native.Mathlib.Omega.{arith}
use mathlib.Core.Path.{refl}
use Rattle.path_segment.proofs.fields.table_at.Goals as goal

pub loop-k-init : goal.loop-k-init
loop-k-init c = (refl, λ k h. absurd (omega arith))

pub loop-k-preserved : goal.loop-k-preserved
loop-k-preserved c =
    (simp length-set c.loop-k.invariant.0, copied_more c.loop-k.entries c.args.tables.now c.args.at c.loop-k.k (omega (arith, c.loop-k.invariant.0)) c.loop-k.invariant.1)

pub returns : goal.returns
returns c =
    let e = copied_all c.loop-k.entries c.args.tables.now c.args.at 32 c.loop-k.invariant.0 (omega arith) (λ k h. c.loop-k.invariant.1 k (omega arith)) in
    cc
