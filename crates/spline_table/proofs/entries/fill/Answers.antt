-- The sample at k and the running length at it are known, and the entries before k, whole rows of 16, are stored (`Filling`). Assumes nothing.
use mathlib.Core.Path.{subst, ◌≡◌, ap, ◌∙◌}
use Prim.Native.Nat.{◌*◌, ◌+◌}
use native.Mathlib.Omega.{arith}
use Rattle.floats.specs.Floats.{zero_f}
use Rattle.table_samples.specs.Samples.{sample_at}
use Rattle.spline.specs.Formula.{spline_sample_of}
use Rattle.spline_table.proofs.Passing.{walking_start}
use Rattle.spline_table.proofs.Filling.{Filling, filling-start, filling-row, filling-length, filling-done}
use Rattle.spline_table.proofs.entries.fill.Goals as goal

pub loop-span-init : goal.loop-span-init
unfolding sample_at zero_f
loop-span-init c =
    filling-start {formula = spline_sample_of c.args.points.now} (walking_start _ (c.sample.ensures ∙ ap (spline_sample_of _) c.mark.ensures)) c.requires.room

pub fill_row-walk-requires : goal.fill_row-walk-requires
fill_row-walk-requires c =
    record {
      sampled = c.requires.sampled;
      whole = omega (arith, c.loop-span-test.true, c.requires.sampled.counted);
      walking = c.loop-span.invariant.walking;
      room = omega (arith, filling-length c.loop-span.invariant, c.loop-span.invariant.room);
    }

pub loop-span-preserved : goal.loop-span-preserved
loop-span-preserved c =
    let next : 16 * c.loop-span.span + 16 ≡ 16 * (c.loop-span.span + 1) = omega arith in
    subst (Filling _ _ _ _ _ _) next (filling-row c.loop-span.invariant c.fill_row-walk.ensures.walked (c.fill_row-walk.ensures.stored _ c.loop-span.invariant.filled))

pub returns : goal.returns
returns c =
    let all : 16 * c.loop-span.span ≡ c.args.last = omega (arith, c.loop-span-test.false, c.loop-span.auto.span-end, c.requires.sampled.counted) in
    filling-done (subst (Filling _ _ _ _ _ _) all c.loop-span.invariant) (omega arith)
