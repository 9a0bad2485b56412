-- Each sample is on the only leg (`leg-across`, `leg-along`). Assumes nothing.
use mathlib.Core.Path.{◌≡◌, ap, ◌∙◌}
use Prim.Native.Nat.{◌+◌}
use Rattle.math.specs.declared.points.Point.{Point}
use Rattle.table_samples.specs.Samples.{sample_at}
use Rattle.spline.specs.Formula.{spline_sample_of}
use Rattle.spline_table.proofs.Laying.{drawn, drawn-row}
use Rattle.spline_table.proofs.Formulas.{leg-across, leg-along}
use Rattle.spline_table.proofs.rows.leg_row.Goals as goal

pub returns : goal.returns
unfolding sample_at
returns c =
    drawn-row (spline_sample_of c.args.points.now) c.args.last c.args.k c.leg_samples-across.result c.leg_samples-along.result _ _ _
    (drawn (λ (p : Point). p.x) (spline_sample_of c.args.points.now) c.args.last c.args.k c.leg_samples-across.ensures (ap (λ (p : Point). p.x) c.requires.ahead.here) (ap (λ (p : Point). p.x) ((let next_is_here : c.sample-next.result ≡ sample_at (spline_sample_of c.args.points.now) c.args.last (c.args.k + 16) = c.sample-next.ensures ∙ ap (spline_sample_of _) c.mark.ensures in next_is_here)))
    (λ i some less. leg-across c.args.points.now c.args.last (c.args.k + i) c.requires.points_value _ _ c.point_at-a.ensures c.point_at-b.ensures _ (c.clamped_marks-own.ensures i less)))
    (drawn (λ (p : Point). p.y) (spline_sample_of c.args.points.now) c.args.last c.args.k c.leg_samples-along.ensures (ap (λ (p : Point). p.y) c.requires.ahead.here) (ap (λ (p : Point). p.y) ((let next_is_here : c.sample-next.result ≡ sample_at (spline_sample_of c.args.points.now) c.args.last (c.args.k + 16) = c.sample-next.ensures ∙ ap (spline_sample_of _) c.mark.ensures in next_is_here)))
    (λ i some less. leg-along c.args.points.now c.args.last (c.args.k + i) c.requires.points_value _ _ c.point_at-a.ensures c.point_at-b.ensures _ (c.clamped_marks-own.ensures i less)))
    c.differences_of-x.ensures c.differences_of-y.ensures ((let next_is_here : c.sample-next.result ≡ sample_at (spline_sample_of c.args.points.now) c.args.last (c.args.k + 16) = c.sample-next.ensures ∙ ap (spline_sample_of _) c.mark.ensures in next_is_here))
