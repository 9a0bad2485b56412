-- Where every mark of the row, scaled, lies between the ends of its span, each sample is on that span (`span-across`, `span-along`). Assumes nothing.
use mathlib.Core.Bool.{not}
use borrow.Author.Tests.{not-false}
use native.Mathlib.Omega.{arith}
use mathlib.Core.Path.{◌≡◌, sym, ap, ◌∙◌}
use Prim.Native.Nat.{ℕ, ◌+◌, ◌-◌, ◌/◌, ◌<◌}
use lib.Dec.{T}
use lib.IntN.{pos}
use lib.Ieee.{Float, binary32, mul, of_int}
use Rattle.table.specs.Lookup.{at}
use Rattle.polyline.specs.Points.{count_of}
use Rattle.math.specs.declared.points.Point.{Point}
use Rattle.table_samples.specs.Samples.{sample_at}
use Rattle.spline.specs.Formula.{spline_sample_of}
use Rattle.floats.proofs.Tests.{passed}
use Rattle.spline_table.specs.Near.{is_between}
use Rattle.spline_table.specs.Rows.{clamped_mark_of}
use Rattle.spline_table.proofs.Near.{every-at}
use Rattle.spline_table.proofs.Laying.{drawn, drawn-row}
use Rattle.spline_table.proofs.Formulas.{span-across, span-along}
use Rattle.spline_table.proofs.rows.span_row.Goals as goal

pub after_span-p3-requires : goal.after_span-p3-requires
after_span-p3-requires c =
    omega (arith, c.requires.ahead.whole, c.requires.ahead.sampled.counted)

pub returns : goal.returns
unfolding sample_at
returns c =
    let inside : c.args.k / 16 + 1 < count_of c.args.points.now = omega (arith, c.requires.ahead.whole, c.requires.ahead.sampled.counted) in
    let own_is : (i : ℕ) → 0 < i → i < 16 → at c.scaled-own.result i ≡ mul binary32 (clamped_mark_of c.args.last (c.args.k + i)) (of_int binary32 (pos (count_of c.args.points.now - 1))) = λ i some less.
    c.scaled-own.ensures.each i some less ∙ ap (λ (z : Float). mul binary32 z (of_int binary32 (pos (count_of c.args.points.now - 1)))) (c.clamped_marks-clamped.ensures i less) in
    let between : (i : ℕ) → i < 16 → T (is_between (of_int binary32 (pos (c.args.k / 16))) (of_int binary32 (pos (c.args.k / 16 + 1))) (at c.scaled-own.result i)) = λ i less.
    every-at (is_between (of_int binary32 (pos (c.args.k / 16))) (of_int binary32 (pos (c.args.k / 16 + 1)))) c.scaled-own.result (passed (sym c.all_between.ensures ∙ not-false _ (ap not c.if-not-all_between.false))) i (omega (arith, c.scaled-own.ensures.size)) in
    drawn-row (spline_sample_of c.args.points.now) c.args.last c.args.k c.span_samples-across.result c.span_samples-along.result _ _ _
    (drawn (λ (p : Point). p.x) (spline_sample_of c.args.points.now) c.args.last c.args.k c.span_samples-across.ensures (ap (λ (p : Point). p.x) c.requires.ahead.here) (ap (λ (p : Point). p.x) ((let next_is_here : c.sample-next.result ≡ sample_at (spline_sample_of c.args.points.now) c.args.last (c.args.k + 16) = c.sample-next.ensures ∙ ap (spline_sample_of _) c.mark.ensures in next_is_here)))
    (λ i some less. span-across c.args.points.now c.args.last (c.args.k + i) c.requires.bound c.requires.ahead.sampled.few (c.args.k / 16) inside _ _ _ _ c.before_span-p0.ensures
    c.point_at-p1.ensures c.point_at-p2.ensures c.after_span-p3.ensures (at c.scaled-own.result i) (own_is i some less) (between i less)))
    (drawn (λ (p : Point). p.y) (spline_sample_of c.args.points.now) c.args.last c.args.k c.span_samples-along.ensures (ap (λ (p : Point). p.y) c.requires.ahead.here) (ap (λ (p : Point). p.y) ((let next_is_here : c.sample-next.result ≡ sample_at (spline_sample_of c.args.points.now) c.args.last (c.args.k + 16) = c.sample-next.ensures ∙ ap (spline_sample_of _) c.mark.ensures in next_is_here)))
    (λ i some less. span-along c.args.points.now c.args.last (c.args.k + i) c.requires.bound c.requires.ahead.sampled.few (c.args.k / 16) inside _ _ _ _ c.before_span-p0.ensures
    c.point_at-p1.ensures c.point_at-p2.ensures c.after_span-p3.ensures (at c.scaled-own.result i) (own_is i some less) (between i less)))
    c.differences_of-x.ensures c.differences_of-y.ensures ((let next_is_here : c.sample-next.result ≡ sample_at (spline_sample_of c.args.points.now) c.args.last (c.args.k + 16) = c.sample-next.ensures ∙ ap (spline_sample_of _) c.mark.ensures in next_is_here))
