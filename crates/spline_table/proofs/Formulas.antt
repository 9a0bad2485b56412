-- A spline's sample by the formula of its only leg, and of the span that it lies in. Assumes nothing.
use mathlib.Core.Path.{◌≡◌, sym, ap, ◌∙◌, subst}
use mathlib.Core.List.{List}
use Prim.Native.Nat.{ℕ, ◌+◌, ◌-◌, ◌≤◌, ◌<◌}
use native.Mathlib.Omega.{arith}
use lib.Dec.{T}
use lib.IntN.{pos}
use lib.Ieee.{Float, binary32, sub, mul, le, lt, of_int}
use lib.Ieee.Fits.{and_l, and_r}
use Rattle.math.specs.declared.points.Point.{Point}
use Rattle.math.specs.Math.{lerp_of, lerp_point_of}
use Rattle.table.specs.Lookup.{mark_of}
use Rattle.table_samples.specs.Samples.{sample_at}
use Rattle.polyline.specs.Points.{count_of, point_at}
use Rattle.spline.specs.Formula.{span_of, scaled_of, index_of, before_span, after_span, along_of, curve_of, spline_sample_of, InSpans}
use Rattle.spline.proofs.Spans.{in-spans}
use Rattle.spline.proofs.Counts.{sample-two, sample-more}
use Rattle.spline_table.specs.Near.{is_between}
use Rattle.spline_table.specs.Rows.{clamped_mark_of, blend_at}
use Rattle.spline_table.proofs.Index.{index_is}

module _ (points : List Float) (n j : ℕ) where
  -- ---- two points
  module _ (two : count_of points ≡ 2) (a b : Point) (starts : a ≡ point_at points 0) (ends : b ≡ point_at points 1) (t : Float) (e : t ≡ clamped_mark_of n j) where
    leg-is : lerp_point_of a b t ≡ sample_at (spline_sample_of points) n j
    unfolding sample_at
    leg-is =
        ap (λ (p : Point). lerp_point_of p b t) starts ∙ ap (λ (p : Point). lerp_point_of (point_at points 0) p t) ends
        ∙ ap (lerp_point_of (point_at points 0) (point_at points 1)) e ∙ sym (sample-two points (mark_of n j) two)

    pub leg-across : lerp_of a.x b.x t ≡ (sample_at (spline_sample_of points) n j).x
    leg-across = unfold lerp_point_of in ap (λ (p : Point). p.x) leg-is

    pub leg-along : lerp_of a.y b.y t ≡ (sample_at (spline_sample_of points) n j).y
    leg-along = unfold lerp_point_of in ap (λ (p : Point). p.y) leg-is

  -- ---- three points or more: the span number `index`, where the scaled mark lies between its ends
  module _ (more : 3 ≤ count_of points) (few : count_of points ≤ 4096) (index : ℕ) (inside : index + 1 < count_of points)
      (p0 p1 p2 p3 : Point) (before : p0 ≡ before_span points index) (starts : p1 ≡ point_at points index) (ends : p2 ≡ point_at points (index + 1)) (after : p3 ≡ after_span points index)
      (scaled : Float) (e : scaled ≡ mul binary32 (clamped_mark_of n j) (of_int binary32 (pos (count_of points - 1))))
      (between : T (is_between (of_int binary32 (pos index)) (of_int binary32 (pos (index + 1))) scaled)) where
    abbrev low : Float
    low = of_int binary32 (pos index)

    abbrev high : Float
    high = of_int binary32 (pos (index + 1))

    abbrev left : Float
    left = sub binary32 scaled low

    scaled-is : scaled ≡ scaled_of (count_of points - 1) (mark_of n j)
    unfolding scaled_of
    scaled-is = e

    index-here : index_of (count_of points - 1) scaled ≡ index
    index-here =
        index_is (count_of points - 1) scaled (subst (InSpans (count_of points - 1)) (sym scaled-is) (in-spans (count_of points - 1) (mark_of n j) (omega arith) (omega arith))) index (omega arith)
        (and_l (le low scaled) (lt scaled high) between) (and_r (le low scaled) (lt scaled high) between)

    along-is : along_of points scaled index ≡ sample_at (spline_sample_of points) n j
    unfolding sample_at curve_of
    along-is = sym (ap (along_of points scaled) index-here) ∙ ap (curve_of points (count_of points - 1)) scaled-is ∙ sym (sample-more points (mark_of n j) more)

    span-is : span_of p0 p1 p2 p3 left ≡ sample_at (spline_sample_of points) n j
    unfolding along_of
    span-is =
        ap (λ (p : Point). span_of p p1 p2 p3 left) before ∙ ap (λ (p : Point). span_of (before_span points index) p p2 p3 left) starts
        ∙ ap (λ (p : Point). span_of (before_span points index) (point_at points index) p p3 left) ends
        ∙ ap (λ (p : Point). span_of (before_span points index) (point_at points index) (point_at points (index + 1)) p left) after ∙ along-is

    pub span-across : blend_at p0.x p1.x p2.x p3.x low scaled ≡ (sample_at (spline_sample_of points) n j).x
    span-across = unfold span_of in ap (λ (p : Point). p.x) span-is

    pub span-along : blend_at p0.y p1.y p2.y p3.y low scaled ≡ (sample_at (spline_sample_of points) n j).y
    span-along = unfold span_of in ap (λ (p : Point). p.y) span-is
