-- What is left of the scaled parameter lies in a span (`in-spans`, `index-lt`). Assumes nothing.
use Rattle.std.proofs.Common.{◌≡◌, ℕ, ◌-◌, ◌^◌, ◌<◌, ◌≤◌, sym, ap, ◌∙◌, subst, arith, le→leb}
use lib.Ieee.{in_float}
use Rattle.floats.specs.Floats.{clamp01_of}
use Rattle.polyline.specs.Points.{count_of}
use Rattle.spline.specs.Formula.{along_of, curve_of, InSpans}
use Rattle.spline.proofs.Spans.{scaled-is, in-spans, index-lt}
use Rattle.spline.proofs.sampling.curve.Goals as goal

pub int_to_float-scaled : goal.int_to_float-scaled
unfolding in_float
int_to_float-scaled c = le→leb (count_of c.args.points.now - 1) (2 ^ 24) (omega arith)

spans : (n : ℕ) → 3 ≤ n → n ≤ 4096 → (0 < n - 1) × (n - 1 ≤ 4095)
spans n h k = (omega arith, omega arith)

pub span_index-index-requires : goal.span_index-index-requires
span_index-index-requires c =
    let n = spans (count_of c.args.points.now) c.requires.0 c.requires.1 in
    subst (InSpans _) (sym (scaled-is _ _ _ ((let clamped_here : c.clamp01.result ≡ clamp01_of c.args.raw.value = c.clamp01.ensures ∙ ap clamp01_of c.number_of.ensures in clamped_here)))) (in-spans _ _ n.1 n.0)

pub along-requires : goal.along-requires
along-requires c =
    let n = spans (count_of c.args.points.now) c.requires.0 c.requires.1 in
    let l : c.span_index-index.result < count_of c.args.points.now - 1 = subst (λ (i : ℕ). i < count_of c.args.points.now - 1) (sym c.span_index-index.ensures) (index-lt _ _ n.0) in
    (omega arith, c.requires.1)

pub returns : goal.returns
unfolding curve_of
returns c =
    let scaled = scaled-is _ _ _ ((let clamped_here : c.clamp01.result ≡ clamp01_of c.args.raw.value = c.clamp01.ensures ∙ ap clamp01_of c.number_of.ensures in clamped_here)) in
    c.along.ensures ∙ ap (along_of _ _) c.span_index-index.ensures ∙ ap (curve_of _ _) scaled
