-- An arc whose centre and radii are within 2^40 and whose angles are at most 16 radians has its samples within 2^54, so that its length is within 2^69. Assumes nothing.
use mathlib.Core.Path.{◌≡◌, refl, sym, subst}
use Prim.Native.Nat.{ℕ, ◌*◌, ◌≤◌, ◌^◌}
use native.Mathlib.Nat.{le_trans, le_of_eq, mul-one}
use native.Mathlib.Omega.{arith}
use mathlib.Core.Bool.{true, false, ◌&&◌}
use lib.Dec.{T}
use lib.IntN.{pos}
use lib.Pow.{pow_mono}
use lib.Ieee.{Float, nan, inf, fin, binary32, of_bits, up, down, neg, add, mul, le, lt, eq}
use lib.Ieee.Fits.{and_l, and_r}
use Rattle.floats.specs.Floats.{clamp01_of}
use Rattle.floats.proofs.Signs.{le→signed}
use Rattle.trig_rule.specs.Steps.{sine_of, cosine_of}
use Rattle.math.specs.declared.points.Point.{Point}
use Rattle.table_samples.specs.Samples.{table_of, total_of}
use Rattle.rotation.specs.Rotation.{phi_of}
use Rattle.ellipse.specs.declared.ends.Arc.{Arc}
use Rattle.ellipse.specs.Shape.{product, on_ellipse, angle_at, point_turned, point_on}
use Rattle.path_segment.specs.Segments.{length_for}
use Rattle.path_segment.specs.declared.segments.PathSegment.TheVariants as Segment
use Rattle.path_bounds.specs.Calm.{wide_f, wide_back_f, is_narrow, is_calm, is_calm_arc}
use Rattle.floats.proofs.Within.{Within, within-le, add-within, mul-within}
use Rattle.path_bounds.proofs.Tested.{Near, calm-near, clamped-within}
use Rattle.path_bounds.proofs.Roots.{holds-power, add-power, sub-power}
use Rattle.path_bounds.proofs.Lengths.{total-within}
use Rattle.trig_rule.proofs.Sizes.{within-reach, sine-within, cosine-within}

-- ---- the angles
pub wide_is : wide_f ≡ fin false 1 (pos 4)
unfolding wide_f of_bits
wide_is = refl

pub wide-back-is : wide_back_f ≡ fin true 1 (pos 4)
unfolding wide_back_f wide_f of_bits neg
wide-back-is = refl

sized : (x : Float) → T (le x (fin false 1 (pos 4))) → T (le (fin true 1 (pos 4)) x) → Within 16 x
unfolding le lt eq
sized nan l u = absurd l
sized (inf true) l u = absurd u
sized (inf false) l u = absurd l
sized (fin false m e) l u = record { whole = tt; bound = le_trans (le_of_eq (sym (mul-one (m * up e)))) (le→signed false (m * up e * 1) false (1 * 2 ^ 4 * down e) l) }
sized (fin true m e) l u = record { whole = tt; bound = le_trans (le_of_eq (sym (mul-one (m * up e)))) (le→signed true (1 * 2 ^ 4 * down e) true (m * up e * 1) u) }

narrow_within : (x : Float) → T (is_narrow x) → Within 16 x
unfolding is_narrow
narrow_within x h =
    sized x (subst (λ (z : Float). T (le x z)) wide_is (and_l (le x wide_f) (le wide_back_f x) h))
    (subst (λ (z : Float). T (le z x)) wide-back-is (and_r (le x wide_f) (le wide_back_f x) h))

angle-within : (shape : Arc) (t : Float) → Within 16 shape.start_angle → Within 16 shape.delta_angle → Within 1 t → Within 32 (angle_at shape t)
angle-within shape t p q r =
    add-within binary32 16 16 shape.start_angle (mul binary32 shape.delta_angle t) (holds-power 5 (omega arith)) p
    (mul-within binary32 16 1 shape.delta_angle t (holds-power 4 (omega arith)) q r)

-- ---- a point of the ellipse
product-within : (a b c : Float) → Within 64 a → Within (2 ^ 40) b → Within 64 c → Within (2 ^ 52) (product a b c)
product-within a b c p q r =
    mul-within binary32 (2 ^ 46) 64 (mul binary32 a b) c (holds-power 52 (omega arith)) (mul-within binary32 64 (2 ^ 40) a b (holds-power 46 (omega arith)) p q) r

wider : (j k : ℕ) (x : Float) → j ≤ k → Within (2 ^ j) x → Within (2 ^ k) x
wider j k x h w = within-le x (pow_mono h) w

on-ellipse-near : (center radii : Point) (sin-phi cos-phi sin-angle cos-angle : Float) → Near 40 center → Near 40 radii → Within 64 sin-phi → Within 64 cos-phi → Within 64 sin-angle → Within 64 cos-angle
    → Near 54 (on_ellipse center radii sin-phi cos-phi sin-angle cos-angle)
unfolding on_ellipse
on-ellipse-near center radii sin-phi cos-phi sin-angle cos-angle c r sp cp sa ca =
    record {
      across =
          sub-power 53 (add binary32 center.x (product cos-phi radii.x cos-angle)) (product sin-phi radii.y sin-angle) (omega arith)
          (add-power 52 center.x (product cos-phi radii.x cos-angle) (omega arith) (wider 40 52 center.x (omega arith) c.across) (product-within cos-phi radii.x cos-angle cp r.across ca))
          (wider 52 53 (product sin-phi radii.y sin-angle) (omega arith) (product-within sin-phi radii.y sin-angle sp r.along sa));
      along =
          add-power 53 (add binary32 center.y (product sin-phi radii.x cos-angle)) (product cos-phi radii.y sin-angle) (omega arith)
          (add-power 52 center.y (product sin-phi radii.x cos-angle) (omega arith) (wider 40 52 center.y (omega arith) c.along) (product-within sin-phi radii.x cos-angle sp r.across ca))
          (wider 52 53 (product cos-phi radii.y sin-angle) (omega arith) (product-within cos-phi radii.y sin-angle cp r.along sa));
    }

-- ---- the arc
record Parts (shape : Arc) : Type 0 where
  center : T (is_calm shape.center)
  radii : T (is_calm shape.radii)
  start : T (is_narrow shape.start_angle)
  delta : T (is_narrow shape.delta_angle)
  turn : T (is_narrow (phi_of shape.x_axis_rotation))

parted : (shape : Arc) → T (is_calm_arc shape) → Parts shape
unfolding is_calm_arc
parted shape h =
    let a = is_calm shape.center in
    let b = is_calm shape.radii in
    let c = is_narrow shape.start_angle in
    let d = is_narrow shape.delta_angle in
    let e = is_narrow (phi_of shape.x_axis_rotation) in
    let abcd = and_l (a && b && c && d) e h in
    let abc = and_l (a && b && c) d abcd in
    let ab = and_l (a && b) c abc in
    record { center = and_l a b ab; radii = and_r a b ab; start = and_r (a && b) c abc; delta = and_r (a && b && c) d abcd; turn = and_r (a && b && c && d) e h }

pub arc-near : (shape : Arc) → T (is_calm_arc shape) → (raw : Float) → Near 54 (point_on shape raw)
unfolding point_on point_turned
arc-near shape h raw =
    let p = parted shape h in
    let phi = phi_of shape.x_axis_rotation in
    let angle = angle_at shape (clamp01_of raw) in
    let turned = within-reach phi (within-le phi (let l : 16 ≤ 32 = omega arith in l) (narrow_within phi p.turn)) in
    let reached = within-reach angle (angle-within shape (clamp01_of raw) (narrow_within shape.start_angle p.start) (narrow_within shape.delta_angle p.delta) (clamped-within raw)) in
    on-ellipse-near shape.center shape.radii (sine_of phi) (cosine_of phi) (sine_of angle) (cosine_of angle) (calm-near shape.center p.center) (calm-near shape.radii p.radii)
    (sine-within phi turned) (cosine-within phi turned) (sine-within angle reached) (cosine-within angle reached)

pub arc-short : (shape : Arc) → T (is_calm_arc shape) → Within (2 ^ 69) (length_for (Segment.Arc shape))
unfolding length_for table_of
arc-short shape h =
    let l : 31 * 2 ^ 64 ≤ 2 ^ 69 = omega arith in
    within-le (total_of (point_on shape) 31) l (total-within (point_on shape) 31 54 (omega arith) (arc-near shape h) (omega arith))
