-- Where all that stands before an arc's angles is within 2^30, and its ends too, the arc is calm. Assumes nothing.
use mathlib.Core.Path.{◌≡◌, refl, sym, ap, subst}
use Prim.Native.Nat.{ℕ, ◌*◌, ◌≤◌, ◌^◌}
use native.Mathlib.Nat.{le_trans, le_of_eq, mul-one, one-mul}
use native.Mathlib.Omega.{arith}
use mathlib.Core.Bool.{Bool, true, false, ◌&&◌}
use lib.Dec.{T, lit≤}
use lib.IntN.{pos}
use lib.Pow.{pow_mono}
use lib.Ieee.{Float, nan, inf, fin, binary32, of_bits, up, down, neg, add, sub, mul, le, lt, eq, fits}
use lib.Ieee.Bits.{is_true}
use lib.Ieee.Fits.{and_i, and_l, and_r}
use lib.Ieee.Scale.{finite}
use Rattle.floats.specs.Floats.{zero_f, one_f}
use Rattle.floats.proofs.Tests.{passed}
use Rattle.floats.proofs.Signs.{SignedLe, le→signed, signed→le}
use Rattle.floats.proofs.Within.{Within, within-le, mul-within}
use Rattle.trig_rule.specs.Steps.{sine_of, cosine_of}
use Rattle.trig_rule.proofs.Sizes.{within-reach, sine-within, cosine-within}
use Rattle.math.specs.declared.points.Point.{Point}
use Rattle.math.specs.Math.{point_of}
use Rattle.rotation.specs.Rotation.{phi_of}
use Rattle.rotation.proofs.Radians.{phi-within}
use Rattle.ellipse.specs.declared.ends.Chord.{Chord}
use Rattle.ellipse.specs.declared.ends.Way.{Way}
use Rattle.ellipse.specs.Ends.{half_f, half_sum, center_of, way_of, from_ends_of}
use Rattle.path_bounds.specs.Calm.{far_f, back_f, is_near, is_calm, wide_f, wide_back_f, is_narrow, is_calm_arc, mild_f, mild_back_f, is_mild, is_mild_point, is_mild_way}
use Rattle.path_bounds.proofs.Tested.{Near, far-is, back_is}
use Rattle.path_bounds.proofs.Roots.{holds-power, add-power, sub-power}
use Rattle.path_bounds.proofs.Arcs.{wide_is, wide-back-is}
use Rattle.path_bounds.proofs.Angles.{angle-between-within, turned-within}

-- ---- a size and its two comparisons
module _ (k : ℕ) where
  at_most : (x : Float) → Within (2 ^ k) x → T (le x (fin false 1 (pos k)))
  unfolding le lt eq
  at_most nan w = absurd w.whole
  at_most (inf s) w = absurd w.whole
  at_most (fin s m e) w = signed→le s (m * up e * 1) false (1 * 2 ^ k * down e) (under s (m * up e) (down e) (2 ^ k) w.bound)
    where
      under : (s : Bool) (a d p : ℕ) → a ≤ p * d → SignedLe s (a * 1) false (1 * p * d)
      under true a d p h = tt
      under false a d p h = le_trans (le_of_eq (mul-one a)) (le_trans h (le_of_eq (ap (λ (n : ℕ). n * d) (sym (one-mul p)))))

  at_least : (x : Float) → Within (2 ^ k) x → T (le (fin true 1 (pos k)) x)
  unfolding le lt eq
  at_least nan w = absurd w.whole
  at_least (inf s) w = absurd w.whole
  at_least (fin s m e) w = signed→le true (1 * 2 ^ k * down e) s (m * up e * 1) (above s (m * up e) (down e) (2 ^ k) w.bound)
    where
      above : (s : Bool) (a d p : ℕ) → a ≤ p * d → SignedLe true (1 * p * d) s (a * 1)
      above true a d p h = le_trans (le_of_eq (mul-one a)) (le_trans h (le_of_eq (ap (λ (n : ℕ). n * d) (sym (one-mul p)))))
      above false a d p h = tt

  sized : (x : Float) → T (le x (fin false 1 (pos k))) → T (le (fin true 1 (pos k)) x) → Within (2 ^ k) x
  unfolding le lt eq
  sized nan l u = absurd l
  sized (inf true) l u = absurd u
  sized (inf false) l u = absurd l
  sized (fin false m e) l u =
      record {
        whole = tt;
        bound = le_trans (le_of_eq (sym (mul-one (m * up e)))) (le_trans (le→signed false (m * up e * 1) false (1 * 2 ^ k * down e) l) (le_of_eq (ap (λ (n : ℕ). n * down e) (one-mul (2 ^ k)))));
      }
  sized (fin true m e) l u =
      record {
        whole = tt;
        bound = le_trans (le_of_eq (sym (mul-one (m * up e)))) (le_trans (le→signed true (1 * 2 ^ k * down e) true (m * up e * 1) u) (le_of_eq (ap (λ (n : ℕ). n * down e) (one-mul (2 ^ k)))));
      }

mild-is : mild_f ≡ fin false 1 (pos 30)
unfolding mild_f of_bits
mild-is = refl

mild-back-is : mild_back_f ≡ fin true 1 (pos 30)
unfolding mild_back_f mild_f of_bits neg
mild-back-is = refl

mild-within : (x : Float) → T (is_mild x) → Within (2 ^ 30) x
unfolding is_mild
mild-within x h =
    sized 30 x (subst (λ (z : Float). T (le x z)) mild-is (and_l (le x mild_f) (le mild_back_f x) h))
    (subst (λ (z : Float). T (le z x)) mild-back-is (and_r (le x mild_f) (le mild_back_f x) h))

mild-near : (p : Point) → T (is_mild_point p) → Near 30 p
unfolding is_mild_point
mild-near p h =
    record { across = mild-within p.x (and_l (is_mild p.x) (is_mild p.y) h); along = mild-within p.y (and_r (is_mild p.x) (is_mild p.y) h) }

near-tested : (x : Float) → Within (2 ^ 40) x → T (is_near x)
unfolding is_near
near-tested x w =
    and_i (le x far_f) (le back_f x) (subst (λ (z : Float). T (le x z)) (sym far-is) (at_most 40 x w)) (subst (λ (z : Float). T (le z x)) (sym back_is) (at_least 40 x w))

calm-tested : (k : ℕ) (p : Point) → k ≤ 40 → Near k p → T (is_calm p)
unfolding is_calm
calm-tested k p h n =
    let wider = pow_mono {i = k} {j = 40} h in
    and_i (is_near p.x) (is_near p.y) (near-tested p.x (within-le p.x wider n.across)) (near-tested p.y (within-le p.y wider n.along))

narrow-tested : (x : Float) → Within 16 x → T (is_narrow x)
unfolding is_narrow
narrow-tested x w =
    and_i (le x wide_f) (le wide_back_f x) (subst (λ (z : Float). T (le x z)) (sym wide_is) (at_most 4 x w)) (subst (λ (z : Float). T (le z x)) (sym wide-back-is) (at_least 4 x w))

-- ---- the centre
half-within : Within 1 half_f
unfolding half_f of_bits
half-within = record { whole = tt; bound = lit≤ tt }

sum-within : (a b : Float) → Within (2 ^ 30) a → Within (2 ^ 30) b → Within (2 ^ 31) (half_sum a b)
sum-within a b p q = mul-within binary32 (2 ^ 31) 1 (add binary32 a b) half_f (holds-power 31 (omega arith)) (add-power 30 a b (omega arith) p q) half-within

turned-part : (a b : Float) → Within 64 a → Within (2 ^ 30) b → Within (2 ^ 36) (mul binary32 a b)
turned-part a b p q = mul-within binary32 64 (2 ^ 30) a b (holds-power 36 (omega arith)) p q

-- the turned middle, and half the sum of the ends more
moved : (b c : Float) → Within (2 ^ 37) b → Within (2 ^ 31) c → Within (2 ^ 38) (add binary32 b c)
moved b c r q = add-power 37 b c (omega arith) r (within-le c (pow_mono {i = 31} {j = 37} (omega arith)) q)

center-near : (sin-phi cos-phi : Float) (m start end : Point) → Within 64 sin-phi → Within 64 cos-phi → Near 30 m → Near 30 start → Near 30 end → Near 38 (center_of sin-phi cos-phi m start end)
unfolding center_of
center-near sin-phi cos-phi m start end s c n p q =
    record {
      across =
          moved (sub binary32 (mul binary32 cos-phi m.x) (mul binary32 sin-phi m.y)) (half_sum start.x end.x)
          (sub-power 36 (mul binary32 cos-phi m.x) (mul binary32 sin-phi m.y) (omega arith) (turned-part cos-phi m.x c n.across) (turned-part sin-phi m.y s n.along))
          (sum-within start.x end.x p.across q.across);
      along =
          moved (add binary32 (mul binary32 sin-phi m.x) (mul binary32 cos-phi m.y)) (half_sum start.y end.y)
          (add-power 36 (mul binary32 sin-phi m.x) (mul binary32 cos-phi m.y) (omega arith) (turned-part sin-phi m.x s n.across) (turned-part cos-phi m.y c n.along))
          (sum-within start.y end.y p.along q.along);
    }

-- ---- the arc
record Mild (way : Way) : Type 0 where
  radii : Near 30 way.radii
  middle : Near 30 way.middle
  towards : Near 30 way.towards
  away : Near 30 way.away

mild : (way : Way) → T (is_mild_way way) → Mild way
unfolding is_mild_way
mild way h =
    let a = is_mild_point way.radii in
    let b = is_mild_point way.middle in
    let c = is_mild_point way.towards in
    let d = is_mild_point way.away in
    let abc = and_l (a && b && c) d h in
    let ab = and_l (a && b) c abc in
    record {
      radii = mild-near way.radii (and_l a b ab);
      middle = mild-near way.middle (and_r a b ab);
      towards = mild-near way.towards (and_r (a && b) c abc);
      away = mild-near way.away (and_r (a && b && c) d h);
    }

right_near : Near 30 (point_of one_f zero_f)
unfolding one_f zero_f of_bits
right_near = record { across = record { whole = tt; bound = lit≤ tt }; along = record { whole = tt; bound = lit≤ tt } }

told : {a b : Bool} → a ≡ b → T a → T b
told q t = subst T q t

module _ (chord : Chord) (held : T (fits binary32 chord.x_axis_rotation)) (number : T (finite chord.x_axis_rotation)) where
  pub calm-way : T (is_mild_point chord.start) → T (is_mild_point chord.end) → T (is_mild_way (way_of chord)) → T (is_calm_arc (from_ends_of chord))
  unfolding is_calm_arc from_ends_of
  calm-way s e h =
      let way = way_of chord in
      let arc = from_ends_of chord in
      let m = mild way h in
      let phi = phi_of chord.x_axis_rotation in
      let angle : Within 8 phi = phi-within chord.x_axis_rotation held number in
      let reached = within-reach phi (within-le phi (let l : 8 ≤ 32 = omega arith in l) angle) in
      let near = center-near (sine_of phi) (cosine_of phi) way.middle chord.start chord.end (sine-within phi reached) (cosine-within phi reached) m.middle (mild-near chord.start s) (mild-near chord.end e) in
      let center = calm-tested 38 arc.center (omega arith) near in
      let radii = calm-tested 30 way.radii (omega arith) m.radii in
      let first = angle-between-within (point_of one_f zero_f) way.towards right_near m.towards in
      let start = narrow-tested arc.start_angle (within-le arc.start_angle (let l : 4 ≤ 16 = omega arith in l) first) in
      let delta = narrow-tested arc.delta_angle (turned-within _ chord.sweep (angle-between-within way.towards way.away m.towards m.away)) in
      let turn = narrow-tested phi (within-le phi (let l : 8 ≤ 16 = omega arith in l) angle) in
      let a = is_calm arc.center in
      let b = is_calm arc.radii in
      let c = is_narrow arc.start_angle in
      let d = is_narrow arc.delta_angle in
      and_i (a && b && c && d) (is_narrow phi) (and_i (a && b && c) d (and_i (a && b) c (and_i a b center radii) start) delta) turn

  -- by what the tests gave
  pub calm-tests : {s e w : Bool} → s ≡ is_mild_point chord.start → e ≡ is_mild_point chord.end → w ≡ is_mild_way (way_of chord) → ((s && e) && w) ≡ true → true ≡ is_calm_arc (from_ends_of chord)
  calm-tests {s} {e} {w} hs he hw h =
      let all = passed h in
      let both = and_l (s && e) w all in
      sym (is_true _ (calm-way (told hs (and_l s e both)) (told he (and_r s e both)) (told hw (and_r (s && e) w all))))
