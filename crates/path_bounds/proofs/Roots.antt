-- The f64 root of what is at most 2^127 is at most 2^64, and so is the distance of two points within 2^60. Assumes nothing.
use mathlib.Core.Path.{◌≡◌, refl, sym, ap, ◌∙◌, subst}
use mathlib.Core.Logic.{inl, inr}
use Prim.Native.Nat.{ℕ, zero-le, ◌+◌, ◌*◌, ◌≤◌, ◌<◌, ◌^◌}
use native.Mathlib.Nat.{le_trans, le_of_eq, le_of_lt, le_refl, lt_of_lt_of_le, lt_of_le_of_lt, lt_irrefl, zero-mul, one-mul, mul-one, mul_assoc, mul_comm, mul-le-mul_right}
use native.Mathlib.Omega.{arith}
use mathlib.Core.Bool.{Bool, true, false, cond}
use lib.Dec.{T, eqb, eqb→eq, leb, leb→le, nleb→lt}
use lib.Pow.{pow_pos, pow-add, pow_mono, pow-lt}
use lib.Ieee.{Float, nan, inf, fin, binary32, binary64, round, add, sub, mul, up, down}
use lib.Ieee.Fits.{down_pos}
use lib.Ieee.Nearest.{div_mono}
use lib.Ieee.Positive.{num, den, den_pos}
use Rattle.floats.proofs.Tests.{decide, passed}
use Rattle.floats.proofs.Between.{finite-real}
use Rattle.root.specs.Root.{units_of, whole_root, root_of}
use Rattle.root.proofs.Middles.{square-lt}
use Rattle.root.proofs.Squares.{whole-root}
use Rattle.floats.specs.Kinds.{upward}
use Rattle.lengths.specs.Length.{narrow_of, square_sum_of}
use Rattle.lengths.specs.Length as lengths
use Rattle.lengths.proofs.Upward.{squares-upward}
use Rattle.math.specs.declared.points.Point.{Point}
use Rattle.math.specs.Math.{sub_of, length_of, distance_of}
use Rattle.floats.proofs.Within.{Within, within-le, Holds, holds-scaled, round-within, add-within, sub_within, mul-within}
use Rattle.path_bounds.proofs.Tested.{Near}

-- ---- powers of 2 that the format holds
pub holds-power : (k : ℕ) → k ≤ 127 → Holds binary32 (2 ^ k)
holds-power k h = subst (Holds binary32) (one-mul (2 ^ k)) (holds-scaled binary32 1 1 k (omega arith) (omega arith) (omega arith))

wide-power : (k : ℕ) → k ≤ 127 → Holds binary64 (2 ^ k)
wide-power k h = subst (Holds binary64) (one-mul (2 ^ k)) (holds-scaled binary64 1 1 k (omega arith) (omega arith) (omega arith))

doubled : (k : ℕ) → 2 ^ (k + 1) ≡ 2 ^ k + 2 ^ k
doubled k = pow-add 2 k 1 ∙ let e : 2 ^ k * 2 ≡ 2 ^ k + 2 ^ k = omega arith in e

pub add-power : (k : ℕ) (x y : Float) → k ≤ 126 → Within (2 ^ k) x → Within (2 ^ k) y → Within (2 ^ (k + 1)) (add binary32 x y)
add-power k x y h p q =
    subst (λ n. Within n (add binary32 x y)) (sym (doubled k)) (add-within binary32 (2 ^ k) (2 ^ k) x y (subst (Holds binary32) (doubled k) (holds-power (k + 1) (omega arith))) p q)

pub sub-power : (k : ℕ) (x y : Float) → k ≤ 126 → Within (2 ^ k) x → Within (2 ^ k) y → Within (2 ^ (k + 1)) (sub binary32 x y)
sub-power k x y h p q =
    subst (λ n. Within n (sub binary32 x y)) (sym (doubled k)) (sub_within binary32 (2 ^ k) (2 ^ k) x y (subst (Holds binary32) (doubled k) (holds-power (k + 1) (omega arith))) p q)

-- ---- the root
root-small : (b n q : ℕ) → n < b * b → q * q ≤ n → q ≤ b
root-small b n q h l = elim (decide (leb q b)) [ inl t ↦ leb→le q b t | inr t ↦ absurd (lt_irrefl n (lt_of_lt_of_le h (le_trans (le_of_lt (square-lt (nleb→lt q b t))) l))) ]

units_small : (x : Float) → num x ≤ 2 ^ 127 * den x → units_of binary64 x ≤ 2 ^ 1201
units_small x h =
    le_trans (div_mono (num x * 2 ^ 1074) (den x) (2 ^ 1201) 1 (den_pos x) (pow_pos 0)
    (le_trans (le_of_eq (mul-one (num x * 2 ^ 1074))) (le_trans (mul-le-mul_right (2 ^ 1074) h) (le_of_eq (swap (2 ^ 127) (den x) (2 ^ 1074))))))
    (le_refl (2 ^ 1201))
  where
    swap : (a b c : ℕ) → a * b * c ≡ a * c * b
    swap a b c = mul_assoc a b c ∙ ap (λ n. a * n) (mul_comm b c) ∙ sym (mul_assoc a c b)

pub root-within : (x : Float) → T (upward x) → Within (2 ^ 127) x → Within (2 ^ 64) (root_of binary64 x)
unfolding root_of
root-within nan p w = absurd p
root-within (inf s) p w = absurd w.whole
root-within (fin true m e) p w = absurd p
root-within (fin false m e) p w = go (eqb m 0) refl
  where
    own : ℕ
    own = whole_root (units_of binary64 (fin false m e) * 2 ^ 1074)

    few : units_of binary64 (fin false m e) * 2 ^ 1074 < 2 ^ 1138 * 2 ^ 1138
    few = lt_of_le_of_lt (mul-le-mul_right (2 ^ 1074) (units_small (fin false m e) w.bound)) (pow-lt {i = 2275} {j = 2276} (omega arith))

    small : own ≤ 2 ^ 64 * 2 ^ 1074
    small = root-small (2 ^ 1138) (units_of binary64 (fin false m e) * 2 ^ 1074) own few (whole-root (units_of binary64 (fin false m e) * 2 ^ 1074)).low

    go : (b : Bool) → eqb m 0 ≡ b → Within (2 ^ 64) (cond b (fin false m e) (round binary64 false own (2 ^ 1074)))
    go true z = record { whole = tt; bound = le_trans (le_of_eq (ap (λ k. k * up e) (eqb→eq m 0 (passed z)) ∙ zero-mul (up e))) zero-le }
    go false z = round-within binary64 false own (2 ^ 1074) (2 ^ 64) (pow_pos 1074) (wide-power 64 (omega arith)) small

-- rounded to f32 it stays there
narrow_within : (x : Float) → Within (2 ^ 64) x → Within (2 ^ 64) (narrow_of x)
unfolding narrow_of
narrow_within nan w = absurd w.whole
narrow_within (inf s) w = absurd w.whole
narrow_within (fin s m e) w = round-within binary32 s (m * up e) (down e) (2 ^ 64) (down_pos e) (holds-power 64 (omega arith)) w.bound

-- ---- a length, of two coordinates within 2^61
square-within : (x : Float) → Within (2 ^ 61) x → Within (2 ^ 122) (mul binary64 x x)
square-within x w = mul-within binary64 (2 ^ 61) (2 ^ 61) x x (wide-power 122 (omega arith)) w w

sum-within : (x y : Float) → Within (2 ^ 61) x → Within (2 ^ 61) y → Within (2 ^ 127) (square_sum_of x y)
unfolding square_sum_of
sum-within x y v w =
    let l : 2 ^ 123 ≤ 2 ^ 127 = pow_mono {i = 123} {j = 127} (omega arith) in
    within-le (add binary64 (mul binary64 x x) (mul binary64 y y)) l
    (add-within binary64 (2 ^ 122) (2 ^ 122) (mul binary64 x x) (mul binary64 y y) (wide-power 123 (omega arith)) (square-within x v) (square-within y w))

length-within : (x y : Float) → Within (2 ^ 61) x → Within (2 ^ 61) y → Within (2 ^ 64) (lengths.length_of x y)
unfolding lengths.length_of
length-within x y v w =
    narrow_within (root_of binary64 (square_sum_of x y))
    (root-within (square_sum_of x y) (squares-upward x y (finite-real x v.whole) (finite-real y w.whole)) (sum-within x y v w))

-- ---- the distance of two points
module _ (a b : Point) (k : ℕ) (small : k ≤ 60) (p : Near k a) (q : Near k b) where
  difference : (x y : Float) → Within (2 ^ k) x → Within (2 ^ k) y → Within (2 ^ 61) (sub binary32 x y)
  difference x y v w =
      let l : 2 ^ (k + 1) ≤ 2 ^ 61 = pow_mono {j = 61} (omega arith) in
      within-le (sub binary32 x y) l (sub-power k x y (omega arith) v w)

  pub distance-within : Within (2 ^ 64) (distance_of a b)
  unfolding distance_of length_of sub_of
  distance-within =
      length-within (sub binary32 b.x a.x) (sub binary32 b.y a.y)
      (difference b.x a.x q.across p.across) (difference b.y a.y q.along p.along)
