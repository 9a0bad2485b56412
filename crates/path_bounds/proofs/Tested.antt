-- What passes the test is within 2^40; a clamped parameter is within 1. Assumes nothing.
use mathlib.Core.Path.{◌≡◌, refl, sym, subst}
use Prim.Native.Nat.{ℕ, ◌*◌, ◌^◌}
use native.Mathlib.Nat.{le_trans, le_of_eq, one-mul, mul-one}
use mathlib.Core.Bool.{true, false}
use lib.IntN.{pos}
use lib.Dec.{T}
use lib.Ieee.{Float, nan, inf, fin, of_bits, up, down, neg, le, lt, eq}
use lib.Ieee.Fits.{and_l, and_r}
use lib.Ieee.Positive.{den}
use Rattle.floats.specs.Floats.{clamp01_of}
use Rattle.floats.proofs.Signs.{le→signed}
use Rattle.floats.proofs.Clamping.{clamp01-nonneg, clamp01-at-most, at_most_one}
use Rattle.math.specs.declared.points.Point.{Point}
use Rattle.path_bounds.specs.Calm.{far_f, back_f, is_near, is_calm}
use Rattle.floats.proofs.Within.{Within, nonneg-finite}

-- both coordinates of a point are within 2^k
pub record Near (k : ℕ) (p : Point) : Type 0 where
  pub across : Within (2 ^ k) p.x
  pub along : Within (2 ^ k) p.y

pub far-is : far_f ≡ fin false 1 (pos 40)
unfolding far_f of_bits
far-is = refl

pub back_is : back_f ≡ fin true 1 (pos 40)
unfolding back_f far_f of_bits neg
back_is = refl

sized : (x : Float) → T (le x (fin false 1 (pos 40))) → T (le (fin true 1 (pos 40)) x) → Within (2 ^ 40) x
unfolding le lt eq
sized nan l u = absurd l
sized (inf true) l u = absurd u
sized (inf false) l u = absurd l
sized (fin false m e) l u = record { whole = tt; bound = le_trans (le_of_eq (sym (mul-one (m * up e)))) (le→signed false (m * up e * 1) false (1 * 2 ^ 40 * down e) l) }
sized (fin true m e) l u = record { whole = tt; bound = le_trans (le_of_eq (sym (mul-one (m * up e)))) (le→signed true (1 * 2 ^ 40 * down e) true (m * up e * 1) u) }

pub near_within : (x : Float) → T (is_near x) → Within (2 ^ 40) x
unfolding is_near
near_within x h =
    sized x (subst (λ far. T (le x far)) far-is (and_l (le x far_f) (le back_f x) h))
    (subst (λ back. T (le back x)) back_is (and_r (le x far_f) (le back_f x) h))

pub calm-near : (p : Point) → T (is_calm p) → Near 40 p
unfolding is_calm
calm-near p h =
    record { across = near_within p.x (and_l (is_near p.x) (is_near p.y) h); along = near_within p.y (and_r (is_near p.x) (is_near p.y) h) }

pub clamped-within : (t : Float) → Within 1 (clamp01_of t)
clamped-within t =
    record {
      whole = nonneg-finite (clamp01_of t) (clamp01-nonneg t);
      bound = le_trans (at_most_one (clamp01_of t) (clamp01-nonneg t) (clamp01-at-most t)) (le_of_eq (sym (one-mul (den (clamp01_of t)))));
    }
