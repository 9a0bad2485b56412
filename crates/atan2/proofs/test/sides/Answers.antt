-- The sides of the crate `trig`, brought to units of 2 ^ -30; no product reaches 2 ^ 64, by what the sides are at half a turn. Assumes nothing.
use native.Mathlib.Omega.{arith}
use native.Mathlib.Nat.{mul-le-mul, le_trans, le_of_eq}
use Prim.Native.Nat.{ℕ, ◌*◌, ◌/◌, ◌^◌, ◌≤◌, ◌<◌}
use mathlib.Core.Path.{◌≡◌, ap}
use lib.Dec.{lit≤}
use Rattle.trig_rule.specs.Steps.{half, sine_plus, sine_minus, cosine_plus, cosine_minus}
use Rattle.atan2_rule.specs.Steps.{cosine_up, cosine_down, sine_up, sine_down}
use Rattle.atan2_rule.proofs.Sides.{cosine-up-most, cosine-down-most, sine-up-most, sine-down-most}
use Rattle.atan2.specs.Sums.{SumsAt}
use Rattle.atan2.proofs.test.sides.Goals as goal

cut_product : (r g : ℕ) → r ≤ half → g < 2 ^ 32 → r / 67108864 * g ≤ 3373259426 * 4294967295
cut_product r g h k = mul-le-mul (cut h) (under k)
  where
    cut : r ≤ half → r / 67108864 ≤ 3373259426
    cut l = omega arith

    under : g < 2 ^ 32 → g ≤ 4294967295
    under l = omega arith

sums_at : (r cp cm sp sm : ℕ) → r ≤ half → cp ≡ cosine_plus r → cm ≡ cosine_minus r → sp ≡ sine_plus r → sm ≡ sine_minus r → SumsAt r (4 * cp) (4 * cm) (r / 67108864 * sp / 1073741824) (r / 67108864 * sm / 1073741824)
sums_at r cp cm sp sm h ecp ecm esp esm =
    let a : 4 * cp ≡ cosine_up r = ap (λ (n : ℕ). 4 * n) ecp in
    let b : 4 * cm ≡ cosine_down r = ap (λ (n : ℕ). 4 * n) ecm in
    let d : r / 67108864 * sp / 1073741824 ≡ sine_up r = ap (λ (n : ℕ). r / 67108864 * n / 1073741824) esp in
    let e : r / 67108864 * sm / 1073741824 ≡ sine_down r = ap (λ (n : ℕ). r / 67108864 * n / 1073741824) esm in
    record {
      cosine-up = a;
      cosine-down = b;
      sine-up = d;
      sine-down = e;
      bounded = record {
        cosine-up-most = le_trans (le_of_eq a) (le_trans (cosine-up-most r h) (lit≤ tt));
        cosine-down-most = le_trans (le_of_eq b) (le_trans (cosine-down-most r h) (lit≤ tt));
        sine-up-most = le_trans (le_of_eq d) (le_trans (sine-up-most r h) (lit≤ tt));
        sine-down-most = le_trans (le_of_eq e) (le_trans (sine-down-most r h) (lit≤ tt));
      };
    }

pub returns : goal.returns
returns c =
    sums_at c.args.r c.cosine_sides-c.result.plus c.cosine_sides-c.result.minus c.sine_sides-s.result.plus c.sine_sides-s.result.minus c.requires
    c.cosine_sides-c.ensures.0 c.cosine_sides-c.ensures.1 c.sine_sides-s.ensures.0 c.sine_sides-s.ensures.1
