-- A difference of two whole numbers by f64: each goes into the pattern of 1.5 * 2 ^ (52 - u), whose last digit is 2 ^ -u, and taking that float off is exact.
-- The pattern of a whole number of 2 ^ -u. Assumes nothing.
use mathlib.Core.Path.{◌≡◌, refl, sym, ap, ◌∙◌, subst}
use mathlib.Core.Logic.{inl}
use mathlib.Core.Bool.{Bool, true, false, cond}
use Prim.Native.Nat.{ℕ, suc, ◌+◌, ◌-◌, ◌*◌, ◌/◌, ◌%◌, ◌^◌, ◌≤◌, ◌<◌, Ordering}
use native.Mathlib.Nat.{lt_of_lt_of_le, le_trans, le_of_eq, add-zero, mul_assoc, add-mul, mul-pos, mul-le-mul_right, mul-lt-mul_of_pos_right}
use native.Mathlib.Omega.{arith}
use borrow.Author.Tests.{lt-ltb, le-ltb, leb-true, leb-false}
use lib.Dec.{leb, ltb}
use lib.Pow.{pow-add, pow_pos, pow_mono, shl_lt}
use lib.Ieee.{binary64, sub, round, units, nearest, of_bits}
use lib.Ieee.Exact.{HasValue}
use lib.Ieee.Scale.{round_same}
use Rattle.floats.specs.Patterns.{wide_hidden, wide_sign_place}
use Rattle.decimal_rounding.proofs.Cell.{cell}
use Rattle.decimal_rounding.proofs.Compares.{compare-lt}
use Rattle.decimal_rounding.proofs.Pattern.{units-bits}
use Rattle.decimal_rounding.proofs.Wide.{pattern-value}
use Rattle.trig_rule.specs.Steps.{gap_of}
use Rattle.trig_single.proofs.Values.{sub-values}

-- the pattern of 1.5 * 2 ^ (52 - u)
abbrev pub carrier : ℕ → ℕ
carrier u = (1075 - u) * wide_hidden + 2251799813685248

-- the digits of the carrier
abbrev base : ℕ
base = 6755399441055744

module _ (u a t : ℕ) (far : u ≤ 1000) (ha : a < 2 ^ 32) (ht : t < 2 ^ 32) where
  -- a carrier with a whole number in its last digits
  module _ (b n : ℕ) (is : b ≡ (1075 - u) * wide_hidden + n) (inside : n < wide_hidden) where
    carried : HasValue (of_bits binary64 b) false ((wide_hidden + n) * 2 ^ (1074 - u)) (2 ^ 1074)
    carried =
        let d : b % wide_hidden + wide_hidden ≡ wide_hidden + n = omega arith in
        let p : b / wide_hidden - 1 ≡ 1074 - u = omega arith in
        subst (λ (k : ℕ). HasValue (of_bits binary64 b) false (k * 2 ^ (1074 - u)) (2 ^ 1074)) d
        (subst (λ (k : ℕ). HasValue (of_bits binary64 b) false ((b % wide_hidden + wide_hidden) * 2 ^ k) (2 ^ 1074)) p (pattern-value b (omega arith) (omega arith)))

  taken-values :
      sub binary64 (of_bits binary64 (carrier u + a - t)) (of_bits binary64 (carrier u))
      ≡ cond (ltb ((base + a - t) * 2 ^ (1074 - u)) (base * 2 ^ (1074 - u)))
      (round binary64 true (base * 2 ^ (1074 - u) - (base + a - t) * 2 ^ (1074 - u)) (2 ^ 1074))
      (round binary64 false ((base + a - t) * 2 ^ (1074 - u) - base * 2 ^ (1074 - u)) (2 ^ 1074))
  taken-values =
      let x = of_bits binary64 (carrier u + a - t) in
      let first : HasValue x false ((base + a - t) * 2 ^ (1074 - u)) (2 ^ 1074) =
      subst (λ (k : ℕ). HasValue x false (k * 2 ^ (1074 - u)) (2 ^ 1074)) (let e : wide_hidden + (2251799813685248 + a - t) ≡ base + a - t = omega arith in e)
      (carried (carrier u + a - t) (2251799813685248 + a - t) (omega arith) (omega arith)) in
      sub-values binary64 x (of_bits binary64 (carrier u)) ((base + a - t) * 2 ^ (1074 - u)) (base * 2 ^ (1074 - u)) (2 ^ 1074) (pow_pos 1074) first
      (carried (carrier u) 2251799813685248 refl (omega arith))

  -- a multiple of the step, as a fraction
  stepped : (s : Bool) (n : ℕ) → round binary64 s (n * 2 ^ (1074 - u)) (2 ^ 1074) ≡ round binary64 s n (2 ^ u)
  stepped s n =
      let e : 1074 - u + u ≡ 1074 = omega arith in
      round_same binary64 s (n * 2 ^ (1074 - u)) (2 ^ 1074) n (2 ^ u) (pow_pos 1074) (pow_pos u)
      (mul_assoc n (2 ^ (1074 - u)) (2 ^ u) ∙ ap (λ (k : ℕ). n * k) (sym (pow-add 2 (1074 - u) u) ∙ ap (λ (k : ℕ). 2 ^ k) e))

  pub taken : sub binary64 (of_bits binary64 (carrier u + a - t)) (of_bits binary64 (carrier u)) ≡ round binary64 (ltb a t) (gap_of a t) (2 ^ u)
  taken = taken-values ∙ go (leb t a) refl
    where
      W : ℕ
      W = 2 ^ (1074 - u)

      less : (x y : ℕ) → y ≤ x → x * W - y * W ≡ (x - y) * W
      less x y h =
          let e : x - y + y ≡ x = omega arith in
          let g : x * W ≡ (x - y) * W + y * W = ap (λ (k : ℕ). k * W) (sym e) ∙ add-mul (x - y) y W in
          omega arith

      go : (b : Bool) → leb t a ≡ b
          → cond (ltb ((base + a - t) * W) (base * W)) (round binary64 true (base * W - (base + a - t) * W) (2 ^ 1074)) (round binary64 false ((base + a - t) * W - base * W) (2 ^ 1074))
          ≡ round binary64 (ltb a t) (cond b (a - t) (t - a)) (2 ^ u)
      go true e =
          let h = leb-true t a e in
          let n : base + a - t - base ≡ a - t = omega arith in
          ap (λ (c : Bool). cond c (round binary64 true (base * W - (base + a - t) * W) (2 ^ 1074)) (round binary64 false ((base + a - t) * W - base * W) (2 ^ 1074)))
          (le-ltb ((base + a - t) * W) (base * W) (mul-le-mul_right W (omega arith)))
          ∙ ap (λ (k : ℕ). round binary64 false k (2 ^ 1074)) (less (base + a - t) base (omega arith) ∙ ap (λ (k : ℕ). k * W) n)
          ∙ stepped false (a - t)
          ∙ ap (λ (s : Bool). round binary64 s (a - t) (2 ^ u)) (sym (le-ltb a t h))
      go false e =
          let h = leb-false t a e in
          let n : base - (base + a - t) ≡ t - a = omega arith in
          ap (λ (c : Bool). cond c (round binary64 true (base * W - (base + a - t) * W) (2 ^ 1074)) (round binary64 false ((base + a - t) * W - base * W) (2 ^ 1074)))
          (lt-ltb ((base + a - t) * W) (base * W) (mul-lt-mul_of_pos_right (let k : base + a - t < base = omega arith in k) (pow_pos (1074 - u))))
          ∙ ap (λ (k : ℕ). round binary64 true k (2 ^ 1074)) (less base (base + a - t) (omega arith) ∙ ap (λ (k : ℕ). k * W) n)
          ∙ stepped true (t - a)
          ∙ ap (λ (s : Bool). round binary64 s (t - a) (2 ^ u)) (sym (lt-ltb a t h))

-- ---- the pattern of n / 2 ^ u, whose highest digit is that of 2 ^ j
module _ (s : Bool) (u n j : ℕ) (far : u ≤ 1000) (near : j ≤ 52) (low : 2 ^ j ≤ n) (high : n < 2 ^ suc j) where
  pub digits_low : 2 ^ 52 ≤ n * 2 ^ (52 - j)
  digits_low =
      let e : j + (52 - j) ≡ 52 = omega arith in
      le_trans (le_of_eq (ap (λ (k : ℕ). 2 ^ k) (sym e) ∙ pow-add 2 j (52 - j))) (mul-le-mul_right (2 ^ (52 - j)) low)

  pub digits-high : n * 2 ^ (52 - j) < 2 ^ 53
  digits-high =
      let e : suc j + (52 - j) ≡ 53 = omega arith in
      subst (λ (k : ℕ). n * 2 ^ (52 - j) < 2 ^ k) e (shl_lt (suc j) (52 - j) high)

  whole-cell : n * 2 ^ 1074 ≡ n * 2 ^ (52 - j) * (2 ^ u * 2 ^ (1022 + j - u)) + 0
  whole-cell =
      let e : 52 - j + (u + (1022 + j - u)) ≡ 1074 = omega arith in
      sym (add-zero (n * 2 ^ (52 - j) * (2 ^ u * 2 ^ (1022 + j - u)))
      ∙ mul_assoc n (2 ^ (52 - j)) (2 ^ u * 2 ^ (1022 + j - u))
      ∙ ap (λ (k : ℕ). n * k) (ap (λ (k : ℕ). 2 ^ (52 - j) * k) (sym (pow-add 2 u (1022 + j - u))) ∙ sym (pow-add 2 (52 - j) (u + (1022 + j - u))) ∙ ap (λ (k : ℕ). 2 ^ k) e))

  pub whole-bits : round binary64 s n (2 ^ u) ≡ of_bits binary64 (cond s wide_sign_place 0 + (1022 + j - u) * wide_hidden + n * 2 ^ (52 - j))
  whole-bits =
      let q = n * 2 ^ (52 - j) in
      let k = 1022 + j - u in
      let some : 0 < 2 ^ u * 2 ^ k = mul-pos (pow_pos u) (pow_pos k) in
      let l : 53 + k ≤ 2098 = omega arith in
      cell binary64 s n (2 ^ u) q k 0 (pow_pos u) digits-high whole-cell some (inl digits_low)
      ∙ ap (λ (o : Ordering). units binary64 s (nearest q o) k) (compare-lt (0 * 2) (2 ^ u * 2 ^ k) some)
      ∙ units-bits binary64 s q k (let h = digits-high in omega arith) (inl digits_low) (lt_of_lt_of_le (shl_lt 53 k digits-high) (pow_mono l))
