-- The leading 31 digits of a whole number, from its pattern as an f64: the last 22 of the 53 are cut off. Assumes nothing.
use mathlib.Core.Path.{◌≡◌, sym, ap, ◌∙◌, subst}
use mathlib.Core.Logic.{inl}
use mathlib.Core.Bool.{Bool, false}
use Prim.Native.Nat.{ℕ, suc, ◌+◌, ◌-◌, ◌*◌, ◌/◌, ◌%◌, ◌^◌, ◌≤◌, ◌<◌}
use native.Mathlib.Nat.{lt_of_lt_of_le, mul_assoc, add-mul, mod-lt, div-add-mod', le_of_lt, mul-lt-mul_of_pos_right}
use native.Mathlib.Omega.{arith}
use lib.Pow.{pow-add, pow_pos, pow_mono, shl_lt}
use lib.Ieee.{binary64, round, to_bits, of_bits}
use lib.Ieee.Exact.{HasValue, units_val, round_exact}
use Rattle.floats.specs.Patterns.{wide_hidden}
use Rattle.decimal_rounding.proofs.Pattern.{units-bits}
use Rattle.trig_single.proofs.Finite.{bits_back}
use Rattle.trig_single.proofs.Taken.{whole-bits, digits_low, digits-high}

-- 2 ^ 22: the digits of an f64 past its 31 leading ones
abbrev pub past_lead : ℕ
past_lead = 4194304

-- a whole number of 2 ^ -u is a float exactly
pub exact-value : (s : Bool) (u n : ℕ) → u ≤ 1000 → n < 2 ^ 53 → HasValue (round binary64 s n (2 ^ u)) s n (2 ^ u)
exact-value s u n far few =
    let e : 1074 - u + u ≡ 1074 = omega arith in
    let l : 53 + (1074 - u) ≤ 2098 = omega arith in
    round_exact binary64 s n (2 ^ u) n (1074 - u) (pow_pos u) few (lt_of_lt_of_le (shl_lt 53 (1074 - u) few) (pow_mono l))
    (ap (λ (k : ℕ). n * k) (ap (λ (k : ℕ). 2 ^ k) (sym e) ∙ pow-add 2 (1074 - u) u) ∙ sym (mul_assoc n (2 ^ (1074 - u)) (2 ^ u)))

module _ (n j : ℕ) (many : 31 ≤ j) (near : j ≤ 52) (low : 2 ^ j ≤ n) (high : n < 2 ^ suc j) where
  -- the 31 leading digits, and what stands below them
  abbrev pub lead_of : ℕ
  lead_of = n / 2 ^ (j - 30)

  abbrev rest : ℕ
  rest = n % 2 ^ (j - 30)

  pub number-bits : to_bits binary64 (round binary64 false n 1) ≡ (1022 + j) * wide_hidden + n * 2 ^ (52 - j)
  number-bits =
      let ql = digits_low false 0 n j (omega arith) near low high in
      let qh = digits-high false 0 n j (omega arith) near low high in
      let b = (1022 + j) * wide_hidden + n * 2 ^ (52 - j) in
      let e : 0 + (1022 + j - 0) * wide_hidden + n * 2 ^ (52 - j) ≡ b = omega arith in
      ap (to_bits binary64) (whole-bits false 0 n j (omega arith) near low high) ∙ ap (λ (i : ℕ). to_bits binary64 (of_bits binary64 i)) e ∙ bits_back b (omega arith) (omega arith)

  split : n * 2 ^ (52 - j) ≡ lead_of * past_lead + rest * 2 ^ (52 - j)
  split =
      let e : j - 30 + (52 - j) ≡ 22 = omega arith in
      ap (λ (k : ℕ). k * 2 ^ (52 - j)) (sym (div-add-mod' n (2 ^ (j - 30)))) ∙ add-mul (lead_of * 2 ^ (j - 30)) rest (2 ^ (52 - j))
      ∙ ap (λ (k : ℕ). k + rest * 2 ^ (52 - j)) (mul_assoc lead_of (2 ^ (j - 30)) (2 ^ (52 - j)) ∙ ap (λ (k : ℕ). lead_of * k) (sym (pow-add 2 (j - 30) (52 - j)) ∙ ap (λ (k : ℕ). 2 ^ k) e))

  rest-low : rest * 2 ^ (52 - j) < past_lead
  rest-low =
      let e : j - 30 + (52 - j) ≡ 22 = omega arith in
      subst (λ (k : ℕ). rest * 2 ^ (52 - j) < k) (sym (pow-add 2 (j - 30) (52 - j)) ∙ ap (λ (k : ℕ). 2 ^ k) e) (mul-lt-mul_of_pos_right (mod-lt n (pow_pos (j - 30))) (pow_pos (52 - j)))

  pub lead_low : wide_hidden ≤ lead_of * past_lead
  lead_low = let ql = digits_low false 0 n j (omega arith) near low high in let r = rest-low in let s = split in omega arith

  pub lead_high : lead_of * past_lead < 9007199254740992
  lead_high = let qh = digits-high false 0 n j (omega arith) near low high in let s = split in omega arith

  pub cut-bits : (b : ℕ) → b ≡ (1022 + j) * wide_hidden + n * 2 ^ (52 - j) → b - b % past_lead ≡ (1022 + j) * wide_hidden + lead_of * past_lead
  cut-bits b e = let r = rest-low in let s = split in omega arith

  pub head-value : HasValue (of_bits binary64 ((1022 + j) * wide_hidden + lead_of * past_lead)) false (lead_of * past_lead * 2 ^ (1022 + j)) (2 ^ 1074)
  head-value =
      let q = lead_of * past_lead in
      let k = 1022 + j in
      let l : 53 + k ≤ 2098 = omega arith in
      let fine : q * 2 ^ k < 2 ^ 2098 = lt_of_lt_of_le (shl_lt 53 k lead_high) (pow_mono l) in
      let bits : 0 + k * wide_hidden + q ≡ k * wide_hidden + q = omega arith in
      subst (λ x. HasValue x false (q * 2 ^ k) (2 ^ 1074)) (units-bits binary64 false q k (le_of_lt lead_high) (inl lead_low) fine ∙ ap (of_bits binary64) bits) (units_val binary64 false q k fine)
