-- A whole number of 2 ^ -u by its f64: the pattern, rounded to that of an f32, is the packing of the steps. Assumes nothing.
use mathlib.Core.Path.{◌≡◌, sym, ap, ◌∙◌, subst}
use mathlib.Core.Bool.{Bool, true, false, cond}
use Prim.Native.Nat.{ℕ, suc, ◌+◌, ◌-◌, ◌*◌, ◌%◌, ◌^◌, ◌≤◌, ◌<◌}
use native.Mathlib.Nat.{mul_assoc, mod-eq_of_lt, le_trans, lt_of_not-le, not-le_of_lt}
use native.Mathlib.Omega.{arith}
use borrow.Author.Tests.{ne_eqb}
use lib.Count.{count_leading_zeros, leading_top}
use lib.Pow.{pow-add, pow_mono, shl_lt}
use lib.Ieee.{binary64, round, to_bits, of_bits}
use Rattle.floats.specs.Patterns.{hidden, wide_hidden, wide_sign_place}
use Rattle.decimal_rounding.specs.Wide.{narrowed_of}
use Rattle.trig_rule.specs.Steps.{pack_of, rounded_of}
use Rattle.trig_single.proofs.Finite.{bits_back}
use Rattle.trig_single.proofs.Taken.{whole-bits, digits_low, digits-high}

-- ---- the packing, by the place j of the highest digit
pub packed-at : (n k j : ℕ) → count_leading_zeros 64 n + suc j ≡ 64 → (n ≡ 0 → ⊥) → n < 2 ^ suc j → pack_of n k ≡ (40 + k + j) * hidden + rounded_of (n * 2 ^ (63 - j))
packed-at n k j e some high =
    let z : count_leading_zeros 64 n ≡ 63 - j = omega arith in
    let f : 103 + k - (63 - j) ≡ 40 + k + j = omega arith in
    let g : suc j + (63 - j) ≡ 64 = omega arith in
    ap (λ (b : Bool). cond b 0 ((103 + k - count_leading_zeros 64 n) * hidden + rounded_of (n * 2 ^ count_leading_zeros 64 n % 2 ^ 64))) (ne_eqb n 0 some)
    ∙ ap (λ (z : ℕ). (103 + k - z) * hidden + rounded_of (n * 2 ^ z % 2 ^ 64)) z
    ∙ ap (λ (i : ℕ). i * hidden + rounded_of (n * 2 ^ (63 - j) % 2 ^ 64)) f
    ∙ ap (λ (i : ℕ). (40 + k + j) * hidden + rounded_of i) (mod-eq_of_lt (subst (λ (i : ℕ). n * 2 ^ (63 - j) < 2 ^ i) g (shl_lt (suc j) (63 - j) high)))

-- ---- b is the pattern p with the sign s, in the range of f32, and stands for n packed with k
pub record Packed (b : ℕ) (s : Bool) (n k : ℕ) : Type 0 where
  pub size : ℕ
  pub bits : b ≡ cond s wide_sign_place 0 + size
  pub low : 897 * wide_hidden ≤ size
  pub high : size < 1149 * wide_hidden
  pub single : narrowed_of size ≡ pack_of n k

pub sign_below : (s : Bool) → cond s wide_sign_place 0 ≤ wide_sign_place
sign_below true = omega arith
sign_below false = omega arith

pub plain-sign : (s : Bool) (p : ℕ) → p < wide_sign_place → (cond s wide_sign_place 0 + p) % wide_sign_place ≡ p
plain-sign true p h = omega arith
plain-sign false p h = omega arith

module _ (s : Bool) (u k n : ℕ) (units : u + k ≡ 86) (some : 0 < n) (few : n < 2 ^ 53) where
  pub whole-packed : Packed (to_bits binary64 (round binary64 s n (2 ^ u))) s n k
  whole-packed =
      let t = leading_top 64 n some (omega arith) in
      let j = t.0 in
      at j t.1 t.2 t.3
    where
      at : (j : ℕ) → count_leading_zeros 64 n + suc j ≡ 64 → 2 ^ j ≤ n → n < 2 ^ suc j → Packed (to_bits binary64 (round binary64 s n (2 ^ u))) s n k
      at j e low high =
          let near : j ≤ 52 = short j low in
          let q = n * 2 ^ (52 - j) in
          let p = (1022 + j - u) * wide_hidden + q in
          let ql = digits_low s u n j (omega arith) near low high in
          let qh = digits-high s u n j (omega arith) near low high in
          let shift : n * 2 ^ (63 - j) ≡ q * 2048 = shifted j near in
          let sb = sign_below s in
          let ps = plain-sign s p (omega arith) in
          let whole : cond s wide_sign_place 0 + (1022 + j - u) * wide_hidden + q ≡ cond s wide_sign_place 0 + p = omega arith in
          record {
            size = p;
            bits = ap (to_bits binary64) (whole-bits s u n j (omega arith) near low high) ∙ ap (λ (i : ℕ). to_bits binary64 (of_bits binary64 i)) whole ∙ bits_back (cond s wide_sign_place 0 + p) (omega arith) (omega arith);
            low = omega arith;
            high = omega arith;
            single =
                (let r : narrowed_of p ≡ (40 + k + j) * hidden + rounded_of (q * 2048) = omega arith in r)
                ∙ ap (λ (i : ℕ). (40 + k + j) * hidden + rounded_of i) (sym shift) ∙ sym (packed-at n k j e (λ z. omega arith) high);
          }
        where
          short : (j : ℕ) → 2 ^ j ≤ n → j ≤ 52
          short j low = let l : j < 53 = lt_of_not-le (λ (g : 53 ≤ j). not-le_of_lt few (le_trans (pow_mono g) low)) in omega arith

          shifted : (j : ℕ) → j ≤ 52 → n * 2 ^ (63 - j) ≡ n * 2 ^ (52 - j) * 2048
          shifted j h = let g : 63 - j ≡ 52 - j + 11 = omega arith in ap (λ (i : ℕ). n * 2 ^ i) g ∙ ap (λ (i : ℕ). n * i) (pow-add 2 (52 - j) 11) ∙ sym (mul_assoc n (2 ^ (52 - j)) 2048)
