-- A small number moved up by a number of binary digits, in six words: two of them have it, and the place says which. Assumes nothing.
use Prim.Native.Nat.{ℕ, ◌+◌, ◌-◌, ◌*◌, ◌/◌, ◌%◌, ◌^◌, ◌≤◌, ◌<◌}
use mathlib.Core.Path.{◌≡◌, ap, sym, ◌∙◌, subst}
use native.Mathlib.Nat.{add-mul, mul_assoc, zero-add, add-zero, mul-lt-mul_of_pos_right, mod-eq_of_lt, mod-lt, div-add-mod', div-mul-le_self, lt_of_lt_of_le, div-eq_of_lt}
use native.Mathlib.Omega.{arith}
use lib.Pow.{pow_pos, pow_mono, pow-add, shr_le}
use Rattle.decimal_tie.specs.Words.{wide_of, Small, Splits}

-- ---- the two words

abbrev pub high_of : ℕ → ℕ → ℕ
high_of odd k = odd / 2 ^ (50 - k % 50)

abbrev pub low_of : ℕ → ℕ → ℕ
low_of odd k = (odd - high_of odd k * 2 ^ (50 - k % 50)) * 2 ^ (k % 50)

pub record TwoWords (odd k : ℕ) : Type 0 where
  pub back : high_of odd k * 2 ^ (50 - k % 50) % 2 ^ 64 ≡ high_of odd k * 2 ^ (50 - k % 50)
  pub under : high_of odd k * 2 ^ (50 - k % 50) ≤ odd
  pub kept : low_of odd k % 2 ^ 64 ≡ low_of odd k
  pub high_lt : high_of odd k < 2 ^ 50
  pub low-lt : low_of odd k < 2 ^ 50
  pub is : odd * 2 ^ (k % 50) ≡ high_of odd k * 2 ^ 50 + low_of odd k

pub two-words : (odd k : ℕ) → odd < 2 ^ 25 → TwoWords odd k
two-words odd k h =
    let up = k % 50 in
    let down = 50 - k % 50 in
    let both : down + up ≡ 50 = omega arith in
    let high = high_of odd k in
    let rest = odd - high * 2 ^ down in
    let u = div-mul-le_self odd (2 ^ down) in
    let e = div-add-mod' odd (2 ^ down) in
    let m = mod-lt odd (pow_pos down) in
    let rest_lt : rest < 2 ^ down = omega (arith, u, e, m) in
    let whole : 2 ^ down * 2 ^ up ≡ 2 ^ 50 = sym (pow-add 2 down up) ∙ ap (λ (z : ℕ). 2 ^ z) both in
    let low-lt : rest * 2 ^ up < 2 ^ 50 = subst (λ (z : ℕ). rest * 2 ^ up < z) whole (mul-lt-mul_of_pos_right rest_lt (pow_pos up)) in
    let split : odd ≡ high * 2 ^ down + rest = omega (arith, u) in
    record {
      back = mod-eq_of_lt (omega (arith, u, h));
      under = u;
      kept = mod-eq_of_lt (omega (arith, low-lt));
      high_lt = omega (arith, shr_le odd down, h);
      low-lt = low-lt;
      is = ap (λ (z : ℕ). z * 2 ^ up) split ∙ add-mul (high * 2 ^ down) rest (2 ^ up) ∙ ap (λ (z : ℕ). z + rest * 2 ^ up) (mul_assoc high (2 ^ down) (2 ^ up) ∙ ap (λ (z : ℕ). high * z) whole);
    }

-- ---- their places

module _ (odd k : ℕ) (t : TwoWords odd k) where
  abbrev h : ℕ
  h = high_of odd k

  abbrev l : ℕ
  l = low_of odd k

  moved : (n : ℕ) → k / 50 ≡ n → odd * 2 ^ k ≡ (h * 2 ^ 50 + l) * 2 ^ (50 * n)
  moved n e =
      let f : k ≡ k % 50 + 50 * n = omega arith in
      ap (λ (z : ℕ). odd * 2 ^ z) f ∙ ap (λ (z : ℕ). odd * z) (pow-add 2 (k % 50) (50 * n)) ∙ sym (mul_assoc odd (2 ^ (k % 50)) (2 ^ (50 * n))) ∙ ap (λ (z : ℕ). z * 2 ^ (50 * n)) t.is

  words : (a b c : ℕ) → a < 2 ^ 50 → b < 2 ^ 50 → c < 2 ^ 50 → Small (record { a = a; b = b; c = c })
  words a b c p q r = record { a_lt = p; b_lt = q; c_lt = r }

  none : 0 < 2 ^ 50
  none = omega arith

  only-fraction : (n f : ℕ) → n ≡ f → n ≡ wide_of (record { a = 0; b = 0; c = 0 }) * 2 ^ 150 + f
  only-fraction n f e = e ∙ sym (zero-add f)

  only-whole : (n w : ℕ) → n ≡ w * 2 ^ 150 → n ≡ w * 2 ^ 150 + wide_of (record { a = 0; b = 0; c = 0 })
  only-whole n w e = e ∙ sym (add-zero (w * 2 ^ 150))

  pub six-0 : k / 50 ≡ 0 → Splits (odd * 2 ^ k) (record { whole = record { a = 0; b = 0; c = 0 }; fraction = record { a = 0; b = h; c = l } })
  six-0 e = record { whole-small = words 0 0 0 none none none; fraction-small = words 0 h l none t.high_lt t.low-lt; is = moved 0 e ∙ only-fraction _ _ (omega arith) }

  pub six-1 : k / 50 ≡ 1 → Splits (odd * 2 ^ k) (record { whole = record { a = 0; b = 0; c = 0 }; fraction = record { a = h; b = l; c = 0 } })
  six-1 e = record { whole-small = words 0 0 0 none none none; fraction-small = words h l 0 t.high_lt t.low-lt none; is = moved 1 e ∙ only-fraction _ _ (omega arith) }

  pub six-2 : k / 50 ≡ 2 → Splits (odd * 2 ^ k) (record { whole = record { a = 0; b = 0; c = h }; fraction = record { a = l; b = 0; c = 0 } })
  six-2 e =
      record {
        whole-small = words 0 0 h none none t.high_lt;
        fraction-small = words l 0 0 t.low-lt none none;
        is =
            moved 2 e ∙ add-mul (h * 2 ^ 50) l (2 ^ 100) ∙ ap (λ (z : ℕ). z + l * 2 ^ 100) (mul_assoc h (2 ^ 50) (2 ^ 100))
            ∙ ap (λ (z : ℕ). z * 2 ^ 150 + l * 2 ^ 100) (low_word h) ∙ ap (λ (z : ℕ). ((0 * 2 ^ 50 + 0) * 2 ^ 50 + h) * 2 ^ 150 + z) (high_word l);
      }
    where
      low_word : (x : ℕ) → x ≡ (0 * 2 ^ 50 + 0) * 2 ^ 50 + x
      low_word x = omega arith

      high_word : (x : ℕ) → x * 2 ^ 100 ≡ (x * 2 ^ 50 + 0) * 2 ^ 50 + 0
      high_word x = omega arith

  pub six-3 : k / 50 ≡ 3 → Splits (odd * 2 ^ k) (record { whole = record { a = 0; b = h; c = l }; fraction = record { a = 0; b = 0; c = 0 } })
  six-3 e =
      record {
        whole-small = words 0 h l none t.high_lt t.low-lt;
        fraction-small = words 0 0 0 none none none;
        is = moved 3 e ∙ only-whole _ _ (ap (λ (z : ℕ). z * 2 ^ 150) (two h l));
      }
    where
      two : (x y : ℕ) → x * 2 ^ 50 + y ≡ (0 * 2 ^ 50 + x) * 2 ^ 50 + y
      two x y = omega arith

  pub six-4 : k / 50 ≡ 4 → Splits (odd * 2 ^ k) (record { whole = record { a = h; b = l; c = 0 }; fraction = record { a = 0; b = 0; c = 0 } })
  six-4 e =
      record {
        whole-small = words h l 0 t.high_lt t.low-lt none;
        fraction-small = words 0 0 0 none none none;
        is = moved 4 e ∙ only-whole _ _ (sym (mul_assoc (h * 2 ^ 50 + l) (2 ^ 50) (2 ^ 150)) ∙ ap (λ (z : ℕ). z * 2 ^ 150) (sym (add-zero ((h * 2 ^ 50 + l) * 2 ^ 50))));
      }

  -- here nothing is moved past the highest word
  pub six-5 : odd < 2 ^ 25 → k / 50 ≡ 5 → k ≤ 253 → Splits (odd * 2 ^ k) (record { whole = record { a = l; b = 0; c = 0 }; fraction = record { a = 0; b = 0; c = 0 } })
  six-5 small e top =
      record {
        whole-small = words l 0 0 t.low-lt none none;
        fraction-small = words 0 0 0 none none none;
        is = moved 5 e ∙ only-whole _ _ (ap (λ (z : ℕ). (z * 2 ^ 50 + l) * 2 ^ 250) no-high ∙ ap (λ (z : ℕ). z * 2 ^ 250) (zero-add l) ∙ sym (mul_assoc l (2 ^ 100) (2 ^ 150)) ∙ ap (λ (z : ℕ). z * 2 ^ 150) (high_word l));
      }
    where
      high_word : (x : ℕ) → x * 2 ^ 100 ≡ (x * 2 ^ 50 + 0) * 2 ^ 50 + 0
      high_word x = omega arith

      deep : 25 ≤ 50 - k % 50
      deep = omega arith

      no-high : h ≡ 0
      no-high = div-eq_of_lt (lt_of_lt_of_le small (pow_mono deep))
