-- What is left of d * 2 ^ z units in full turns, which are 45 * 2 ^ 152 units: a number of few digits, times the smaller of the two powers of 2. Assumes nothing.
use mathlib.Core.Path.{◌≡◌, sym, ap, ◌∙◌}
use Prim.Native.Nat.{ℕ, zero, suc, ◌+◌, ◌-◌, ◌*◌, ◌/◌, ◌%◌, ◌^◌, ◌≤◌, ◌<◌}
use native.Mathlib.Nat.{lt_of_le_of_lt, lt_of_lt_of_le, mul_assoc, mul_right_comm, mul-lt-mul_of_pos_right, mul-pos, add-mul, div-add-mod', mod-lt, mod-le, mod-eq_of_lt, mul-add-mod_self_right, lt_of_not-le, le_of_lt}
use native.Mathlib.Decide.{dec_le}
use native.Mathlib.Omega.{arith}
use lib.Dec.{lit<}
use lib.Pow.{pow-add, pow_pos}
use Rattle.root.proofs.Middles.{Few}
use Rattle.rotation.specs.Rotation.{full_turn}

-- ---- a rest, in other units
pub mod-scaled : (a b u : ℕ) → 0 < b → 0 < u → a * u % (b * u) ≡ a % b * u
mod-scaled a b u B U =
    ap (λ (n : ℕ). n * u % (b * u)) (sym (div-add-mod' a b))
    ∙ ap (λ (n : ℕ). n % (b * u)) (add-mul (a / b * b) (a % b) u ∙ ap (λ (n : ℕ). n + a % b * u) (mul_assoc (a / b) b u))
    ∙ mul-add-mod_self_right (a / b) (b * u) (a % b * u)
    ∙ mod-eq_of_lt (mul-lt-mul_of_pos_right (mod-lt a B) U)

-- ---- 2 ^ 12 is 91 * 45 + 1
cycle : (a q t : ℕ) → a * 2 ^ (q * 12 + t) % 45 ≡ a * 2 ^ t % 45
cycle a zero t = ap (λ (n : ℕ). a * 2 ^ n % 45) (none t)
  where
    none : (t : ℕ) → zero * 12 + t ≡ t
    none t = omega arith
cycle a (suc q) t =
    ap (λ (n : ℕ). a * 2 ^ n % 45) (more q t)
    ∙ ap (λ (n : ℕ). a * n % 45) (pow-add 2 12 (q * 12 + t))
    ∙ once a (2 ^ (q * 12 + t))
    ∙ cycle a q t
  where
    more : (q t : ℕ) → suc q * 12 + t ≡ 12 + (q * 12 + t)
    more q t = omega arith

    once : (a p : ℕ) → a * (4096 * p) % 45 ≡ a * p % 45
    once a p = ap (λ (n : ℕ). n % 45) (sym (mul_assoc a 4096 p) ∙ mul_right_comm a 4096 p) ∙ small (a * p)
      where
        small : (x : ℕ) → x * 4096 % 45 ≡ x % 45
        small x = omega arith

mod-first : (a p : ℕ) → a % 45 * p % 45 ≡ a * p % 45
mod-first a p =
    sym (ap (λ (n : ℕ). n * p % 45) (sym (div-add-mod' a 45))
    ∙ ap (λ (n : ℕ). n % 45) (add-mul (a / 45 * 45) (a % 45) p ∙ ap (λ (n : ℕ). n + a % 45 * p) (mul_right_comm (a / 45) 45 p))
    ∙ mul-add-mod_self_right (a / 45 * p) 45 (a % 45 * p))

pub eights-rest : (a k : ℕ) → a % 45 * 2 ^ (k % 12) % 45 ≡ a * 2 ^ k % 45
eights-rest a k = mod-first a (2 ^ (k % 12)) ∙ sym (cycle a (k / 12) (k % 12)) ∙ ap (λ (n : ℕ). a * 2 ^ n % 45) (div-add-mod' k 12)

-- ---- the two powers of 2
module _ (d z : ℕ) where
  pub rest-high : 152 ≤ z → d * 2 ^ z % full_turn ≡ d * 2 ^ (z - 152) % 45 * 2 ^ 152
  rest-high h =
      let e : z ≡ z - 152 + 152 = omega arith in
      ap (λ (n : ℕ). d * 2 ^ n % full_turn) e
      ∙ ap (λ (n : ℕ). n % full_turn) (ap (λ (n : ℕ). d * n) (pow-add 2 (z - 152) 152) ∙ sym (mul_assoc d (2 ^ (z - 152)) (2 ^ 152)))
      ∙ mod-scaled (d * 2 ^ (z - 152)) 45 (2 ^ 152) (lit< tt) (pow_pos 152)

  pub rest-low : z ≤ 152 → d * 2 ^ z % full_turn ≡ d % (45 * 2 ^ (152 - z)) * 2 ^ z
  rest-low h =
      let e : 152 - z + z ≡ 152 = omega arith in
      let turn : full_turn ≡ 45 * 2 ^ (152 - z) * 2 ^ z = ap (λ (n : ℕ). 45 * 2 ^ n) (sym e) ∙ ap (λ (n : ℕ). 45 * n) (pow-add 2 (152 - z) z) ∙ sym (mul_assoc 45 (2 ^ (152 - z)) (2 ^ z)) in
      ap (λ (n : ℕ). d * 2 ^ z % n) turn ∙ mod-scaled d (45 * 2 ^ (152 - z)) (2 ^ z) (mul-pos (lit< tt) (pow_pos (152 - z))) (pow_pos z)

-- ---- so the rest has no more digits than the size
pub rest-few : {n : ℕ} → Few 24 n → Few 24 (n % full_turn)
rest-few {n} y = go (dec_le 152 y.zeros)
  where
    d : ℕ
    d = y.digits

    z : ℕ
    z = y.zeros

    go : Dec (152 ≤ z) → Few 24 (n % full_turn)
    go (yes h) =
        record {
          digits = d * 2 ^ (z - 152) % 45;
          zeros = 152;
          few = lt_of_lt_of_le (mod-lt (d * 2 ^ (z - 152)) (lit< tt)) (omega arith);
          same = ap (λ (k : ℕ). k % full_turn) y.same ∙ rest-high d z h;
        }
    go (no f) =
        record {
          digits = d % (45 * 2 ^ (152 - z));
          zeros = z;
          few = lt_of_le_of_lt (mod-le d (45 * 2 ^ (152 - z))) y.few;
          same = ap (λ (k : ℕ). k % full_turn) y.same ∙ rest-low d z (le_of_lt (lt_of_not-le f));
        }
