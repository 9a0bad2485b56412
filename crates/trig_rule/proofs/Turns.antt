-- The steps' reduction is the one of the rule: what it leaves is the smallest, and it is never an exact half of a turn. Assumes nothing.
use mathlib.Core.Path.{◌≡◌, sym, ap, ◌∙◌, subst}
use Prim.Native.Nat.{ℕ, ◌+◌, ◌-◌, ◌*◌, ◌/◌, ◌^◌, ◌≤◌, ◌<◌}
use native.Mathlib.Nat.{le_trans, le_of_eq, le_antisymm, lt_of_not-le, mul_assoc, mul_comm, mul-sub, add-mul, add-zero, mul-le-mul_right, eq_of_mul-eq-mul_right}
use native.Mathlib.Omega.{arith}
use native.Mathlib.Decide.{dec_le}
use mathlib.Core.Bool.{Bool, true, false, not, cond}
use lib.Dec.{leb}
use lib.Pow.{pow_pos}
use borrow.Author.Tests.{le-leb, lt-leb}
use Rattle.trig_rule.specs.Reduction.{turn, turn_units, apart, Reduced}
use Rattle.trig_rule.specs.Steps.{half, turns_of, rest_of}

-- ---- in units of 2 ^ -56
pub rest_le : (x : ℕ) → rest_of x ≤ half
rest_le x = go (dec_le (turns_of x) x)
  where
    go : Dec (turns_of x ≤ x) → rest_of x ≤ half
    go (yes h) = simp (le-leb (turns_of x) x h) (omega arith)
    go (no f) = simp (lt-leb (turns_of x) x (lt_of_not-le f)) (let g : x < turns_of x = lt_of_not-le f in omega arith)

rest-smallest : (x k : ℕ) → rest_of x ≤ apart x (k * turn)
rest-smallest x k = go (dec_le (turns_of x) x) (dec_le k ((x + half) / turn)) (dec_le ((x + half) / turn) k)
  where
    go : Dec (turns_of x ≤ x) → Dec (k ≤ (x + half) / turn) → Dec ((x + half) / turn ≤ k) → rest_of x ≤ apart x (k * turn)
    go (yes h) (yes i) (yes j) = simp (le-leb (turns_of x) x h) (omega arith)
    go (yes h) (yes i) (no j) = simp (le-leb (turns_of x) x h) (omega arith)
    go (yes h) (no i) j = simp (le-leb (turns_of x) x h) (omega arith)
    go (no h) (yes i) (yes j) = simp (lt-leb (turns_of x) x (lt_of_not-le h)) (omega arith)
    go (no h) (yes i) (no j) = simp (lt-leb (turns_of x) x (lt_of_not-le h)) (omega arith)
    go (no h) (no i) j = simp (lt-leb (turns_of x) x (lt_of_not-le h)) (omega arith)

-- ---- in units of 2 ^ -149
sub-scaled : (a b c : ℕ) → a * c - b * c ≡ (a - b) * c
sub-scaled a b c = ap (λ (n : ℕ). n - b * c) (mul_comm a c) ∙ ap (λ (n : ℕ). c * a - n) (mul_comm b c) ∙ sym (mul-sub c a b) ∙ mul_comm c (a - b)

apart-scaled : (a b c : ℕ) → apart (a * c) (b * c) ≡ apart a b * c
apart-scaled a b c = ap (λ (n : ℕ). n + (b * c - a * c)) (sub-scaled a b c) ∙ ap (λ (n : ℕ). (a - b) * c + n) (sub-scaled b a c) ∙ sym (add-mul (a - b) (b - a) c)

pub reduced : (x : ℕ) → Reduced (x * 2 ^ 93) (rest_of x * 2 ^ 93) (not (leb (turns_of x) x))
reduced x =
    record {
      turns = (x + half) / turn;
      left = go (dec_le (turns_of x) x);
      smallest = λ k. le_trans (mul-le-mul_right (2 ^ 93) (rest-smallest x k)) (le_of_eq (sym (apart-scaled x (k * turn) (2 ^ 93)) ∙ ap (λ (n : ℕ). apart (x * 2 ^ 93) n) (mul_assoc k turn (2 ^ 93))));
    }
  where
    t : ℕ
    t = (x + half) / turn * turn_units

    family : Bool → ℕ → Type 0
    family b r = x * 2 ^ 93 + cond (not b) (r * 2 ^ 93) 0 ≡ t + cond (not b) 0 (r * 2 ^ 93)

    t-is : turns_of x * 2 ^ 93 ≡ t
    t-is = mul_assoc ((x + half) / turn) turn (2 ^ 93)

    at : (b : Bool) → leb (turns_of x) x ≡ b → family b (cond b (x - turns_of x) (turns_of x - x)) → family (leb (turns_of x) x) (rest_of x)
    at b e f = subst (λ (c : Bool). family c (cond c (x - turns_of x) (turns_of x - x))) (sym e) f

    go : Dec (turns_of x ≤ x) → family (leb (turns_of x) x) (rest_of x)
    go (yes h) =
        let sum : turns_of x + (x - turns_of x) ≡ x = omega arith in
        at true (le-leb (turns_of x) x h) (add-zero (x * 2 ^ 93) ∙ sym (ap (λ (n : ℕ). n + (x - turns_of x) * 2 ^ 93) (sym t-is) ∙ sym (add-mul (turns_of x) (x - turns_of x) (2 ^ 93)) ∙ ap (λ (n : ℕ). n * 2 ^ 93) sum))
    go (no f) =
        let g : x < turns_of x = lt_of_not-le f in
        let sum : x + (turns_of x - x) ≡ turns_of x = omega arith in
        at false (lt-leb (turns_of x) x g) (sym (add-mul x (turns_of x - x) (2 ^ 93)) ∙ ap (λ (n : ℕ). n * 2 ^ 93) sum ∙ t-is ∙ sym (add-zero t))

-- ---- the size that the turns leave is the only one
left-apart : (n r t : ℕ) (b : Bool) → n + cond b r 0 ≡ t + cond b 0 r → apart n t ≡ r
left-apart n r t true e = omega arith
left-apart n r t false e = omega arith

pub reduced-unique : (n r q : ℕ) (b c : Bool) → Reduced n r b → Reduced n q c → r ≡ q
reduced-unique n r q b c h k =
    le_antisymm (le_trans (h.smallest k.turns) (le_of_eq (left-apart n q (k.turns * turn_units) c k.left)))
    (le_trans (k.smallest h.turns) (le_of_eq (left-apart n r (h.turns * turn_units) b h.left)))

-- a turn is odd, so that no angle counted in 2 ^ -56 lies at an exact half
pub rest-no-half : (x : ℕ) → 2 * (rest_of x * 2 ^ 93) ≡ turn_units → ⊥
rest-no-half x e = odd (rest_of x) (eq_of_mul-eq-mul_right (2 ^ 93) (pow_pos 93) (2 * rest_of x) turn (mul_assoc 2 (rest_of x) (2 ^ 93) ∙ e))
  where
    odd : (r : ℕ) → 2 * r ≡ turn → ⊥
    odd r h = omega arith
