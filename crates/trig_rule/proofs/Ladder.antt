-- A ladder of steps is near the nested sum: every step rounds down, so that the ladder is never above, and below by what the steps cut at most.
-- The error is worked out from the list of exponents, and closed by computation. Assumes nothing.
use mathlib.Core.Path.{◌≡◌, sym, ap, ◌∙◌, subst}
use Prim.Native.Nat.{ℕ, ◌+◌, ◌*◌, ◌/◌, ◌^◌, ◌≤◌, ◌<◌}
use native.Mathlib.Nat.{mul_assoc, mul_comm, mul_left_comm, mul-add, add-mul, zero-mul, mul-zero, one-mul, add_assoc}
use native.Mathlib.Nat.{add-le-add, le_refl, le_trans, le_of_eq, mul-le-mul, mul-le-mul_right, le_of_mul-le-mul_left, div-mul-le_self, lt-div-mul-add}
use native.Mathlib.Omega.{arith}
use mathlib.Core.List.{List, [], ◌∷◌, ◌++◌}
use mathlib.Core.Bool.{Bool, true, ◌&&◌}
use lib.Dec.{T, leb, leb→le}
use lib.Ieee.Fits.{and_l, and_r}
use Rattle.trig_rule.specs.Sums.{factorial}
use Rattle.trig_rule.specs.Steps.{weight, coefficient, risen, ladder}
use Rattle.trig_rule.proofs.Factorial.{weight-next, coefficient-low, coefficient-high}
use Rattle.trig_rule.proofs.Nested.{follows, follows-head, follows-tail, wide, nested}

-- ---- one product: v / t stands for Q / D, and h for s. b is the weight that t lacks, so that b * D is t * K
-- v is cut by tau at most, and what h lacks is e at most
module _ (t b K D Q v tau h e f W s : ℕ) (b-pos : 0 < b) (t-pos : 0 < t) (units : b * D ≡ t * K) (v_low : v * K ≤ Q) (v_high : Q ≤ (v + tau) * K)
    (h-low : h * W ≤ b * s) (h-high : b * s ≤ (h + e) * W) (room : tau * h + (v + tau) * e ≤ f * t) where
  moved : (q : ℕ) → b * (q * (W * D)) ≡ q * t * (K * W)
  moved q = first ∙ ap (λ (n : ℕ). n * (q * W)) units ∙ last
    where
      first : b * (q * (W * D)) ≡ b * D * (q * W)
      first = simp (mul_assoc, mul_comm, mul_left_comm)

      last : t * K * (q * W) ≡ q * t * (K * W)
      last = simp (mul_assoc, mul_comm, mul_left_comm)

  swapped : (x y : ℕ) → x * y * (K * W) ≡ x * K * (y * W)
  swapped x y = simp (mul_assoc, mul_comm, mul_left_comm)

  under : Q * (b * s) ≡ b * (Q * s)
  under = mul_left_comm Q b s

  pub product-low : v * h / t * (W * D) ≤ Q * s
  product-low =
      le_of_mul-le-mul_left {k = b}
      (le_trans (le_of_eq (moved (v * h / t)))
      (le_trans (mul-le-mul_right (K * W) (div-mul-le_self (v * h) t))
      (le_trans (le_of_eq (swapped v h)) (le_trans (mul-le-mul v_low h-low) (le_of_eq under))))) b-pos

  reach : (v + tau) * (h + e) ≤ (v * h / t + 1 + f) * t
  reach =
      let a : v * h < v * h / t * t + t = lt-div-mul-add t-pos in
      let x : (v + tau) * (h + e) ≡ v * h + (tau * h + (v + tau) * e) = mul-add (v + tau) h e ∙ ap (λ (n : ℕ). n + (v + tau) * e) (add-mul v tau h) ∙ add_assoc (v * h) (tau * h) ((v + tau) * e) in
      let y : (v * h / t + 1 + f) * t ≡ v * h / t * t + t + f * t = add-mul (v * h / t + 1) f t ∙ ap (λ (n : ℕ). n + f * t) (add-mul (v * h / t) 1 t ∙ ap (λ (n : ℕ). v * h / t * t + n) (one-mul t)) in
      omega arith

  pub product_high : Q * s ≤ (v * h / t + 1 + f) * (W * D)
  product_high =
      le_of_mul-le-mul_left {k = b}
      (le_trans (le_of_eq (sym under))
      (le_trans (mul-le-mul v_high h-high)
      (le_trans (le_of_eq (sym (swapped (v + tau) (h + e)))) (le_trans (mul-le-mul_right (K * W) reach) (le_of_eq (sym (moved (v * h / t + 1 + f)))))))) b-pos

-- ---- a list of steps
-- the largest v, r ^ 4 / 256 at half a turn
abbrev pub most : ℕ
most = 1634253359

-- no ladder is above this
unfoldable pub peak : ℕ → List ℕ → ℕ
peak U [] = 0
peak U (j ∷ js) = coefficient U j + most * peak U js / 2 ^ 32

-- what the products of a step lack, where h is at most `high` and lacks e at most
abbrev pub slack : ℕ → ℕ → ℕ
slack high e = (5 * high + (most + 5) * e) / 2 ^ 32 + 1

-- what is lost where the steps of js are left out, and what a ladder lacks after one that lacks e
unfoldable pub lost : ℕ → List ℕ → ℕ
lost U [] = 0
lost U (j ∷ js) = coefficient U j + 2 + slack 0 (lost U js)

unfoldable pub lack : ℕ → ℕ → List ℕ → ℕ
unfolding peak
lack U e [] = e
lack U e (j ∷ js) = 2 + slack (peak U js) (lack U e js)

-- every exponent is at most N
unfoldable pub up_to : ℕ → List ℕ → Bool
up_to N [] = true
up_to N (j ∷ js) = leb j N && up_to N js

-- h is at most the nested sum over js, whose first exponent is j, and lacks e at most
pub record Held (N U Q D h e j : ℕ) (js : List ℕ) : Type 0 where
  pub low : h * (factorial N * wide D js) ≤ weight U j * nested N Q D js
  pub high : weight U j * nested N Q D js ≤ (h + e) * (factorial N * wide D js)

module _ (N U K D Q v : ℕ) (units : 256 * D ≡ 2 ^ 32 * K) (v_low : v * K ≤ Q) (v_high : Q ≤ (v + 5) * K) (v-le : v ≤ most) where
  div_mono : {a b : ℕ} → a ≤ b → a / 2 ^ 32 ≤ b / 2 ^ 32
  div_mono h = omega arith

  pub ladder-le : (js : List ℕ) → ladder U v js ≤ peak U js
  unfolding ladder peak
  ladder-le [] = omega arith
  ladder-le (j ∷ js) = add-le-add (le_refl (coefficient U j)) (div_mono (mul-le-mul v-le (ladder-le js)))

  slack-room : (h high e : ℕ) → h ≤ high → 5 * h + (v + 5) * e ≤ slack high e * 2 ^ 32
  slack-room h high e k =
      let a : (v + 5) * e ≤ (most + 5) * e = mul-le-mul_right e (add-le-add v-le (le_refl 5)) in
      omega arith

  -- one step: the coefficient of j, and the product
  step : (j i h e high : ℕ) (js : List ℕ) → i ≡ j → j ≤ N → h ≤ high → Held N U Q D h e (j + 4) js → Held N U Q D (risen (coefficient U i) v h) (2 + slack high e) j (i ∷ js)
  unfolding nested wide
  step j i h e high js same small top k =
      let W = factorial N * wide D js in
      let c = weight U j in
      let s = c * nested N Q D js in
      let a = coefficient U i in
      let q = v * h / 2 ^ 32 in
      let f = slack high e in
      let share = factorial N / factorial i in
      let G = factorial N in
      let lower : h * W ≤ 256 * s = le_trans k.low (le_of_eq (ap (λ (n : ℕ). n * nested N Q D js) (weight-next U j) ∙ mul_assoc 256 c (nested N Q D js))) in
      let upper : 256 * s ≤ (h + e) * W = le_trans (le_of_eq (sym (ap (λ (n : ℕ). n * nested N Q D js) (weight-next U j) ∙ mul_assoc 256 c (nested N Q D js)))) k.high in
      let pl : q * (W * D) ≤ Q * s = product-low (2 ^ 32) 256 K D Q v 5 h e f W s (omega arith) (omega arith) units v_low v_high lower upper (slack-room h high e top) in
      let ph : Q * s ≤ (q + 1 + f) * (W * D) = product_high (2 ^ 32) 256 K D Q v 5 h e f W s (omega arith) (omega arith) units v_low v_high lower upper (slack-room h high e top) in
      let cl : a * G ≤ c * share = subst (λ (i : ℕ). coefficient U i * G ≤ weight U j * (G / factorial i)) (sym same) (coefficient-low N U j small) in
      let ch : c * share ≤ (a + 1) * G = subst (λ (i : ℕ). weight U j * (G / factorial i) ≤ (coefficient U i + 1) * G) (sym same) (coefficient-high N U j small) in
      let w = D * wide D js in
      let e1 : c * (share * w + Q * nested N Q D js) ≡ c * share * w + Q * s =
      mul-add c (share * w) (Q * nested N Q D js) ∙ ap (λ (n : ℕ). n + c * (Q * nested N Q D js)) (sym (mul_assoc c share w)) ∙ ap (λ (n : ℕ). c * share * w + n) (mul_left_comm c Q (nested N Q D js)) in
      let e2 : W * D ≡ G * w = mul_assoc G (wide D js) D ∙ ap (λ (n : ℕ). G * n) (mul_comm (wide D js) D) in
      let xl : a * (G * w) ≤ c * share * w = le_trans (le_of_eq (sym (mul_assoc a G w))) (mul-le-mul_right w cl) in
      let xh : c * share * w ≤ (a + 1) * (G * w) = le_trans (mul-le-mul_right w ch) (le_of_eq (mul_assoc (a + 1) G w)) in
      let sum : (a + 1) * (G * w) + (q + 1 + f) * (G * w) ≡ (a + q + (2 + f)) * (G * w) = sym (add-mul (a + 1) (q + 1 + f) (G * w)) ∙ ap (λ (n : ℕ). n * (G * w)) (regroup a q f) in
      record {
        low = le_trans (le_of_eq (add-mul a q (G * w))) (le_trans (add-le-add xl (le_trans (le_of_eq (ap (λ (n : ℕ). q * n) (sym e2))) pl)) (le_of_eq (sym e1)));
        high = le_trans (le_of_eq e1) (le_trans (add-le-add xh (le_trans ph (le_of_eq (ap (λ (n : ℕ). (q + 1 + f) * n) e2)))) (le_of_eq sum));
      }
    where
      regroup : (a q f : ℕ) → a + 1 + (q + 1 + f) ≡ a + q + (2 + f)
      regroup a q f = omega arith

  -- the steps of js left out
  pub held-tail : (j : ℕ) (js : List ℕ) → T (follows j js) → T (up_to N js) → Held N U Q D 0 (lost U js) j js
  unfolding lost nested wide up_to
  held-tail j [] t u = record { low = le_of_eq (zero-mul (factorial N * 1) ∙ sym (mul-zero (weight U j))); high = le_of_eq (mul-zero (weight U j) ∙ sym (zero-mul (factorial N * 1))) }
  held-tail j (i ∷ js) t u =
      let same = follows-head j i js t in
      let small : j ≤ N = subst (λ (i : ℕ). i ≤ N) same (leb→le i N (and_l (leb i N) (up_to N js) u)) in
      let r = step j i 0 (lost U js) 0 js same small (le_refl 0) (held-tail (j + 4) js (follows-tail j i js t) (and_r (leb i N) (up_to N js) u)) in
      record { low = le_trans (le_of_eq (zero-mul (factorial N * (D * wide D js)))) (omega arith); high = le_trans r.high (le_of_eq (ap (λ (n : ℕ). n * (factorial N * (D * wide D js))) (none (coefficient U i) (slack 0 (lost U js))))) }
    where
      none : (a f : ℕ) → a + v * 0 / 2 ^ 32 + (2 + f) ≡ 0 + (a + 2 + f)
      none a f = omega arith

  pub held : (j : ℕ) (js tail : List ℕ) → T (follows j (js ++ tail)) → T (up_to N (js ++ tail)) → Held N U Q D (ladder U v js) (lack U (lost U tail) js) j (js ++ tail)
  unfolding lack ladder up_to
  held j [] tail t u = held-tail j tail t u
  held j (i ∷ js) tail t u =
      let same = follows-head j i (js ++ tail) t in
      let small : j ≤ N = subst (λ (i : ℕ). i ≤ N) same (leb→le i N (and_l (leb i N) (up_to N (js ++ tail)) u)) in
      step j i (ladder U v js) (lack U (lost U tail) js) (peak U js) (js ++ tail) same small (ladder-le js) (held (j + 4) js tail (follows-tail j i (js ++ tail) t) (and_r (leb i N) (up_to N (js ++ tail)) u))
