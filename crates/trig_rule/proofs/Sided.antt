-- A ladder times the square or the fourth power of the angle is near the terms that it stands for, at an angle R / 2 ^ 56 of at most half a turn. Assumes nothing.
use mathlib.Core.Path.{◌≡◌, refl, sym, ap, ◌∙◌, subst}
use Prim.Native.Nat.{ℕ, ◌+◌, ◌*◌, ◌/◌, ◌^◌, ◌≤◌, ◌<◌}
use native.Mathlib.Nat.{mul_assoc, mul_comm, mul_left_comm, mul-add, add-mul, one-mul, mul-mul-mul_comm, add_assoc, pow-zero, pow-suc}
use native.Mathlib.Nat.{add-le-add, le_refl, le_trans, le_of_eq, le_of_lt, mul-le-mul, mul-le-mul_left, mul-le-mul_right, le_of_mul-le-mul_left, div-mul-le_self, lt-div-mul-add}
use native.Mathlib.Omega.{arith}
use mathlib.Core.List.{List, ◌++◌}
use lib.Dec.{T, lit<}
use lib.ListN.{length}
use lib.Pow.{pow-add}
use Rattle.trig_rule.specs.Sums.{factorial, terms}
use Rattle.trig_rule.specs.Steps.{half, square_of, fourth_of, weight, ladder}
use Rattle.trig_rule.proofs.Nested.{follows, wide, wide_is, nested, nested_is}
use Rattle.trig_rule.proofs.Ladder.{product-low, product_high, most, peak, lost, lack, up_to, Held, ladder-le, held}

-- ---- the square and the fourth power of R: each is cut, the square by less than 3 units and the fourth power by less than 5
pub square-is : (n : ℕ) → n ^ 2 ≡ n * n
square-is n = pow-add n 1 1 ∙ ap (λ (m : ℕ). m * m) (pow-suc n 0 ∙ ap (λ (m : ℕ). m * n) (pow-zero n) ∙ one-mul n)

pub record Powers (R : ℕ) : Type 0 where
  pub square-low : square_of R * 2 ^ 84 ≤ R ^ 2
  pub square-high : R ^ 2 ≤ (square_of R + 3) * 2 ^ 84
  pub square_le : square_of R ≤ 2649351757
  pub fourth-low : fourth_of R * 2 ^ 200 ≤ R ^ 4
  pub fourth-high : R ^ 4 ≤ (fourth_of R + 5) * 2 ^ 200
  pub fourth-le : fourth_of R ≤ most

cut-square : (p z R : ℕ) → p * 2 ^ 26 ≤ R → R < p * 2 ^ 26 + 2 ^ 26 → z * 2 ^ 32 ≤ p * p → p * p < z * 2 ^ 32 + 2 ^ 32 → p ≤ 3373259426 → (z * 2 ^ 84 ≤ R * R) × (R * R ≤ (z + 3) * 2 ^ 84)
cut-square p z R lo hi zlo zhi small =
    let a : p * 2 ^ 26 * (p * 2 ^ 26) ≤ R * R = mul-le-mul lo lo in
    let a' : p * 2 ^ 26 * (p * 2 ^ 26) ≡ p * p * 2 ^ 52 = mul-mul-mul_comm p (2 ^ 26) p (2 ^ 26) in
    let b : R * R ≤ (p * 2 ^ 26 + 2 ^ 26) * (p * 2 ^ 26 + 2 ^ 26) = mul-le-mul (le_of_lt hi) (le_of_lt hi) in
    let b' : (p * 2 ^ 26 + 2 ^ 26) * (p * 2 ^ 26 + 2 ^ 26) ≡ p * p * 2 ^ 52 + (p * 2 ^ 53 + 2 ^ 52) =
    mul-add (p * 2 ^ 26 + 2 ^ 26) (p * 2 ^ 26) (2 ^ 26) ∙ join (add-mul (p * 2 ^ 26) (2 ^ 26) (p * 2 ^ 26)) a' in
    (omega arith, omega arith)
  where
    join : (p * 2 ^ 26 + 2 ^ 26) * (p * 2 ^ 26) ≡ p * 2 ^ 26 * (p * 2 ^ 26) + 2 ^ 26 * (p * 2 ^ 26) → p * 2 ^ 26 * (p * 2 ^ 26) ≡ p * p * 2 ^ 52
        → (p * 2 ^ 26 + 2 ^ 26) * (p * 2 ^ 26) + (p * 2 ^ 26 + 2 ^ 26) * 2 ^ 26 ≡ p * p * 2 ^ 52 + (p * 2 ^ 53 + 2 ^ 52)
    join e f = omega arith

cut-fourth : (z w X : ℕ) → z * 2 ^ 84 ≤ X → X ≤ (z + 3) * 2 ^ 84 → w * 2 ^ 32 ≤ z * z → z * z < w * 2 ^ 32 + 2 ^ 32 → z ≤ 2649351757 → (w * 2 ^ 200 ≤ X * X) × (X * X ≤ (w + 5) * 2 ^ 200)
cut-fourth z w X lo hi wlo whi small =
    let b : (z + 3) * (z + 3) ≤ (w + 5) * 2 ^ 32 = within (mul-add (z + 3) z 3) (add-mul z 3 z) in
    let low : z * z * 2 ^ 168 ≤ X * X = le_trans (le_of_eq (sym (mul-mul-mul_comm z (2 ^ 84) z (2 ^ 84)))) (mul-le-mul lo lo) in
    let high : X * X ≤ (z + 3) * (z + 3) * 2 ^ 168 = le_trans (mul-le-mul hi hi) (le_of_eq (mul-mul-mul_comm (z + 3) (2 ^ 84) (z + 3) (2 ^ 84))) in (
      le_trans (le_of_eq (sym (mul_assoc w (2 ^ 32) (2 ^ 168)))) (le_trans (mul-le-mul_right (2 ^ 168) wlo) low),
      le_trans high (le_trans (mul-le-mul_right (2 ^ 168) b) (le_of_eq (mul_assoc (w + 5) (2 ^ 32) (2 ^ 168)))),
    )
  where
    within : (z + 3) * (z + 3) ≡ (z + 3) * z + (z + 3) * 3 → (z + 3) * z ≡ z * z + 3 * z → (z + 3) * (z + 3) ≤ (w + 5) * 2 ^ 32
    within e f = omega arith

square-small : (R : ℕ) → R ≤ half → square_of R ≤ 2649351757
square-small R h =
    let a : R / 2 ^ 26 ≤ 3373259426 = omega arith in
    let b : R / 2 ^ 26 * (R / 2 ^ 26) ≤ 3373259426 * 3373259426 = mul-le-mul a a in
    omega arith

fourth-small : (z : ℕ) → z ≤ 2649351757 → z * z / 2 ^ 32 ≤ most
fourth-small z h =
    let b : z * z ≤ 2649351757 * 2649351757 = mul-le-mul h h in
    omega arith

pub powers : (R : ℕ) → R ≤ half → Powers R
powers R h =
    let p = R / 2 ^ 26 in
    let z = square_of R in
    let sq = cut-square p z R (div-mul-le_self R (2 ^ 26)) (lt-div-mul-add {a = R} {b = 2 ^ 26} (omega arith)) (div-mul-le_self (p * p) (2 ^ 32)) (lt-div-mul-add {a = p * p} {b = 2 ^ 32} (omega arith)) (omega arith) in
    let fo = cut-fourth z (fourth_of R) (R * R) sq.0 sq.1 (div-mul-le_self (z * z) (2 ^ 32)) (lt-div-mul-add {a = z * z} {b = 2 ^ 32} (omega arith)) (square-small R h) in
    let e2 : R * R ≡ R ^ 2 = sym (square-is R) in
    let e4 : R * R * (R * R) ≡ R ^ 4 = ap (λ (m : ℕ). m * m) e2 ∙ sym (pow-add R 2 2) in
    record {
      square-low = subst (λ (m : ℕ). z * 2 ^ 84 ≤ m) e2 sq.0;
      square-high = subst (λ (m : ℕ). m ≤ (z + 3) * 2 ^ 84) e2 sq.1;
      square_le = square-small R h;
      fourth-low = subst (λ (m : ℕ). fourth_of R * 2 ^ 200 ≤ m) e4 fo.0;
      fourth-high = subst (λ (m : ℕ). m ≤ (fourth_of R + 5) * 2 ^ 200) e4 fo.1;
      fourth-le = fourth-small z (square-small R h);
    }

-- ---- from the nested sum to the terms: n ^ s * U * nested over (G * wide * d ^ s) is U * terms over the whole, with n ^ i over d ^ i taken out
module _ (N n d U i s k j : ℕ) (js : List ℕ) (t : T (follows j js)) (ej : j ≡ i + s) (ek : k + j + 4 * length js ≡ N + 4) (d-pos : 0 < d ^ 4) where
  abbrev inner : ℕ
  inner = U * nested N (n ^ 4) (d ^ 4) js

  abbrev base : ℕ
  base = factorial N * wide (d ^ 4) js * d ^ s

  top : d ^ 4 * (U * d ^ i * terms N n d js) ≡ n ^ i * d ^ (i + k) * (n ^ s * inner)
  top =
      mul_left_comm (d ^ 4) (U * d ^ i) (terms N n d js)
      ∙ ap (λ (m : ℕ). U * d ^ i * m) (sym (nested_is N n d k j js t ek) ∙ ap (λ (m : ℕ). m * d ^ k * nested N (n ^ 4) (d ^ 4) js) (ap (λ (m : ℕ). n ^ m) ej ∙ pow-add n i s))
      ∙ regroup U (d ^ i) (n ^ i) (n ^ s) (d ^ k) (nested N (n ^ 4) (d ^ 4) js)
      ∙ ap (λ (m : ℕ). n ^ i * m * (n ^ s * inner)) (sym (pow-add d i k))
    where
      regroup : (u a b c e x : ℕ) → u * a * (b * c * e * x) ≡ b * (a * e) * (c * (u * x))
      regroup u a b c e x = simp (mul_assoc, mul_left_comm)

  bottom : (q : ℕ) → n ^ i * d ^ (i + k) * (q * base) ≡ d ^ 4 * (q * (n ^ i * (d ^ N * factorial N)))
  bottom q =
      ap (λ (m : ℕ). n ^ i * d ^ (i + k) * (q * (factorial N * m * d ^ s))) (wide_is d js)
      ∙ gather (n ^ i) (d ^ (i + k)) q (factorial N) (d ^ (4 * length js)) (d ^ s)
      ∙ ap (λ (m : ℕ). q * (n ^ i * (m * factorial N))) (ap (λ (m : ℕ). m * d ^ s) (sym (pow-add d (i + k) (4 * length js))) ∙ sym (pow-add d (i + k + 4 * length js) s) ∙ ap (λ (m : ℕ). d ^ m) (sum (length js) ek) ∙ pow-add d N 4)
      ∙ spread q (n ^ i) (d ^ N) (d ^ 4) (factorial N)
    where
      gather : (a b q g w y : ℕ) → a * b * (q * (g * w * y)) ≡ q * (a * (b * w * y * g))
      gather a b q g w y = simp (mul_assoc, mul_comm, mul_left_comm)

      spread : (q a x y g : ℕ) → q * (a * (x * y * g)) ≡ y * (q * (a * (x * g)))
      spread q a x y g = simp (mul_assoc, mul_left_comm)

      sum : (l : ℕ) → k + j + 4 * l ≡ N + 4 → i + k + 4 * l + s ≡ N + 4
      sum l e = omega arith

  pub side-low : (q : ℕ) → q * base ≤ n ^ s * inner → q * (n ^ i * (d ^ N * factorial N)) ≤ U * d ^ i * terms N n d js
  side-low q h = le_of_mul-le-mul_left {k = d ^ 4} (le_trans (le_of_eq (sym (bottom q))) (le_trans (mul-le-mul_left (n ^ i * d ^ (i + k)) h) (le_of_eq (sym top)))) d-pos

  pub side-high : (q : ℕ) → n ^ s * inner ≤ q * base → U * d ^ i * terms N n d js ≤ q * (n ^ i * (d ^ N * factorial N))
  side-high q h = le_of_mul-le-mul_left {k = d ^ 4} (le_trans (le_of_eq top) (le_trans (mul-le-mul_left (n ^ i * d ^ (i + k)) h) (le_of_eq (bottom q)))) d-pos

-- ---- the two kinds of side: those whose first exponent is 4 above the factor that was taken out, and 2 above
pub record Sided (N n U i q e : ℕ) (js : List ℕ) : Type 0 where
  pub low : q * (n ^ i * ((2 ^ 56) ^ N * factorial N)) ≤ U * (2 ^ 56) ^ i * terms N n (2 ^ 56) js
  pub high : U * (2 ^ 56) ^ i * terms N n (2 ^ 56) js ≤ (q + e) * (n ^ i * ((2 ^ 56) ^ N * factorial N))

abbrev d : ℕ
d = 2 ^ 56

abbrev D : ℕ
D = 2 ^ 224

module _ (N U i k j : ℕ) (js tail : List ℕ) (t : T (follows j (js ++ tail))) (u : T (up_to N (js ++ tail))) (ek : k + j + 4 * length (js ++ tail) ≡ N + 4) (R : ℕ) (small : R ≤ half) where
  abbrev v : ℕ
  v = fourth_of R

  abbrev h : ℕ
  h = ladder U (fourth_of R) js

  abbrev e : ℕ
  e = lack U (lost U tail) js

  abbrev s : ℕ
  s = U * nested N (R ^ 4) (2 ^ 224) (js ++ tail)

  abbrev W : ℕ
  W = factorial N * wide (2 ^ 224) (js ++ tail)

  kept : Held N U (R ^ 4) D h e j (js ++ tail)
  kept = let p = powers R small in held N U (2 ^ 200) D (R ^ 4) v refl p.fourth-low p.fourth-high p.fourth-le j js tail t u

  top-le : h ≤ peak U js
  top-le = let p = powers R small in ladder-le N U (2 ^ 200) D (R ^ 4) v refl p.fourth-low p.fourth-high p.fourth-le js

  -- js starts at i + 4
  pub four : (f : ℕ) → j ≡ i + 4 → weight U j ≡ 256 * U → 5 * peak U js + (most + 5) * e ≤ f * 2 ^ 32 → Sided N R U i (v * h / 2 ^ 32) (1 + f) (js ++ tail)
  four f ej ew room =
      let p = powers R small in
      let same : weight U j * nested N (R ^ 4) D (js ++ tail) ≡ 256 * s = ap (λ (m : ℕ). m * nested N (R ^ 4) D (js ++ tail)) ew ∙ mul_assoc 256 U (nested N (R ^ 4) D (js ++ tail)) in
      let lower : h * W ≤ 256 * s = le_trans kept.low (le_of_eq same) in
      let upper : 256 * s ≤ (h + e) * W = le_trans (le_of_eq (sym same)) kept.high in
      let fits : 5 * h + (v + 5) * e ≤ f * 2 ^ 32 = le_trans (add-le-add (mul-le-mul_left 5 top-le) (mul-le-mul_right e (add-le-add p.fourth-le (le_refl 5)))) room in
      let pl : v * h / 2 ^ 32 * (W * D) ≤ R ^ 4 * s = product-low (2 ^ 32) 256 (2 ^ 200) D (R ^ 4) v 5 h e f W s (omega arith) (omega arith) refl p.fourth-low p.fourth-high lower upper fits in
      let ph : R ^ 4 * s ≤ (v * h / 2 ^ 32 + 1 + f) * (W * D) = product_high (2 ^ 32) 256 (2 ^ 200) D (R ^ 4) v 5 h e f W s (omega arith) (omega arith) refl p.fourth-low p.fourth-high lower upper fits in
      record {
        low = side-low N R d U i 4 k j (js ++ tail) t ej ek (lit< tt) (v * h / 2 ^ 32) pl;
        high = side-high N R d U i 4 k j (js ++ tail) t ej ek (lit< tt) (v * h / 2 ^ 32 + (1 + f)) (subst (λ (m : ℕ). R ^ 4 * s ≤ m * (W * D)) (add_assoc (v * h / 2 ^ 32) 1 f) ph);
      }

  -- js starts at i + 2
  pub two : (f : ℕ) → j ≡ i + 2 → weight U j ≡ 16 * U → 3 * peak U js + (2649351757 + 3) * e ≤ f * 2 ^ 32 → Sided N R U i (square_of R * h / 2 ^ 32) (1 + f) (js ++ tail)
  two f ej ew room =
      let p = powers R small in
      let z = square_of R in
      let same : weight U j * nested N (R ^ 4) D (js ++ tail) ≡ 16 * s = ap (λ (m : ℕ). m * nested N (R ^ 4) D (js ++ tail)) ew ∙ mul_assoc 16 U (nested N (R ^ 4) D (js ++ tail)) in
      let lower : h * W ≤ 16 * s = le_trans kept.low (le_of_eq same) in
      let upper : 16 * s ≤ (h + e) * W = le_trans (le_of_eq (sym same)) kept.high in
      let fits : 3 * h + (z + 3) * e ≤ f * 2 ^ 32 = le_trans (add-le-add (mul-le-mul_left 3 top-le) (mul-le-mul_right e (add-le-add p.square_le (le_refl 3)))) room in
      let pl : z * h / 2 ^ 32 * (W * 2 ^ 112) ≤ R ^ 2 * s = product-low (2 ^ 32) 16 (2 ^ 84) (2 ^ 112) (R ^ 2) z 3 h e f W s (omega arith) (omega arith) refl p.square-low p.square-high lower upper fits in
      let ph : R ^ 2 * s ≤ (z * h / 2 ^ 32 + 1 + f) * (W * 2 ^ 112) = product_high (2 ^ 32) 16 (2 ^ 84) (2 ^ 112) (R ^ 2) z 3 h e f W s (omega arith) (omega arith) refl p.square-low p.square-high lower upper fits in
      record {
        low = side-low N R d U i 2 k j (js ++ tail) t ej ek (lit< tt) (z * h / 2 ^ 32) pl;
        high = side-high N R d U i 2 k j (js ++ tail) t ej ek (lit< tt) (z * h / 2 ^ 32 + (1 + f)) (subst (λ (m : ℕ). R ^ 2 * s ≤ m * (W * 2 ^ 112)) (add_assoc (z * h / 2 ^ 32) 1 f) ph);
      }
