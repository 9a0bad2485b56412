-- The leading 31 digits of an angle times a difference, packed: by the product of two f64. Assumes nothing.
use mathlib.Core.Path.{◌≡◌, refl, sym, ap, ◌∙◌, subst}
use mathlib.Core.Logic.{inl, inr, ⊎_elim}
use mathlib.Core.Bool.{Bool, true, false, not}
use Prim.Native.Nat.{ℕ, suc, ◌+◌, ◌-◌, ◌*◌, ◌/◌, ◌%◌, ◌^◌, ◌≤◌, ◌<◌}
use native.Mathlib.Nat.{mul_assoc, mul_right_comm, mul-pos, mul-lt-mul_of_pos_right, le_trans, lt_of_le_of_lt, lt_of_lt_of_le, mul-le-mul_left, div-div-eq-div-mul, eq-zero-or-pos, lt_of_not-le, not-le_of_lt, mul-zero, le_of_lt}
use native.Mathlib.Omega.{arith}
use lib.Count.{count_leading_zeros, leading_top}
use lib.Dec.{T, ltb}
use lib.IntN.{pos}
use lib.Pow.{pow-add, pow_pos, pow_mono}
use lib.Ieee.{Float, binary64, sub, mul, round, to_bits, of_bits, of_int, is_nan, unlike}
use lib.Ieee.Exact.{HasValue}
use lib.Ieee.Scale.{round_same}
use Rattle.trig_rule.specs.Steps.{half, gap_of, over_of, drop_of}
use Rattle.floats.specs.Patterns.{sign_place, wide_hidden, wide_sign_place, wide_infinity_bits, narrow_step, narrow_half}
use Rattle.decimal_rounding.specs.Wide.{narrowed_of}
use Rattle.trig_single.specs.Single.{Stands, sine_from}
use Rattle.trig_single.proofs.Values.{mul-values, round_number}
use Rattle.trig_single.proofs.Taken.{carrier, taken}
use Rattle.trig_single.proofs.Head.{past_lead, exact-value, number-bits, cut-bits, lead_low, lead_high, head-value}
use Rattle.trig_single.proofs.Product.{product-packed}
use Rattle.trig_single.proofs.Near.{Near, packed-near, zero-over, gap_below, over-is}

-- ---- what the code makes of an angle r: the f64 of its leading digits
abbrev pub whole_bits : ℕ → ℕ
whole_bits r = to_bits binary64 (of_int binary64 (pos (r / 32)))

whole_is : (r : ℕ) → whole_bits r ≡ to_bits binary64 (round binary64 false (r / 32) 1)
unfolding of_int
whole_is r = refl

pub whole-number : (r : ℕ) → T (not (is_nan (of_int binary64 (pos (r / 32)))))
unfolding of_int
whole-number r = round_number binary64 false (r / 32) 1

abbrev pub head_bits : ℕ → ℕ
head_bits r = whole_bits r - whole_bits r % past_lead

module _ (r : ℕ) (low : 2 ^ 36 ≤ r) (high : r ≤ half) where
  -- its value, by the leading digits of the definition; `place` is that of the highest digit of r / 32
  pub record Head : Type 0 where
    pub place : ℕ
    pub near : place ≤ 52
    pub many : 31 ≤ place
    pub drop : drop_of r ≡ place - 25
    pub small : r / 2 ^ drop_of r < 2 ^ 31
    pub some : 0 < r / 2 ^ drop_of r
    pub finite : head_bits r < wide_infinity_bits
    pub value : HasValue (of_bits binary64 (head_bits r)) false (r / 2 ^ drop_of r * past_lead * 2 ^ (1022 + place)) (2 ^ 1074)

  at : (i : ℕ) → count_leading_zeros 64 r + suc i ≡ 64 → 2 ^ i ≤ r → r < 2 ^ suc i → Head
  at i zeros lo hi =
      let a : 36 < suc i = lt_of_not-le (λ (g : suc i ≤ 36). not-le_of_lt (lt_of_lt_of_le hi (pow_mono g)) low) in
      let b : i < 58 = lt_of_not-le (λ (g : 58 ≤ i). not-le_of_lt (let q : r < 2 ^ 58 = omega arith in q) (le_trans (pow_mono g) lo)) in
      let j = i - 5 in
      let e : i ≡ j + 5 = omega arith in
      let f : suc i ≡ suc j + 5 = omega arith in
      let p : 2 ^ i ≡ 2 ^ j * 32 = ap (λ (x : ℕ). 2 ^ x) e ∙ pow-add 2 j 5 in
      let q : 2 ^ suc i ≡ 2 ^ suc j * 32 = ap (λ (x : ℕ). 2 ^ x) f ∙ pow-add 2 (suc j) 5 in
      made j (omega arith) (omega arith) (omega arith) (floor-low (2 ^ j) (2 ^ i) p lo) (floor-high (2 ^ suc j) (2 ^ suc i) q hi)
    where
      floor-low : (P Q : ℕ) → Q ≡ P * 32 → Q ≤ r → P ≤ r / 32
      floor-low P Q e h = omega arith

      floor-high : (P Q : ℕ) → Q ≡ P * 32 → r < Q → r / 32 < P
      floor-high P Q e h = omega arith

      made : (j : ℕ) → 31 ≤ j → j ≤ 52 → drop_of r ≡ j - 25 → 2 ^ j ≤ r / 32 → r / 32 < 2 ^ suc j → Head
      made j many near drop nl nh =
          let n = r / 32 in
          let lead = n / 2 ^ (j - 30) in
          let g : 5 + (j - 30) ≡ j - 25 = omega arith in
          let same : lead ≡ r / 2 ^ drop_of r =
          div-div-eq-div-mul r 32 (2 ^ (j - 30)) ∙ ap (λ (x : ℕ). r / x) (sym (pow-add 2 5 (j - 30)) ∙ ap (λ (x : ℕ). 2 ^ x) (g ∙ sym drop)) in
          let ll = lead_low n j many near nl nh in
          let lh = lead_high n j many near nl nh in
          let cut = cut-bits n j many near nl nh (whole_bits r) (whole_is r ∙ number-bits n j many near nl nh) in
          record {
            place = j;
            near = near;
            many = many;
            drop = drop;
            small = subst (λ (x : ℕ). x < 2 ^ 31) same (omega arith);
            some = subst (λ (x : ℕ). 0 < x) same (omega arith);
            finite = omega arith;
            value =
                subst (λ (x : ℕ). HasValue (of_bits binary64 (head_bits r)) false (x * past_lead * 2 ^ (1022 + j)) (2 ^ 1074)) same
                (subst (λ (x : ℕ). HasValue (of_bits binary64 x) false (lead * past_lead * 2 ^ (1022 + j)) (2 ^ 1074)) (sym cut) (head-value n j many near nl nh));
          }

  pub head : Head
  head = let t = leading_top 64 r (omega arith) (omega arith) in at t.0 t.1 t.2 t.3

-- ---- the product
module _ (r a t : ℕ) (low : 2 ^ 36 ≤ r) (high : r ≤ half) (ha : a < 2 ^ 32) (ht : t < 2 ^ 32) where
  abbrev sine_whole : ℕ
  sine_whole = r / 2 ^ drop_of r * gap_of a t

  abbrev pub sine_product : Float
  sine_product = mul binary64 (of_bits binary64 (head_bits r)) (sub binary64 (of_bits binary64 (carrier 81 + a - t)) (of_bits binary64 (carrier 81)))

  difference-value : HasValue (sub binary64 (of_bits binary64 (carrier 81 + a - t)) (of_bits binary64 (carrier 81))) (ltb a t) (gap_of a t) (2 ^ 81)
  difference-value =
      subst (λ (x : Float). HasValue x (ltb a t) (gap_of a t) (2 ^ 81)) (sym (taken 81 a t (omega arith) ha ht))
      (exact-value (ltb a t) 81 (gap_of a t) (omega arith) (let g = gap_below a t ha ht in omega arith))

  product_is : sine_product ≡ round binary64 (ltb a t) sine_whole (2 ^ (86 - drop_of r))
  product_is =
      let h = head r low high in
      let j = h.place in
      let D = r / 2 ^ drop_of r in
      let g = gap_of a t in
      let v = 86 - drop_of r in
      let e : 22 + (1022 + j) + v ≡ 1074 + 81 = omega (arith, h.drop, h.near, h.many) in
      mul-values binary64 (of_bits binary64 (head_bits r)) (sub binary64 (of_bits binary64 (carrier 81 + a - t)) (of_bits binary64 (carrier 81))) false (ltb a t)
      (D * past_lead * 2 ^ (1022 + j)) (2 ^ 1074) g (2 ^ 81) (pow_pos 1074) (pow_pos 81) h.value difference-value
      ∙ ap (λ (s : Bool). round binary64 s (D * past_lead * 2 ^ (1022 + j) * g) (2 ^ 1074 * 2 ^ 81)) (plain (ltb a t))
      ∙ round_same binary64 (ltb a t) (D * past_lead * 2 ^ (1022 + j) * g) (2 ^ 1074 * 2 ^ 81) (D * g) (2 ^ v) (mul-pos (pow_pos 1074) (pow_pos 81)) (pow_pos v)
      (ap (λ (x : ℕ). x * g * 2 ^ v) (mul_assoc D (2 ^ 22) (2 ^ (1022 + j)) ∙ ap (λ (x : ℕ). D * x) (sym (pow-add 2 22 (1022 + j))))
      ∙ ap (λ (x : ℕ). x * 2 ^ v) (mul_right_comm D (2 ^ (22 + (1022 + j))) g)
      ∙ mul_assoc (D * g) (2 ^ (22 + (1022 + j))) (2 ^ v)
      ∙ ap (λ (x : ℕ). D * g * x) (sym (pow-add 2 (22 + (1022 + j)) v) ∙ ap (λ (x : ℕ). 2 ^ x) e ∙ pow-add 2 1074 81))
    where
      plain : (s : Bool) → unlike false s ≡ s
      plain true = refl
      plain false = refl

  whole_below : sine_whole < 2 ^ 63
  whole_below =
      let h = head r low high in
      let g = gap_below a t ha ht in
      lt_of_le_of_lt (mul-le-mul_left (r / 2 ^ drop_of r) (le_of_lt g)) (mul-lt-mul_of_pos_right h.small (pow_pos 32))

  pub product-number : T (not (is_nan sine_product))
  product-number = subst (λ (y : Float). T (not (is_nan y))) (sym product_is) (round_number binary64 (ltb a t) sine_whole (2 ^ (86 - drop_of r)))

  -- away from the middles of two f32 it packs as the whole number does
  abbrev Apart : Type 0
  Apart = to_bits binary64 sine_product % narrow_step ≡ narrow_half → ⊥

  product-near : Apart → Near sine_product (ltb a t) sine_whole (drop_of r)
  product-near apart = subst (λ (y : Float). Near y (ltb a t) sine_whole (drop_of r)) (sym product_is) (⊎_elim none some (eq-zero-or-pos (gap_of a t)))
    where
      u : ℕ
      u = 86 - drop_of r

      none : gap_of a t ≡ 0 → Near (round binary64 (ltb a t) sine_whole (2 ^ u)) (ltb a t) sine_whole (drop_of r)
      none e =
          let z : sine_whole ≡ 0 = ap (λ (g : ℕ). r / 2 ^ drop_of r * g) e ∙ mul-zero (r / 2 ^ drop_of r) in
          subst (λ (n : ℕ). Near (round binary64 (ltb a t) n (2 ^ u)) (ltb a t) n (drop_of r)) (sym z) (zero-over (ltb a t) (2 ^ u) (drop_of r) (pow_pos u))

      some : 0 < gap_of a t → Near (round binary64 (ltb a t) sine_whole (2 ^ u)) (ltb a t) sine_whole (drop_of r)
      some s =
          let h = head r low high in
          let e : u + drop_of r ≡ 86 = omega (arith, h.drop, h.near) in
          packed-near (round binary64 (ltb a t) sine_whole (2 ^ u)) (round_number binary64 (ltb a t) sine_whole (2 ^ u))
          (product-packed (ltb a t) u (drop_of r) sine_whole e (mul-pos h.some s) whole_below (λ m. apart (ap (λ (y : Float). to_bits binary64 y % narrow_step) product_is ∙ m)))

  -- with the sign turned over as often as `turned` says
  abbrev pub turned_over : ℕ → ℕ
  turned_over turned = (to_bits binary64 sine_product + turned % 2 * wide_sign_place) % 2 ^ 64

  pub product-stands : (turned : ℕ) → (turned_over turned % narrow_step ≡ narrow_half → ⊥) → Stands (turned_over turned) (sine_from turned r a t)
  product-stands turned apart =
      let b = to_bits binary64 sine_product in
      let near = product-near (λ m. apart (omega arith)) in
      let plain : turned_over turned % wide_sign_place ≡ b % wide_sign_place = omega arith in
      let sign : turned_over turned / wide_sign_place ≡ (turned + over_of a t) % 2 = signed (near.sign ∙ sym (over-is a t ha ht)) in
      record {
        range = ⊎_elim (λ e. inl (plain ∙ e)) (λ h. inr (subst (λ (i : ℕ). 897 * wide_hidden ≤ i) (sym plain) h.0, subst (λ (i : ℕ). i < 1149 * wide_hidden) (sym plain) h.1)) near.range;
        single = ap (λ (i : ℕ). i * sign_place + narrowed_of (turned_over turned % wide_sign_place)) sign ∙ ap (λ (i : ℕ). (turned + over_of a t) % 2 * sign_place + i) (ap narrowed_of plain ∙ near.size);
      }
    where
      signed : to_bits binary64 sine_product / wide_sign_place ≡ over_of a t → turned_over turned / wide_sign_place ≡ (turned + over_of a t) % 2
      signed e = omega arith
