-- A whole number, packed: by the f64 that holds it, rounded to an f32. The difference of two of them. Assumes nothing.
use mathlib.Core.Path.{◌≡◌, refl, sym, ap, ◌∙◌, subst}
use mathlib.Core.Logic.{inl, inr, ⊎_elim}
use mathlib.Core.Bool.{Bool, true, false, cond, not}
use Prim.Native.Nat.{ℕ, ◌+◌, ◌-◌, ◌*◌, ◌/◌, ◌%◌, ◌^◌, ◌≤◌, ◌<◌}
use native.Mathlib.Nat.{eq-zero-or-pos}
use native.Mathlib.Omega.{arith}
use borrow.Author.Tests.{leb-true, leb-false, lt-ltb, le-ltb}
use lib.Dec.{T, leb, ltb}
use lib.Pow.{pow_pos}
use lib.Ieee.{Float, binary64, sub, round, to_bits, of_bits, is_nan, units, odd, size}
use lib.Ieee.Scale.{round_same}
use Rattle.trig_rule.specs.Steps.{gap_of, over_of, pack_of}
use Rattle.floats.specs.Patterns.{sign_place, wide_hidden, wide_sign_place}
use Rattle.decimal_rounding.specs.Wide.{narrowed_of}
use Rattle.trig_single.specs.Single.{signed_single, Ranged}
use Rattle.trig_single.proofs.Values.{round_number}
use Rattle.trig_single.proofs.Taken.{carrier, taken}
use Rattle.trig_single.proofs.Packed.{Packed, whole-packed}

-- ---- the float x, whose pattern packs n with k and has the sign s
pub record Near (x : Float) (s : Bool) (n k : ℕ) : Type 0 where
  pub number : T (not (is_nan x))
  pub range : Ranged (to_bits binary64 x)
  pub sign : to_bits binary64 x / wide_sign_place ≡ cond s 1 0
  pub size : narrowed_of (to_bits binary64 x % wide_sign_place) ≡ pack_of n k

pub packed-near : {s : Bool} {n k : ℕ} (x : Float) → T (not (is_nan x)) → Packed (to_bits binary64 x) s n k → Near x s n k
packed-near {s} x number h =
    let both = parts s h.size (omega (arith, h.high)) h.bits in
    record {
      number = number;
      range = inr (subst (λ (i : ℕ). 897 * wide_hidden ≤ i) (sym both.1) h.low, subst (λ (i : ℕ). i < 1149 * wide_hidden) (sym both.1) h.high);
      sign = both.0;
      size = ap narrowed_of both.1 ∙ h.single;
    }
  where
    parts : (s : Bool) (p : ℕ) → p < wide_sign_place → to_bits binary64 x ≡ cond s wide_sign_place 0 + p → (to_bits binary64 x / wide_sign_place ≡ cond s 1 0) × (to_bits binary64 x % wide_sign_place ≡ p)
    parts true p l e = (omega arith, omega arith)
    parts false p l e = (omega arith, omega arith)

zero_one : (s : Bool) (k : ℕ) → Near (round binary64 s 0 1) s 0 k
unfolding round units odd size to_bits is_nan
zero_one true k = record { number = tt; range = inl refl; sign = refl; size = refl }
zero_one false k = record { number = tt; range = inl refl; sign = refl; size = refl }

-- 0 over any denominator
pub zero-over : (s : Bool) (c k : ℕ) → 0 < c → Near (round binary64 s 0 c) s 0 k
zero-over s c k p = subst (λ (x : Float). Near x s 0 k) (round_same binary64 s 0 1 0 c (omega arith) p (let e : 0 * c ≡ 0 * 1 = omega arith in e)) (zero_one s k)

-- ---- the difference a - t
module _ (a t : ℕ) (ha : a < 2 ^ 32) (ht : t < 2 ^ 32) where
  pub gap_below : gap_of a t < 2 ^ 32
  gap_below = go (leb t a)
    where
      go : (b : Bool) → cond b (a - t) (t - a) < 2 ^ 32
      go true = omega arith
      go false = omega arith

  pub over-is : over_of a t ≡ cond (ltb a t) 1 0
  over-is = go (leb t a) refl
    where
      go : (b : Bool) → leb t a ≡ b → ◌≡◌ {A = ℕ} (cond b 0 1) (cond (ltb a t) 1 0)
      go true e = sym (ap (λ (b : Bool). cond b 1 0) (le-ltb a t (leb-true t a e)))
      go false e = sym (ap (λ (b : Bool). cond b 1 0) (lt-ltb a t (leb-false t a e)))

  rounded-near : Near (round binary64 (ltb a t) (gap_of a t) (2 ^ 28)) (ltb a t) (gap_of a t) 58
  rounded-near = ⊎_elim none some (eq-zero-or-pos (gap_of a t))
    where
      none : gap_of a t ≡ 0 → Near (round binary64 (ltb a t) (gap_of a t) (2 ^ 28)) (ltb a t) (gap_of a t) 58
      none e = subst (λ (n : ℕ). Near (round binary64 (ltb a t) n (2 ^ 28)) (ltb a t) n 58) (sym e) (zero-over (ltb a t) (2 ^ 28) 58 (pow_pos 28))

      some : 0 < gap_of a t → Near (round binary64 (ltb a t) (gap_of a t) (2 ^ 28)) (ltb a t) (gap_of a t) 58
      some h =
          packed-near (round binary64 (ltb a t) (gap_of a t) (2 ^ 28)) (round_number binary64 (ltb a t) (gap_of a t) (2 ^ 28))
          (whole-packed (ltb a t) 28 58 (gap_of a t) refl h (let g = gap_below in omega arith))

  abbrev pub difference_of : Float
  difference_of = sub binary64 (of_bits binary64 (carrier 28 + a - t)) (of_bits binary64 (carrier 28))

  pub difference-near : Near difference_of (ltb a t) (gap_of a t) 58
  difference-near = subst (λ (x : Float). Near x (ltb a t) (gap_of a t) 58) (sym (taken 28 a t (omega arith) ha ht)) rounded-near

  pub difference-answer : signed_single (to_bits binary64 difference_of) ≡ over_of a t * sign_place + pack_of (gap_of a t) 58
  difference-answer =
      let near = difference-near in
      ap (λ (i : ℕ). i * sign_place + narrowed_of (to_bits binary64 difference_of % wide_sign_place)) (near.sign ∙ sym over-is) ∙ ap (λ (i : ℕ). over_of a t * sign_place + i) near.size
