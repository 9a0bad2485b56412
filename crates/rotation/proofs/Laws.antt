-- The laws of a rotation without its full turns: what is left is an f32 exactly, and one alone; up to 360 it is the rotation; it is below 360; nothing more is
-- taken from it; it is what Rust's `%` gives. Assumes nothing.
use mathlib.Core.Path.{◌≡◌, refl, sym, ap, ◌∙◌, subst}
use Prim.Native.Nat.{ℕ, ◌*◌, ◌%◌, ◌^◌, ◌≤◌, ◌<◌}
use native.Mathlib.Nat.{le_of_lt, lt_of_lt_of_le, mod-lt, mul-pos, mul-one, mul_right_comm}
use mathlib.Core.Logic.{inl, inr}
use mathlib.Core.Bool.{Bool}
use lib.Dec.{T, ltb, ltb→lt, nltb→le, lit<}
use lib.Pow.{pow_pos}
use lib.IntN.{ℤ}
use lib.Ieee.{Float, nan, inf, fin, binary32, up, down, round, rem, of_bits, fits}
use lib.Ieee.Exact.{round_exact}
use lib.Ieee.Fits.{down_pos, round-fits}
use lib.Ieee.Scale.{finite, round_same}
use borrow.Author.Tests.{lt-ltb, le-ltb}
use Rattle.floats.proofs.Tests.{decide}
use Rattle.root.specs.Root.{units_of}
use Rattle.root.proofs.Middles.{Few}
use Rattle.root.proofs.Units.{units-of-value, units-few}
use Rattle.decimal_rounding.proofs.Values.{value-unique}
use Rattle.trig_rule.specs.Rule.{Is}
use Rattle.trig_rule.proofs.Reach.{sized}
use Rattle.trig_rule.proofs.Answers.{size-unique}
use Rattle.rotation.specs.Rotation.{full_turn, reduced_of, Left}
use Rattle.rotation.proofs.Turns.{mod-scaled, rest-few}

-- the size of a rotation
abbrev pub size_in : Float → ℕ
size_in x = units_of binary32 x

-- ---- a finite f32 has its sign and its size
pub own-size : (s : Bool) (m : ℕ) (e : ℤ) → T (fits binary32 (fin s m e)) → Is (fin s m e) s (size_in (fin s m e))
own-size s m e h =
    let z = sized (fin s m e) s m e h refl in
    let n : size_in (fin s m e) ≡ z.units = units-of-value binary32 (fin s m e) z.minus z.units z.value in
    (refl, z.value.1 ∙ ap (λ (k : ℕ). k * down e) (sym n))

-- ---- the two cases
module _ (s : Bool) (m : ℕ) (e : ℤ) where
  pub beyond-is : full_turn < size_in (fin s m e) → reduced_of (fin s m e) ≡ round binary32 s (size_in (fin s m e) % full_turn) (2 ^ 149)
  unfolding reduced_of
  beyond-is h = rw (lt-ltb full_turn (size_in (fin s m e)) h)

  pub within-is : size_in (fin s m e) ≤ full_turn → reduced_of (fin s m e) ≡ fin s m e
  unfolding reduced_of
  within-is h = rw (le-ltb full_turn (size_in (fin s m e)) h)

-- up to 360, 360 itself included, it is the rotation
pub reduced-within : (x : Float) → size_in x ≤ full_turn → reduced_of x ≡ x
unfolding reduced_of
reduced-within nan h = refl
reduced-within (inf s) h = refl
reduced-within (fin s m e) h = within-is s m e h

-- ---- beyond 360
-- the rest of few digits is an f32 exactly
pub left-exact : (s : Bool) (n : ℕ) → Few 24 n → Is (round binary32 s (n % full_turn) (2 ^ 149)) s (n % full_turn)
left-exact s n y =
    let r = rest-few y in
    round_exact binary32 s (n % full_turn) (2 ^ 149) r.digits r.zeros (pow_pos 149) r.few
    (subst (λ (k : ℕ). k < 2 ^ 277) r.same (lt_of_lt_of_le (mod-lt n (lit< tt)) (le_of_lt (lit< tt)))) (ap (λ (k : ℕ). k * 2 ^ 149) r.same)

module _ (s : Bool) (m : ℕ) (e : ℤ) (held : T (fits binary32 (fin s m e))) (beyond : full_turn < size_in (fin s m e)) where
  pub left_is : Is (reduced_of (fin s m e)) s (size_in (fin s m e) % full_turn)
  left_is = subst (λ (y : Float). Is y s (size_in (fin s m e) % full_turn)) (sym (beyond-is s m e beyond)) (left-exact s (size_in (fin s m e)) (units-few binary32 (fin s m e) held tt))

  pub reduced-left : Left (fin s m e) (reduced_of (fin s m e))
  reduced-left =
      record {
        held = subst (λ (y : Float). T (fits binary32 y)) (sym (beyond-is s m e beyond)) (round-fits binary32 s (size_in (fin s m e) % full_turn) (2 ^ 149));
        minus = s;
        size = size_in (fin s m e);
        given = own-size s m e held;
        left = left_is;
      }

  -- it is what IEEE's remainder by 360 is, Rust's `%`
  pub reduced-rem : reduced_of (fin s m e) ≡ rem binary32 (fin s m e) (of_bits binary32 0x43b4_0000)
  unfolding rem of_bits
  reduced-rem =
      let n = size_in (fin s m e) in
      let a = m * up e in
      let d = down e in
      let own : a * 2 ^ 149 ≡ n * d = (own-size s m e held).1 in
      let D = down_pos e in
      beyond-is s m e beyond
      ∙ round_same binary32 s (n % full_turn) (2 ^ 149) (a * 1 % (360 * d)) (d * 1) (pow_pos 149) (mul-pos D (lit< tt))
      (ap (λ (k : ℕ). n % full_turn * k) (mul-one d)
      ∙ sym (mod-scaled n full_turn d (lit< tt) D)
      ∙ ap (λ (k : ℕ). k % (full_turn * d)) (sym own)
      ∙ ap (λ (k : ℕ). a * 2 ^ 149 % k) (mul_right_comm 360 (2 ^ 149) d)
      ∙ mod-scaled a (360 * d) (2 ^ 149) (mul-pos (lit< tt) D) (pow_pos 149)
      ∙ ap (λ (k : ℕ). k % (360 * d) * 2 ^ 149) (sym (mul-one a)))

-- ---- any two f32 that are left of one rotation are equal
pub left_unique : (x y z : Float) → Left x y → Left x z → y ≡ z
left_unique x y z p q =
    let size : q.size ≡ p.size = size-unique x q.minus p.minus q.size p.size q.given p.given in
    let sign : q.minus ≡ p.minus = one-sign x q.minus p.minus q.size p.size q.given p.given in
    value-unique binary32 y z p.minus (p.size % full_turn) (2 ^ 149) (pow_pos 149) p.held q.held p.left
    (subst (λ (t : Bool). Is z t (p.size % full_turn)) sign (subst (λ (n : ℕ). Is z q.minus (n % full_turn)) size q.left))
  where
    one-sign : (x : Float) (s t : Bool) (n k : ℕ) → Is x s n → Is x t k → s ≡ t
    one-sign nan s t n k v w = absurd v
    one-sign (inf u) s t n k v w = absurd v
    one-sign (fin u m e) s t n k v w = sym v.0 ∙ w.0

-- ---- every finite f32
pub record Within360 (y : Float) : Type 0 where
  pub held : T (fits binary32 y)
  pub whole : T (finite y)
  pub size : size_in y ≤ full_turn

value-finite : (y : Float) (s : Bool) (n : ℕ) → Is y s n → T (finite y)
value-finite nan s n v = v
value-finite (inf t) s n v = v
value-finite (fin t m e) s n v = tt

-- at most 360 is left, and below 360 of what was beyond
pub reduced-below : (s : Bool) (m : ℕ) (e : ℤ) → T (fits binary32 (fin s m e)) → full_turn < size_in (fin s m e) → size_in (reduced_of (fin s m e)) < full_turn
reduced-below s m e h g =
    subst (λ (n : ℕ). n < full_turn) (sym (units-of-value binary32 (reduced_of (fin s m e)) s (size_in (fin s m e) % full_turn) (left_is s m e h g))) (mod-lt (size_in (fin s m e)) (lit< tt))

pub reduced-within360 : (x : Float) → T (fits binary32 x) → T (finite x) → Within360 (reduced_of x)
reduced-within360 nan h g = absurd g
reduced-within360 (inf s) h g = absurd g
reduced-within360 (fin s m e) h g =
    elim (decide (ltb full_turn (size_in (fin s m e)))) [
      | inl t ↦
          let far = ltb→lt full_turn (size_in (fin s m e)) t in
          record { held = (reduced-left s m e h far).held; whole = value-finite (reduced_of (fin s m e)) s _ (left_is s m e h far); size = le_of_lt (reduced-below s m e h far) }
      | inr t ↦
          let near = nltb→le full_turn (size_in (fin s m e)) t in
          subst Within360 (sym (within-is s m e near)) (record { held = h; whole = tt; size = near })
    ]

-- reducing twice is reducing once
pub reduced-twice : (x : Float) → T (fits binary32 x) → reduced_of (reduced_of x) ≡ reduced_of x
unfolding reduced_of
reduced-twice nan h = refl
reduced-twice (inf s) h = refl
reduced-twice (fin s m e) h = reduced-within (reduced_of (fin s m e)) (reduced-within360 (fin s m e) h tt).size
