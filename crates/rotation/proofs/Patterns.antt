-- What the code works out from a rotation's bits is what is left of it. Assumes nothing.
use mathlib.Core.Path.{◌≡◌, refl, sym, ap, ◌∙◌, subst}
use Prim.Native.Nat.{ℕ, ◌+◌, ◌-◌, ◌*◌, ◌/◌, ◌%◌, ◌^◌, ◌≤◌, ◌<◌}
use native.Mathlib.Nat.{le_trans, le_of_lt, lt_of_lt_of_le, lt_of_le_of_lt, lt_of_not-le, lt_irrefl, mul_assoc, mul-one, mul-le-mul, mod-le}
use native.Mathlib.Omega.{arith}
use native.Mathlib.Decide.{dec_le}
use mathlib.Core.Bool.{Bool, true, false, not}
use lib.Dec.{T, lit≤, lit<}
use lib.Pow.{pow-add, pow_mono, pow_pos, shl_exact}
use lib.IntN.{pos}
use lib.Ieee.{Float, nan, inf, fin, binary32, round, mul, of_int, of_bits, to_bits, fits, nan_bits}
use lib.Ieee.Back.{round_whole}
use lib.Ieee.Bits.{of_bits-to_bits, to_bits-lt}
use lib.Ieee.Scale.{round_same}
use Rattle.floats.specs.Patterns.{hidden, infinity_bits}
use Rattle.root.proofs.Units.{units-of-value}
use Rattle.trig_rule.specs.Rule.{Is}
use Rattle.trig_rule.specs.Steps.{plain, sign_bit}
use Rattle.trig_rule.proofs.Patterns.{bit, normal-value, subnormal-value, finite-lt}
use Rattle.trig_rule.proofs.Angles.{signed}
use Rattle.trig.proofs.Frame.{number-bits}
use Rattle.rotation.specs.Rotation.{full_turn, units_at, reduced_of}
use Rattle.rotation.proofs.Turns.{rest-high, rest-low}
use Rattle.rotation.proofs.Values.{mul-values}
use Rattle.rotation.proofs.Laws.{size_in, reduced-within, beyond-is}

-- ---- 360 among the patterns
units_under : (a : ℕ) → a ≤ 0x43b4_0000 → units_at a ≤ full_turn
units_under a h = go (dec_le 135 (a / hidden))
  where
    go : Dec (135 ≤ a / hidden) → units_at a ≤ full_turn
    go (yes k) =
        let d : a % hidden + hidden ≤ 11796480 = omega arith in
        let e : a / hidden - 1 ≤ 134 = omega arith in
        le_trans (mul-le-mul d (pow_mono e)) (lit≤ tt)
    go (no f) =
        let d : a % hidden + hidden ≤ 16777216 = omega arith in
        let e : a / hidden - 1 ≤ 133 = let g = lt_of_not-le f in omega arith in
        le_trans (mul-le-mul d (pow_mono e)) (lit≤ tt)

units-over : (a : ℕ) → 0x43b4_0000 < a → full_turn < units_at a
units-over a h = go (dec_le 136 (a / hidden))
  where
    go : Dec (136 ≤ a / hidden) → full_turn < units_at a
    go (yes k) =
        let d : hidden ≤ a % hidden + hidden = omega arith in
        let e : 135 ≤ a / hidden - 1 = omega arith in
        lt_of_lt_of_le (lit< tt) (mul-le-mul d (pow_mono e))
    go (no f) =
        let d : 11796481 ≤ a % hidden + hidden = let g = lt_of_not-le f in omega arith in
        let e : 134 ≤ a / hidden - 1 = omega arith in
        lt_of_lt_of_le (lit< tt) (mul-le-mul d (pow_mono e))

-- ---- the digits and their unit, below 2 ^ 26
shifted-turn : (k : ℕ) → k ≤ 18 → 45 * 2 ^ k % 2 ^ 32 ≡ 45 * 2 ^ k
shifted-turn k h = shl_exact 6 k 32 (lit< tt) (omega arith)

module _ (a : ℕ) (beyond : 0x43b4_0000 < a) (low : a / hidden < 153) where
  -- 360 in that unit, as the shift makes it
  pub turn-shifted : 45 * 2 ^ (153 - a / hidden) % 2 ^ 32 ≡ 45 * 2 ^ (153 - a / hidden)
  turn-shifted = shifted-turn (153 - a / hidden) (omega arith)

  pub unit-bits : T (not (nan_bits binary32 ((a / hidden - 23) * hidden)))
  unit-bits = number-bits ((a / hidden - 23) * hidden) (omega arith)

  pub low-is :
      mul binary32 (of_int binary32 (pos ((a % hidden + hidden) % (45 * 2 ^ (153 - a / hidden) % 2 ^ 32)))) (of_bits binary32 ((a / hidden - 23) * hidden))
      ≡ round binary32 false (units_at a % full_turn) (2 ^ 149)
  unfolding of_int
  low-is =
      let d = a % hidden + hidden in
      let e = a / hidden in
      let r = d % (45 * 2 ^ (153 - e)) in
      let u = (e - 23) * hidden in
      let digits : u % hidden + hidden ≡ hidden = omega arith in
      let field : u / hidden - 1 ≡ e - 24 = omega arith in
      let up : 23 + (e - 24) ≡ e - 1 = omega arith in
      let down : 152 - (e - 1) ≡ 153 - e = omega arith in
      let unit : (u % hidden + hidden) * 2 ^ (u / hidden - 1) ≡ 2 ^ (e - 1) =
      ap (λ (n : ℕ). n * 2 ^ (u / hidden - 1)) digits ∙ ap (λ (n : ℕ). hidden * 2 ^ n) field ∙ sym (pow-add 2 23 (e - 24)) ∙ ap (λ (n : ℕ). 2 ^ n) up in
      let few : r ≤ 2 ^ 24 = le_trans (mod-le d (45 * 2 ^ (153 - e))) (omega arith) in
      ap (λ (n : ℕ). mul binary32 (round binary32 false (d % n) 1) (of_bits binary32 u)) turn-shifted
      ∙ mul-values binary32 (round binary32 false r 1) (of_bits binary32 u) false false r 1 ((u % hidden + hidden) * 2 ^ (u / hidden - 1)) (2 ^ 149) (lit< tt) (pow_pos 149)
      (round_whole binary32 false r few) (normal-value u (omega arith) (omega arith))
      ∙ ap (λ (n : ℕ). round binary32 false (r * n) (2 ^ 149)) unit
      ∙ ap (λ (n : ℕ). round binary32 false n (2 ^ 149)) (sym (rest-low d (e - 1) (omega arith) ∙ ap (λ (n : ℕ). d % (45 * 2 ^ n) * 2 ^ (e - 1)) down))

-- from 2 ^ 26 on every size is a multiple of 8
pub high_is : (a : ℕ) → 153 ≤ a / hidden → (r : ℕ) → r ≡ (a % hidden + hidden) * 2 ^ (a / hidden - 153) % 45 → of_int binary32 (pos (r * 8)) ≡ round binary32 false (units_at a % full_turn) (2 ^ 149)
unfolding of_int
high_is a h r e =
    let z : a / hidden - 1 - 152 ≡ a / hidden - 153 = omega arith in
    round_same binary32 false (r * 8) 1 (r * 2 ^ 152) (2 ^ 149) (lit< tt) (pow_pos 149) (mul_assoc r 8 (2 ^ 149) ∙ sym (mul-one (r * 2 ^ 152)))
    ∙ ap (λ (n : ℕ). round binary32 false n (2 ^ 149))
    (ap (λ (n : ℕ). n * 2 ^ 152) e
    ∙ sym (rest-high (a % hidden + hidden) (a / hidden - 1) (omega arith) ∙ ap (λ (n : ℕ). (a % hidden + hidden) * 2 ^ n % 45 * 2 ^ 152) z))

-- ---- a rotation by its bits
module _ (x : Float) (held : T (fits binary32 x)) where
  pub within-bits : plain x ≤ 0x43b4_0000 → reduced_of x ≡ x
  within-bits h = reduced-within x (small (dec_le hidden (plain x)))
    where
      of-units : (n : ℕ) → Is (of_bits binary32 (plain x)) false n → n ≤ full_turn → size_in x ≤ full_turn
      of-units n v l = subst (λ (k : ℕ). k ≤ full_turn) (sym (units-of-value binary32 x (signed x held).minus n ((signed x held).value n v))) l

      small : Dec (hidden ≤ plain x) → size_in x ≤ full_turn
      small (yes k) = of-units (units_at (plain x)) (normal-value (plain x) k (omega arith)) (units_under (plain x) h)
      small (no f) = of-units (plain x) (subnormal-value (plain x) (lt_of_not-le f)) (le_trans (le_of_lt (lt_of_not-le f)) (lit≤ tt))

pub infinite-bits : (x : Float) → T (fits binary32 x) → infinity_bits ≤ plain x → reduced_of x ≡ x
unfolding reduced_of
infinite-bits nan held h = refl
infinite-bits (inf s) held h = refl
infinite-bits (fin s m e) held h =
    let l = finite-lt (to_bits binary32 (fin s m e)) s m e (to_bits-lt binary32 (fin s m e) held) (of_bits-to_bits binary32 (fin s m e) held) in absurd (lt_irrefl infinity_bits (lt_of_le_of_lt h l))

pub beyond-bits : (x : Float) (s : Bool) → T (fits binary32 x) → sign_bit x ≡ bit s → 0x43b4_0000 < plain x → plain x < infinity_bits → reduced_of x ≡ round binary32 s (units_at (plain x) % full_turn) (2 ^ 149)
beyond-bits x s held sign lo hi = go x s held sign lo hi ((signed x held).value (units_at (plain x)) (normal-value (plain x) (omega arith) hi)) (one_bit (signed x held).minus s (sym (signed x held).bits ∙ sign))
  where
    one_bit : (s t : Bool) → bit s ≡ bit t → s ≡ t
    one_bit true true e = refl
    one_bit false false e = refl
    one_bit true false e = absurd (apart e)
      where
        apart : ◌≡◌ {A = ℕ} 1 0 → ⊥
        apart e = omega arith
    one_bit false true e = absurd (apart e)
      where
        apart : ◌≡◌ {A = ℕ} 0 1 → ⊥
        apart e = omega arith

    go : (x : Float) (s : Bool) (held : T (fits binary32 x)) → sign_bit x ≡ bit s → 0x43b4_0000 < plain x → plain x < infinity_bits → Is x (signed x held).minus (units_at (plain x)) → (signed x held).minus ≡ s
        → reduced_of x ≡ round binary32 s (units_at (plain x) % full_turn) (2 ^ 149)
    go nan s held sign lo hi v e = absurd v
    go (inf t) s held sign lo hi v e = absurd v
    go (fin t m g) s held sign lo hi v e =
        let y = fin t m g in
        let n : size_in y ≡ units_at (plain y) = units-of-value binary32 y (signed y held).minus (units_at (plain y)) v in
        beyond-is t m g (subst (λ (k : ℕ). full_turn < k) (sym n) (units-over (plain y) lo))
        ∙ ap (λ (k : ℕ). round binary32 t (k % full_turn) (2 ^ 149)) n
        ∙ ap (λ (b : Bool). round binary32 b (units_at (plain y) % full_turn) (2 ^ 149)) (v.0 ∙ e)
