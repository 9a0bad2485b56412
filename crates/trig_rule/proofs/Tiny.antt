-- Tiny angles: below 2 ^ -12 in size the sine is the angle itself, subnormals and the zero's sign included, and the cosine is 1. Assumes nothing.
use mathlib.Core.Path.{◌≡◌, refl, sym, ap, ◌∙◌, subst}
use Prim.Native.Nat.{ℕ, ◌*◌, ◌^◌, ◌≤◌, ◌<◌}
use native.Mathlib.Nat.{le_trans, le_of_eq, le_of_lt, lt_of_lt_of_le, lt_of_not-le, not-le_of_lt, mul_assoc, mul_comm, one-mul, mul-le-mul_right, mul-lt-mul_of_pos_right}
use native.Mathlib.Decide.{dec_le}
use mathlib.Core.Bool.{Bool, true, false}
use lib.Dec.{T, ltb→lt, lit≤}
use lib.Pow.{pow_pos}
use lib.IntN.{ℤ, negsuc}
use lib.Ieee.{Float, nan, inf, fin, up, down, below, binary32, fits, of_bits, lt}
use lib.Ieee.Bits.{is_true}
use Rattle.trig_rule.specs.Rule.{in_the_reach, Is}
use Rattle.trig_rule.specs.Steps.{tiny_bits, plain, sine_of, cosine_of}
use Rattle.trig_rule.proofs.Reach.{Sized, sized, size-reach}
use Rattle.trig_rule.proofs.Ruled.{sine-tiny, cosine-tiny}

-- 2 ^ -12 and its opposite
abbrev pub least : Float
least = of_bits binary32 tiny_bits

abbrev pub minus_least : Float
minus_least = of_bits binary32 3112173568

least-is : of_bits binary32 tiny_bits ≡ fin false 1 (negsuc 11)
unfolding of_bits
least-is = refl

minus-least-is : of_bits binary32 3112173568 ≡ fin true 1 (negsuc 11)
unfolding of_bits
minus-least-is = refl

-- ±a lies between -b and b
between : (s : Bool) (a b : ℕ) → T (below true b s a) → T (below s a false b) → a < b
between false a b t u = ltb→lt a b u
between true a b t u = ltb→lt a b t

in-units : (a d n : ℕ) → a * 2 ^ 149 ≡ n * d → a * 2 ^ 12 < 1 * d → n < 2 ^ 137
in-units a d n e h = lt_of_not-le (λ (k : 2 ^ 137 ≤ n). not-le_of_lt h (under k))
  where
    moved : a * 2 ^ 12 * 2 ^ 137 ≡ n * d
    moved = mul_assoc a (2 ^ 12) (2 ^ 137) ∙ e

    under : 2 ^ 137 ≤ n → 1 * d ≤ a * 2 ^ 12
    under k = decide (dec_le (1 * d) (a * 2 ^ 12))
      where
        decide : Dec (1 * d ≤ a * 2 ^ 12) → 1 * d ≤ a * 2 ^ 12
        decide (yes l) = l
        decide (no f) =
            absurd (not-le_of_lt (lt_of_lt_of_le (mul-lt-mul_of_pos_right (lt_of_not-le f) (pow_pos 137)) (le_of_eq (ap (λ (m : ℕ). m * 2 ^ 137) (one-mul d) ∙ mul_comm d (2 ^ 137)))) (le_trans (mul-le-mul_right d k) (le_of_eq (sym moved))))

tiny-size : (x : Float) (s : Bool) (n : ℕ) → Is x s n → T (lt (fin true 1 (negsuc 11)) x) → T (lt x (fin false 1 (negsuc 11))) → n < 2 ^ 137
unfolding lt
tiny-size nan s n v t u = absurd v
tiny-size (inf r) s n v t u = absurd v
tiny-size (fin r m e) s n v t u = in-units (m * up e) (down e) n v.1 (between r (m * up e * 2 ^ 12) (1 * down e) t u)

tiny-finite : (x : Float) → T (lt (fin true 1 (negsuc 11)) x) → T (lt x (fin false 1 (negsuc 11))) → (s : Bool) × (m : ℕ) × (e : ℤ) × (x ≡ fin s m e)
unfolding lt
tiny-finite nan t u = absurd t
tiny-finite (inf true) t u = absurd t
tiny-finite (inf false) t u = absurd u
tiny-finite (fin s m e) t u = (s, m, e, refl)

module _ (x : Float) (f : T (fits binary32 x)) (t : T (lt minus_least x)) (u : T (lt x least)) where
  t' : T (lt (fin true 1 (negsuc 11)) x)
  t' = subst (λ (y : Float). T (lt y x)) minus-least-is t

  u' : T (lt x (fin false 1 (negsuc 11)))
  u' = subst (λ (y : Float). T (lt x y)) least-is u

  size : Sized x
  size = let c = tiny-finite x t' u' in sized x c.0 c.1 c.2 f c.3

  under : size.units < 2 ^ 137
  under = tiny-size x size.minus size.units size.value t' u'

  in_reach : in_the_reach x ≡ true
  in_reach = is_true (in_the_reach x) (size-reach x size.minus size.units size.value (le_trans (le_of_lt under) (lit≤ tt)))

  bits : plain x < tiny_bits
  bits = lt_of_not-le (λ (k : tiny_bits ≤ plain x). not-le_of_lt under (size.from-tiny k))

  pub sine-of-tiny : sine_of x ≡ x
  sine-of-tiny = sine-tiny x in_reach bits

  pub cosine-of-tiny : cosine_of x ≡ of_bits binary32 1065353216
  cosine-of-tiny = cosine-tiny x in_reach bits
