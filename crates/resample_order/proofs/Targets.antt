-- What the target of an output is: a number above 0, or, where total · i is too large for an f32, infinite. Assumes nothing.
use mathlib.Core.Path.{◌≡◌, refl, ap, ◌∙◌}
use mathlib.Core.Logic.{◌⊎◌, inl, inr}
use Prim.Native.Nat.{ℕ, ◌*◌, ◌≤◌, ◌<◌, ◌^◌}
use native.Mathlib.Nat.{le_trans, mul-one}
use native.Mathlib.Omega.{arith}
use mathlib.Core.Bool.{true, false}
use lib.Dec.{T, eqb}
use lib.Ieee.{Float, nan, inf, fin, binary32, mul, div, lt, le, of_int, of_bits, up, round}
use lib.Ieee.Fits.{div-fits}
use lib.Ieee.Positive.{num, den}
use Rattle.floats.specs.Floats.{zero_f, epsilon_f}
use Rattle.floats.specs.Kinds.{nonneg}
use Rattle.floats.proofs.Order.{lt-le-trans, le-le-trans, le-self, lt→le}
use Rattle.floats.proofs.Fractions.{nonneg-real, zero-size}
use Rattle.floats.proofs.Whole.{whole-value, whole-mono}
use Rattle.floats.proofs.Monotone.{mul_mono, div_mono}
use Rattle.floats.proofs.Rounded.{mul-rounds, div-rounds}
use Rattle.floats.proofs.Held.{Held, rounds-kind}
use Rattle.floats.proofs.Constants.{epsilon-held}
use Rattle.resample.specs.Spacing.{target_at}
use Rattle.resample.proofs.Targets.{whole, quotient-mono, last-nonneg, last-above}

-- a number that is not below 0 and an f32, or the infinity above
abbrev pub Reaches : Float → Type 0
Reaches t = Held binary32 t ⊎ (t ≡ inf false)

-- ---- the infinity divided by a number above 0 stays
none : (m u : ℕ) → T (eqb m 0) → 0 < m * u → ⊥
none m u z h = omega (arith, zero-size m u 1 z, mul-one (m * u))

pub infinite-divided : (w : Float) → T (nonneg w) → 0 < num w → div binary32 (inf false) w ≡ inf false
unfolding div
infinite-divided nan p above = absurd p
infinite-divided (inf s) p above = absurd p
infinite-divided (fin false m e) p above = refl
infinite-divided (fin true m e) p above = absurd (none m (up e) p above)

-- ---- the least target: 2^-23 at the first of 4,096 outputs
abbrev least : Float
least = mul binary32 epsilon_f (whole 1)

least-nonneg : T (nonneg least)
unfolding mul epsilon_f of_bits of_int round
least-nonneg = tt

least_above : T (lt zero_f (div binary32 least (whole 4096)))
unfolding div mul epsilon_f zero_f of_bits of_int round lt
least_above = tt

most-above : 0 < num (whole 4096)
unfolding of_int round
most-above = omega arith

module _ (last : ℕ) (some : 0 < last) (few : last ≤ 4095) where
  counted : last ≤ 2 ^ 24
  counted = le_trans few (omega arith)

  abbrev product_of : Float → ℕ → Float
  product_of total i = mul binary32 total (whole i)

  product-kind : (total : Float) (i : ℕ) → T (nonneg total) → i ≤ last → T (nonneg (product_of total i)) ⊎ (product_of total i ≡ inf false)
  product-kind total i nn h =
      let I = (whole-value binary32 i (le_trans h counted)).0 in
      rounds-kind binary32 (product_of total i) (num total * num (whole i)) (den total * den (whole i)) (mul-rounds binary32 total (whole i) nn I)

  pub target-reaches : (total : Float) (i : ℕ) → T (nonneg total) → i ≤ last → Reaches (target_at total last i)
  unfolding target_at
  target-reaches total i nn h = go (product-kind total i nn h)
    where
      N : T (nonneg (whole last))
      N = last-nonneg last some few

      above : 0 < num (whole last)
      above = last-above last some few

      quotient : Float
      quotient = div binary32 (product_of total i) (whole last)

      held : T (nonneg quotient) ⊎ (quotient ≡ inf false) → Reaches quotient
      held (inl a) = inl (record { fit = div-fits binary32 (product_of total i) (whole last); nn = a })
      held (inr e) = inr e

      go : T (nonneg (product_of total i)) ⊎ (product_of total i ≡ inf false) → Reaches quotient
      go (inl a) = held (rounds-kind binary32 quotient (num (product_of total i) * den (whole last)) (num (whole last) * den (product_of total i)) (div-rounds binary32 (product_of total i) (whole last) a N above))
      go (inr e) = inr (ap (λ (x : Float). div binary32 x (whole last)) e ∙ infinite-divided (whole last) N above)

  -- past the first output it is above 0
  pub target-above : (total : Float) (i : ℕ) → T (nonneg total) → T (lt epsilon_f total) → 1 ≤ i → i ≤ last → T (lt zero_f (target_at total last i))
  unfolding target_at
  target-above total i nn long from h =
      let I = (whole-value binary32 i (le_trans h counted)).0 in
      let O = (whole-value binary32 1 (omega arith)).0 in
      let N = last-nonneg last some few in
      let above = last-above last some few in
      let M = (whole-value binary32 4096 (omega arith)).0 in
      let grown : T (le least (product_of total i)) = mul_mono binary32 epsilon_f total (whole 1) (whole i) epsilon-held.nn nn O I (lt→le epsilon_f total long) (whole-mono binary32 1 i from) in
      lt-le-trans zero_f (div binary32 least (whole 4096)) (div binary32 (product_of total i) (whole last)) least_above
      (le-le-trans (div binary32 least (whole 4096)) (div binary32 least (whole last)) (div binary32 (product_of total i) (whole last))
      (div_mono binary32 least least (whole 4096) (whole last) least-nonneg least-nonneg M N most-above above (le-self least (nonneg-real least least-nonneg)) (whole-mono binary32 last 4096 (omega arith)))
      (quotient-mono last some few least (product_of total i) (inl least-nonneg) (product-kind total i nn h) grown))
