-- The targets of the outputs never fall: neither the product nor the quotient turns the order, and an overflow leaves the infinity at the top. Assumes nothing.
use mathlib.Core.Path.{◌≡◌, sym, ◌∙◌, subst}
use mathlib.Core.Logic.{◌⊎◌, inl, inr}
use Prim.Native.Nat.{ℕ, ◌*◌, ◌≤◌, ◌<◌, ◌^◌}
use native.Mathlib.Nat.{le_trans, mul-one, mul-pos}
use native.Mathlib.Omega.{arith}
use mathlib.Core.Bool.{true, false}
use lib.Dec.{T, eqb}
use lib.IntN.{pos}
use lib.Ieee.{Float, nan, inf, fin, is_nan, binary32, mul, div, le, lt, eq, of_int, up}
use lib.Ieee.Positive.{num, den, den_pos}
use Rattle.floats.specs.Kinds.{real, nonneg}
use Rattle.floats.proofs.Order.{le-self}
use Rattle.floats.proofs.Fractions.{nonneg-real, zero-size}
use Rattle.floats.proofs.Whole.{whole-value, whole-mono}
use Rattle.floats.proofs.Monotone.{mul_mono, div_mono}
use Rattle.floats.proofs.Rounded.{mul-rounds, div-rounds}
use Rattle.floats.proofs.Held.{rounds-kind, rounds-real}
use Rattle.resample.specs.Spacing.{target_at}

-- a count as an f32
abbrev pub whole : ℕ → Float
whole n = of_int binary32 (pos n)

-- ---- the infinity above
pub top : (x : Float) → T (real x) → T (le x (inf false))
unfolding le lt eq is_nan
top nan h = absurd h
top (inf true) h = tt
top (inf false) h = tt
top (fin s m e) h = tt

pub not_top : (x : Float) → T (nonneg x) → T (le (inf false) x) → ⊥
unfolding le lt eq
not_top nan p h = p
not_top (inf s) p h = p
not_top (fin s m e) p h = h

none : (m u : ℕ) → T (eqb m 0) → 0 < m * u → ⊥
none m u z h = omega (arith, zero-size m u 1 z, mul-one (m * u))

-- divided by a number above 0 it stays
top-divided : (x w : Float) → T (real x) → T (nonneg w) → 0 < num w → T (le x (div binary32 (inf false) w))
unfolding div num
top-divided x nan h p above = absurd p
top-divided x (inf s) h p above = absurd p
top-divided x (fin false m e) h p above = top x h
top-divided x (fin true m e) h p above = absurd (none m (up e) p above)

top-real : (w : Float) → T (nonneg w) → T (real (div binary32 (inf false) w))
unfolding div is_nan
top-real nan p = absurd p
top-real (inf s) p = absurd p
top-real (fin s m e) p = tt

-- ---- a quotient by a count
module _ (last : ℕ) (some : 0 < last) (few : last ≤ 4095) where
  counted : last ≤ 2 ^ 24
  counted = le_trans few (omega arith)

  pub last-nonneg : T (nonneg (whole last))
  last-nonneg = (whole-value binary32 last counted).0

  pub last-above : 0 < num (whole last)
  last-above = subst (λ (k : ℕ). 0 < k) (sym (sym (mul-one (num (whole last))) ∙ (whole-value binary32 last counted).1)) (mul-pos some (den_pos (whole last)))

  quotient-real : (p : Float) → T (nonneg p) → T (real (div binary32 p (whole last)))
  quotient-real p h = rounds-real binary32 (div binary32 p (whole last)) (num p * den (whole last)) (num (whole last) * den p) (div-rounds binary32 p (whole last) h last-nonneg last-above)

  pub quotient-mono : (p q : Float) → T (nonneg p) ⊎ (p ≡ inf false) → T (nonneg q) ⊎ (q ≡ inf false) → T (le p q) → T (le (div binary32 p (whole last)) (div binary32 q (whole last)))
  quotient-mono p q (inl a) (inl b) h =
      div_mono binary32 p q (whole last) (whole last) a b last-nonneg last-nonneg last-above last-above h (le-self (whole last) (nonneg-real (whole last) last-nonneg))
  quotient-mono p q (inl a) (inr b) h = rw b (top-divided (div binary32 p (whole last)) (whole last) (quotient-real p a) last-nonneg last-above)
  quotient-mono p q (inr a) (inl b) h = absurd (not_top q b (subst (λ (x : Float). T (le x q)) a h))
  quotient-mono p q (inr a) (inr b) h = rw (a, b) (top-divided (div binary32 (inf false) (whole last)) (whole last) (top-real (whole last) last-nonneg) last-nonneg last-above)

  -- a later output's target is not below an earlier one's
  pub target-mono : (total : Float) (i j : ℕ) → T (nonneg total) → i ≤ j → j ≤ last → T (le (target_at total last i) (target_at total last j))
  unfolding target_at
  target-mono total i j nn h l =
      let I = (whole-value binary32 i (le_trans h (le_trans l counted))).0 in
      let J = (whole-value binary32 j (le_trans l counted)).0 in
      quotient-mono (mul binary32 total (whole i)) (mul binary32 total (whole j)) (kind i I) (kind j J)
      (mul_mono binary32 total total (whole i) (whole j) nn nn I J (le-self total (nonneg-real total nn)) (whole-mono binary32 i j h))
    where
      kind : (k : ℕ) → T (nonneg (whole k)) → T (nonneg (mul binary32 total (whole k))) ⊎ (mul binary32 total (whole k) ≡ inf false)
      kind k K = rounds-kind binary32 (mul binary32 total (whole k)) (num total * num (whole k)) (den total * den (whole k)) (mul-rounds binary32 total (whole k) nn K)
