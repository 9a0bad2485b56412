-- The fusion that compilers make by themselves where they are let, a contraction: total * progress - lower, rounded once, in place of the rounded target less lower. The entry is still picked by
-- the rounded target, so the difference may fall below 0 or pass the span. Clamped, it is a share all the same, and meets demand 3 of a table (Kept.antt). Without the clamp it steps back by a
-- quarter of a part (Witnesses.antt). Assumes nothing.
use mathlib.Core.Path.{sym, subst}
use mathlib.Core.Logic.{◌⊎◌, inl, inr}
use Prim.Native.Nat.{ℕ, ◌-◌, ◌*◌, ◌≤◌}
use native.Mathlib.Nat.{le_trans, mul_comm, mul_assoc, mul_left_comm, mul-le-mul_right}
use native.Mathlib.Omega.{arith}
use lib.Dec.{T}
use lib.Ieee.{Float, binary32, div, neg, le}
use lib.Ieee.Positive.{num, den}
use Rattle.floats.specs.Floats.{zero_f, one_f, clamp_of, clamp01_of}
use Rattle.floats.specs.Kinds.{real, nonneg}
use Rattle.floats.proofs.Order.{le-self, le-real-l}
use Rattle.floats.proofs.Fractions.{nonneg-real}
use Rattle.floats.proofs.Rounded.{Rounds, div-rounds}
use Rattle.floats.proofs.Monotone.{div_mono}
use Rattle.floats.proofs.Held.{Held, held-above, rounds-under, rounds-real}
use Rattle.floats.proofs.Constants.{zero-le-one}
use Rattle.floats.proofs.Clamping.{clamp-at-least, clamp-at-most, clamp01-nonneg, clamp01-at-most, at_most_one}
use Rattle.table.specs.Lookup.{target_of}
use Rattle.table_order.proofs.Fused.{fused_of, fused-swap, over, scale, fused-sorted, fused-rise, div-low}
use Rattle.table_order.proofs.Steady.{Between, SharesOf}
use Rattle.table_order.proofs.Division.{span_of, span-nonneg, span-above}
use Rattle.table_order.proofs.Variants.{clamped-rise}

-- of a progress, from the entry a to b
abbrev pub contracted_share : Float → Float → Float → Float → Float
contracted_share total a b p = div binary32 (fused_of total (clamp01_of p) (neg a)) (span_of a b)

abbrev pub contracted_clamped : Float → Float → Float → Float → Float
contracted_clamped total a b p = clamp_of (contracted_share total a b p) zero_f one_f

module _ (total : Float) (H : Held binary32 total) where
  -- ---- the difference, before it is divided
  abbrev away : Float → Float → Float
  away a p = fused_of (clamp01_of p) total (neg a)

  -- where it is a rounded fraction, it is at most the total
  away-nonneg : (a p : Float) → Rounds binary32 (away a p) (over (clamp01_of p) total a) (scale (clamp01_of p) total a) → T (nonneg (away a p))
  away-nonneg a p r = rounds-under binary32 (away a p) total (over t total a) (scale t total a) r H.nn (held-above binary32 total (away a p) (over t total a) (scale t total a) H r under)
    where
      t : Float
      t = clamp01_of p

      product : ℕ
      product = num t * num total * den a

      part : num t ≤ den t
      part = at_most_one t (clamp01-nonneg p) (clamp01-at-most p)

      less : (m n : ℕ) → m - n ≤ m
      less m n = omega arith

      under : over t total a * den total ≤ num total * scale t total a
      under =
          le_trans (mul-le-mul_right (den total) (less product (num a * (den t * den total))))
          (simp (mul_assoc, mul_comm, mul_left_comm) (simp (mul_assoc, mul_comm, mul_left_comm) at (mul-le-mul_right (num total * den a * den total) part)))

  -- ---- the share
  module _ (a b p : Float) (B : Between a b (target_of total p)) where
    abbrev span : Float
    span = span_of a b

    swapped : (P : Float → Type 0) → P (div binary32 (away a p) span) → P (contracted_share total a b p)
    swapped P = subst (λ (z : Float). P (div binary32 z span)) (sym (fused-swap total (clamp01_of p) (neg a) H.nn (clamp01-nonneg p)))

    number : T (real (contracted_share total a b p))
    number =
        swapped (λ (z : Float). T (real z))
        (elim (fused-sorted (clamp01_of p) total a (clamp01-nonneg p) H.nn B.start) [
          | inl low ↦ le-real-l (div binary32 (away a p) span) zero_f (div-low (away a p) span low (span-nonneg a b (target_of total p) B) (span-above a b (target_of total p) B))
          | inr r ↦
              rounds-real binary32 (div binary32 (away a p) span) (num (away a p) * den span) (num span * den (away a p))
              (div-rounds binary32 (away a p) span (away-nonneg a p r) (span-nonneg a b (target_of total p) B) (span-above a b (target_of total p) B))
        ])

  rises : (a b p q : Float) → Between a b (target_of total p) → Between a b (target_of total q) → T (le (clamp01_of p) (clamp01_of q)) → T (le (contracted_clamped total a b p) (contracted_clamped total a b q))
  rises a b p q B C h =
      let N = span-nonneg a b (target_of total p) B in
      let O = span-above a b (target_of total p) B in
      clamped-rise (contracted_share total a b p) (contracted_share total a b q) (number a b q C)
      (swapped a b p B (λ (z : Float). T (le z zero_f) ⊎ T (le z (contracted_share total a b q)))
      (swapped a b q C (λ (w : Float). T (le (div binary32 (away a p) (span_of a b)) zero_f) ⊎ T (le (div binary32 (away a p) (span_of a b)) w))
      (elim (fused-rise (clamp01_of p) (clamp01_of q) total a (clamp01-nonneg p) (clamp01-nonneg q) H.nn B.start h) [
        | inl low ↦ inl (div-low (away a p) (span_of a b) low N O)
        | inr r ↦ inr (div_mono binary32 (away a p) (away a q) (span_of a b) (span_of a b) (away-nonneg a p r.first) (away-nonneg a q r.second) N N O O r.order (le-self (span_of a b) (nonneg-real (span_of a b) N)))
      ])))

  -- Clamped, it lies between 0 and 1 and grows with the progress: `way-along-order` and `spot-along-order` take it.
  pub contracted-shares : SharesOf (target_of total) clamp01_of (contracted_clamped total)
  contracted-shares = record {
    low = λ a b p B. clamp-at-least zero_f one_f zero-le-one (contracted_share total a b p) (number a b p B);
    high = λ a b p B. clamp-at-most zero_f one_f zero-le-one (contracted_share total a b p) (number a b p B);
    grows = rises;
  }
