-- The comparison made non-strict: the first running length above the target. The entry picked so stands with the one before to both sides of the target, though the other way about, and is
-- picked in order. So a lookup with it does not step back either, in a table or over a path's segments. Assumes nothing.
use mathlib.Core.Path.{◌≡◌, subst}
use mathlib.Core.Logic.{inl, inr}
use Prim.Native.Nat.{ℕ, zero, suc, ◌-◌, ◌≤◌, ◌<◌}
use native.Mathlib.Nat.{le_of_suc-le-suc, not-suc-le-zero, zero-lt-suc}
use native.Mathlib.Omega.{arith}
use mathlib.Core.Bool.{Bool, true, false, cond, not}
use mathlib.Core.List.{List, [], ◌∷◌}
use lib.Dec.{T, ltb, ltb→lt, nltb→le}
use lib.ListN.{length}
use lib.Ieee.{Float, lt, le, eq}
use Rattle.floats.specs.Floats.{zero_f, clamp01_of}
use Rattle.floats.proofs.Tests.{decide, clashing, cond_yes}
use Rattle.floats.proofs.Order.{le-le-trans, le_lt_trans, lt-le-trans, lt→le, lt→not-le, not-le→lt, lt-real-r}
use Rattle.floats.proofs.Fractions.{nonneg-real}
use Rattle.table.specs.Lookup.{at, share_of}
use Rattle.table.specs.Spots.{before, path_total}
use Rattle.table.proofs.Lengths.{Sound, start-at-most, entry-nonneg, total_at_most, path-sound}
use Rattle.table_order.specs.Stated.{F32Table, F32Path}
use Rattle.table_order.proofs.Steady.{Picks, sound-of}
use Rattle.table_order.proofs.Division.{division-shares}
use Rattle.table_order.proofs.Spots.{PicksSegment, spot_way, Forward, spot-way-order}

-- its index, or how many lengths there are where none is above
unfoldable pub first_above : Float → List Float → ℕ
first_above target [] = 0
first_above target (own ∷ lengths) = cond (le own target) (suc (first_above target lengths)) 0

record IsFirst (xs : List Float) (t : Float) (r : ℕ) : Type 0 where
  upto : (k : ℕ) → k < r → T (le (at xs k) t)
  found : T (not (le (at xs r) t))

above-is : (xs : List Float) (t : Float) → IsFirst xs t (first_above t xs)
unfolding first_above
above-is [] t = record { upto = λ k l. absurd (not-suc-le-zero l); found = unfold le lt eq in tt }
above-is (x ∷ xs) t = go (le x t) (λ h. h) (λ h. h) (above-is xs t)
  where
    go : (b : Bool) → (T b → T (le x t)) → (T (not b) → T (not (le x t))) → IsFirst xs t (first_above t xs) → IsFirst (x ∷ xs) t (cond b (suc (first_above t xs)) 0)
    go false passed failed rest = record { upto = λ k l. absurd (not-suc-le-zero l); found = failed tt }
    go true passed failed rest = record { upto = later; found = rest.found }
      where
        later : (k : ℕ) → k < suc (first_above t xs) → T (le (at (x ∷ xs) k) t)
        later zero l = passed tt
        later (suc k) l = rest.upto k (le_of_suc-le-suc l)

above-mono : (xs : List Float) (t u : Float) → T (le t u) → first_above t xs ≤ first_above u xs
above-mono xs t u h =
    let i = first_above t xs in
    let j = first_above u xs in
    elim (decide (ltb j i)) [
      | inl l ↦ absurd (clashing (le (at xs j) u) (le-le-trans (at xs j) t u ((above-is xs t).upto j (ltb→lt j i l)) h) (above-is xs u).found)
      | inr k ↦ nltb→le j i k
    ]

-- ---- the enclosure that is left: the one before is not above the target, its own is. Where a length is the target, it is the one before; with the other comparison it is its own.
pub record Astride (n : ℕ) (xs : List Float) (target : Float) (i : ℕ) : Type 0 where
  pub from : 1 ≤ i
  pub upto : i ≤ n
  pub lower : T (le (at xs (i - 1)) target)
  pub upper : T (lt target (at xs i))

pub astride : {n : ℕ} {xs : List Float} {total : Float} → Sound n xs total → (t : Float) → T (lt zero_f t) → T (lt t total) → Astride n xs t (first_above t xs)
astride {n} {xs} {total} sound t a b =
    let i = first_above t xs in
    record {
      from = from i (above-is xs t).found;
      upto = upto;
      lower = (above-is xs t).upto (i - 1) (before-own i (from i (above-is xs t).found));
      upper = not-le→lt (at xs i) t (nonneg-real (at xs i) (entry-nonneg sound i upto)) (lt-real-r zero_f t a) (above-is xs t).found;
    }
  where
    before-own : (i : ℕ) → 1 ≤ i → i - 1 < i
    before-own i h = omega arith

    from : (i : ℕ) → T (not (le (at xs i) t)) → 1 ≤ i
    from zero h = absurd (clashing (le (at xs 0) t) (lt→le (at xs 0) t (le_lt_trans (at xs 0) zero_f t (start-at-most sound) a)) h)
    from (suc i) h = zero-lt-suc i

    upto : first_above t xs ≤ n
    upto = elim (decide (ltb n (first_above t xs))) [
      | inl l ↦ absurd (clashing (le (at xs n) t) ((above-is xs t).upto n (ltb→lt n (first_above t xs) l)) (lt→not-le (at xs n) t (lt-le-trans t total (at xs n) b (total_at_most sound))))
      | inr k ↦ nltb→le n (first_above t xs) k
    ]

-- ---- in a table
pub above-picks : {xs : List Float} {total : Float} → F32Table xs total → Picks xs total (λ t. first_above t xs)
above-picks {xs} {total} f = record {
  from = λ t a b. (astride (sound-of f) t a b).from;
  upto = λ t a b. (astride (sound-of f) t a b).upto;
  lower = λ t a b. (astride (sound-of f) t a b).lower;
  upper = λ t a b. lt→le t (at xs (first_above t xs)) (astride (sound-of f) t a b).upper;
  grows = above-mono xs;
}

-- ---- over a path's running lengths, with the 0 before the first
above-after-zero : (xs : List Float) (t : Float) → T (lt zero_f t) → first_above t (zero_f ∷ xs) ≡ suc (first_above t xs)
unfolding first_above
above-after-zero xs t a = cond_yes (le zero_f t) (suc (first_above t xs)) 0 (lt→le zero_f t a)

pub above-segments : {xs : List Float} → F32Path xs → PicksSegment xs (λ t. first_above t xs)
above-segments {xs} f = record {
  inside = λ t a b. (segment t a b).upto;
  lower = λ t a b. lower t (segment t a b).lower;
  upper = λ t a b. lt→le t (at xs (first_above t xs)) (segment t a b).upper;
  grows = above-mono xs;
}
  where
    segment : (t : Float) → T (lt zero_f t) → T (lt t (path_total xs)) → Astride (length xs) (zero_f ∷ xs) t (suc (first_above t xs))
    segment t a b = subst (λ (k : ℕ). Astride (length xs) (zero_f ∷ xs) t k) (above-after-zero xs t a) (astride (path-sound xs f.path.sound) t a b)

    lower : (t : Float) → T (le (at (zero_f ∷ xs) (suc (first_above t xs) - 1)) t) → T (le (before xs (first_above t xs)) t)
    lower t h = unfold before in (subst (λ (k : ℕ). T (le (at (zero_f ∷ xs) k) t)) (one_less (first_above t xs)) h)
      where
        one_less : (i : ℕ) → suc i - 1 ≡ i
        one_less i = omega arith

-- So the segment and the local progress never step back with it either: "the example 1, 1, 2" of Witnesses.antt shows what is lost.
pub above-path-order : {xs : List Float} → F32Path xs → (p q : Float) → T (le (clamp01_of p) (clamp01_of q))
    → Forward (spot_way (λ t. first_above t xs) share_of xs p) (spot_way (λ t. first_above t xs) share_of xs q)
above-path-order f = spot-way-order f (above-segments f) division-shares
