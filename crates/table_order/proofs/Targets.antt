-- The lookup of a target, as document 01 has it, is a way that never steps back; and the target of a progress grows with it. Assumes nothing.
use mathlib.Core.Path.{◌≡◌, refl}
use Prim.Native.Nat.{ℕ, zero, suc, ◌*◌, ◌≤◌}
use native.Mathlib.Nat.{zero-lt-suc}
use mathlib.Core.Bool.{not}
use mathlib.Core.List.{List}
use lib.Dec.{T}
use lib.Ieee.{Float, binary32, mul, le}
use lib.Ieee.Fits.{mul-fits}
use lib.Ieee.Positive.{num, den}
use Rattle.floats.specs.Floats.{zero_f, one_f, epsilon_f, clamp01_of}
use Rattle.floats.proofs.Tests.{clashing}
use Rattle.floats.proofs.Order.{le-le-trans, le-self, lt→le}
use Rattle.floats.proofs.Fractions.{nonneg-real}
use Rattle.floats.proofs.Rounded.{mul-rounds}
use Rattle.floats.proofs.Monotone.{mul_mono}
use Rattle.floats.proofs.Held.{Held, rounds-under}
use Rattle.floats.proofs.Bounds.{mul-under}
use Rattle.floats.proofs.Constants.{zero-lt-epsilon}
use Rattle.floats.proofs.Clamping.{clamp01-at-most, clamp01-nonneg, at_most_one}
use Rattle.table.specs.Lookup.{at, last_of, first_not_below, target_of, share_of, raw_in_part, raw_at}
use Rattle.table.proofs.Lengths.{start-at-most, total_at_most}
use Rattle.table_order.specs.Stated.{F32Table}
use Rattle.table_order.proofs.Steady.{SharesOf, Shares, by_way, sound-of, way-at-least, way-at-most, never_back}
use Rattle.table_order.proofs.Division.{quotient_of, first-picks, division-shares, division-joins}

-- ---- the target of a progress is held, and grows with the clamped progress
module _ (total : Float) (H : Held binary32 total) where
  pub target-held : (p : Float) → Held binary32 (target_of total p)
  unfolding target_of
  target-held p =
      let t = clamp01_of p in
      record {
        fit = mul-fits binary32 total t;
        nn =
            rounds-under binary32 (mul binary32 total t) total (num total * num t) (den total * den t) (mul-rounds binary32 total t H.nn (clamp01-nonneg p)) H.nn
            (mul-under binary32 total t H (clamp01-nonneg p) (at_most_one t (clamp01-nonneg p) (clamp01-at-most p)));
      }

  pub target-mono : (p q : Float) → T (le (clamp01_of p) (clamp01_of q)) → T (le (target_of total p) (target_of total q))
  unfolding target_of
  target-mono p q h = mul_mono binary32 total total (clamp01_of p) (clamp01_of q) H.nn H.nn (clamp01-nonneg p) (clamp01-nonneg q) (le-self total (nonneg-real total H.nn)) h

  -- a share of the target is a share of the progress
  pub along-progress : {share : Float → Float → Float → Float} → Shares share → SharesOf (target_of total) clamp01_of (λ a b p. share a b (target_of total p))
  along-progress S = record {
    low = λ a b p B. S.low a b (target_of total p) B;
    high = λ a b p B. S.high a b (target_of total p) B;
    grows = λ a b p q B C h. S.grows a b (target_of total p) (target_of total q) B C (target-mono p q h);
  }

-- ---- a table longer than 2 ^ -23 has a part: with one entry its total would be 0
pub long-parts : {xs : List Float} {total : Float} → F32Table xs total → T (not (le total epsilon_f)) → 1 ≤ last_of xs
long-parts {xs} {total} f long = go (last_of xs) (total_at_most (sound-of f))
  where
    go : (n : ℕ) → T (le total (at xs n)) → 1 ≤ n
    go zero h =
        absurd (clashing (le total epsilon_f) (le-le-trans total (at xs 0) epsilon_f h (le-le-trans (at xs 0) zero_f epsilon_f (start-at-most (sound-of f)) (lt→le zero_f epsilon_f zero-lt-epsilon))) long)
    go (suc n) h = zero-lt-suc n

-- ---- a table with a part: at least two entries
module _ {xs : List Float} {total : Float} (f : F32Table xs total) (some : 1 ≤ last_of xs) where
  -- the lookup is this way, by its definition
  is-way : (t : Float) → raw_at xs total t ≡ by_way (λ t. first_not_below t xs) share_of (quotient_of (last_of xs)) xs total t
  unfolding raw_at raw_in_part
  is-way t = refl

  pub raw-at-least : (t : Float) → Held binary32 t → T (le zero_f (raw_at xs total t))
  raw-at-least t H = rw (is-way t) (way-at-least f (first-picks f) division-shares (division-joins (last_of xs) some f.table.counted) t H)

  pub raw-at-most : (t : Float) → Held binary32 t → T (le (raw_at xs total t) one_f)
  raw-at-most t H = rw (is-way t) (way-at-most f (first-picks f) division-shares (division-joins (last_of xs) some f.table.counted) t H)

  pub raw-at-mono : (t u : Float) → Held binary32 t → Held binary32 u → T (le t u) → T (le (raw_at xs total t) (raw_at xs total u))
  raw-at-mono t u H K h = rw (is-way t, is-way u) (never_back f (first-picks f) division-shares (division-joins (last_of xs) some f.table.counted) t u H K h h)
