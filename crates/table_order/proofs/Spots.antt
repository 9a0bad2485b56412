-- The spot of a progress on a path, for any way to pick the segment and to work out the share: a progress that counts for no less lies in a later segment, or in the same one with a share
-- that is no smaller. Assumes nothing.
use mathlib.Core.Path.{◌≡◌, refl, sym, subst}
use mathlib.Core.Logic.{inl, inr}
use Prim.Native.Nat.{ℕ, suc, zero-le, ◌≤◌, ◌<◌}
use native.Mathlib.Omega.{arith}
use mathlib.Core.Bool.{Bool, true, false, not, cond}
use mathlib.Core.List.{List, ◌∷◌}
use lib.Dec.{T, ltb, ltb→lt, nltb→le}
use lib.ListN.{length}
use lib.Ieee.{Float, binary32, lt, le, fits}
use Rattle.floats.specs.Floats.{zero_f, one_f, epsilon_f, clamp01_of}
use Rattle.floats.specs.Kinds.{nonneg}
use Rattle.floats.proofs.Tests.{decide, clashing}
use Rattle.floats.proofs.Order.{le-le-trans, le-self, lt→le, not-le→lt}
use Rattle.floats.proofs.Fractions.{nonneg-real}
use Rattle.floats.proofs.Held.{Held}
use Rattle.floats.proofs.Constants.{zero_held, one-held, zero-le-one}
use Rattle.table.specs.declared.tables.Spot.{Spot}
use Rattle.table.specs.Lookup.{at, last_of, first_not_below, target_of}
use Rattle.table.specs.Spots.{before, path_total, spotted}
use Rattle.table.proofs.Lengths.{Sound, path-sound, entry-nonneg, total-nonneg}
use Rattle.table.proofs.Before.{path-total}
use Rattle.table.proofs.Enclosure.{path-encloses}
use Rattle.table_order.specs.Stated.{F32Path, NoStepBack}
use Rattle.table_order.proofs.Steady.{Between, SharesOf, Shares}
use Rattle.table_order.proofs.Division.{first-mono}
use Rattle.table_order.proofs.Targets.{target-held, target-mono, along-progress}

-- a segment no earlier, and within one segment a share no smaller
pub no-step-back : (i j : ℕ) (x y : Float) → i ≤ j → (i ≡ j → T (le x y)) → NoStepBack i x j y
no-step-back i j x y h k = elim (decide (ltb i j)) [ inl l ↦ inl (ltb→lt i j l) | inr g ↦ inr (same i j h (nltb→le i j g), k (same i j h (nltb→le i j g))) ]
  where
    same : (i j : ℕ) → i ≤ j → j ≤ i → i ≡ j
    same i j h k = omega arith

-- ---- the parts of a way on a path

-- the segment picked for a target above 0 and below the total: the running lengths before and at it stand to both sides, and a larger target picks no earlier one
pub record PicksSegment (xs : List Float) (pick : Float → ℕ) : Type 0 where
  pub inside : (t : Float) → T (lt zero_f t) → T (lt t (path_total xs)) → pick t < length xs
  pub lower : (t : Float) → T (lt zero_f t) → T (lt t (path_total xs)) → T (le (before xs (pick t)) t)
  pub upper : (t : Float) → T (lt zero_f t) → T (lt t (path_total xs)) → T (le t (at xs (pick t)))
  pub grows : (t u : Float) → T (le t u) → pick t ≤ pick u

-- the spot of what is read, as Steady.antt has it for a table
abbrev pub spot_by : (Float → Float) → (Float → ℕ) → (Float → Float → Float → Float) → List Float → Float → Spot
spot_by target pick share xs s =
    let i = pick (target s) in
    cond (le (target s) zero_f) (spotted 0 zero_f) (cond (le (path_total xs) (target s)) (spotted (last_of xs) one_f) (spotted i (share (before xs i) (at xs i) s)))

-- the whole lookup, from a progress: with a share that reads the progress, or one that reads the target
abbrev pub spot_along : (Float → ℕ) → (Float → Float → Float → Float) → List Float → Float → Spot
spot_along pick share xs p = cond (le (path_total xs) epsilon_f) (spotted (last_of xs) one_f) (spot_by (target_of (path_total xs)) pick share xs p)

abbrev pub spot_way : (Float → ℕ) → (Float → Float → Float → Float) → List Float → Float → Spot
spot_way pick share xs p = spot_along pick (λ a b p. share a b (target_of (path_total xs) p)) xs p

abbrev pub Forward : Spot → Spot → Type 0
Forward a b = NoStepBack a.segment a.progress.value b.segment b.progress.value

module _ {xs : List Float} (f : F32Path xs) where
  -- ---- the ends of the segment i
  sound-of : Sound (length xs) (zero_f ∷ xs) (path_total xs)
  sound-of = path-sound xs f.path.sound

  start-nonneg : (i : ℕ) → i < length xs → T (nonneg (before xs i))
  unfolding before
  start-nonneg i h = entry-nonneg sound-of i (omega arith)

  end-held : (i : ℕ) → i < length xs → Held binary32 (at xs i)
  end-held i h = record { fit = f.values i; nn = entry-nonneg sound-of (suc i) h }

  pub path-total-held : Held binary32 (path_total xs)
  path-total-held = record { fit = subst (λ (x : Float). T (fits binary32 x)) (path-total xs f.path.some) (f.values (last_of xs)); nn = total-nonneg sound-of }

  -- the first running length that is not below the target
  pub first-segments : PicksSegment xs (λ t. first_not_below t xs)
  first-segments = record {
    inside = λ t a b. (path-encloses xs f.path.sound t a b).inside;
    lower = λ t a b. lt→le (before xs (first_not_below t xs)) t (path-encloses xs f.path.sound t a b).lower;
    upper = λ t a b. (path-encloses xs f.path.sound t a b).upper;
    grows = first-mono xs;
  }

  module _ {pick : Float → ℕ} (P : PicksSegment xs pick) {target count : Float → Float} {share : Float → Float → Float → Float} (S : SharesOf target count share) where
    abbrev segment_of : Float → ℕ
    segment_of s = pick (target s)

    abbrev share_in : Float → ℕ → Float
    share_in s i = share (before xs i) (at xs i) s

    -- ---- a target between 0 and the total
    module _ (s : Float) (H : Held binary32 (target s)) (past : T (not (le (target s) zero_f))) (short : T (not (le (path_total xs) (target s)))) where
      above : T (lt zero_f (target s))
      above = not-le→lt (target s) zero_f (nonneg-real (target s) H.nn) (nonneg-real zero_f zero_held.nn) past

      below : T (lt (target s) (path_total xs))
      below = not-le→lt (path_total xs) (target s) (nonneg-real (path_total xs) path-total-held.nn) (nonneg-real (target s) H.nn) short

      inside : segment_of s < length xs
      inside = P.inside (target s) above below

      here : Between (before xs (segment_of s)) (at xs (segment_of s)) (target s)
      here = record { start = start-nonneg (segment_of s) inside; end = end-held (segment_of s) inside; target = H; from = P.lower (target s) above below; upto = P.upper (target s) above below }

      own-at-least : T (le zero_f (share_in s (segment_of s)))
      own-at-least = S.low (before xs (segment_of s)) (at xs (segment_of s)) s here

      own-at-most : T (le (share_in s (segment_of s)) one_f)
      own-at-most = S.high (before xs (segment_of s)) (at xs (segment_of s)) s here

    -- ---- any two targets
    pub spot-forward : (s r : Float) → Held binary32 (target s) → Held binary32 (target r) → T (le (target s) (target r)) → T (le (count s) (count r))
        → Forward (spot_by target pick share xs s) (spot_by target pick share xs r)
    spot-forward s r H K h g = go (le t zero_f) (le (path_total xs) t) (le u zero_f) (le (path_total xs) u) (λ n. n) (λ n. n) (λ n. n) (λ n. n) (λ n. n) (λ n. n)
      where
        t : Float
        t = target s

        u : Float
        u = target r

        i : ℕ
        i = segment_of s

        j : ℕ
        j = segment_of r

        some : 0 < length xs
        some = f.path.some

        within-last : (k : ℕ) → k < length xs → k ≤ last_of xs
        within-last k l = omega arith

        spot : Bool → Bool → Float → ℕ → Spot
        spot past ended s i = cond past (spotted 0 zero_f) (cond ended (spotted (last_of xs) one_f) (spotted i (share_in s i)))

        go : (a b c d : Bool) → (T (not a) → T (not (le t zero_f))) → (T b → T (le (path_total xs) t)) → (T (not b) → T (not (le (path_total xs) t))) → (T c → T (le u zero_f))
            → (T (not c) → T (not (le u zero_f))) → (T (not d) → T (not (le (path_total xs) u))) → Forward (spot a b s i) (spot c d r j)
        go true b true d t-above t-ended t-short u-none u-above u-short = inr (refl, le-self zero_f (nonneg-real zero_f zero_held.nn))
        go true b false true t-above t-ended t-short u-none u-above u-short = no-step-back 0 (last_of xs) zero_f one_f zero-le (λ e. zero-le-one)
        go true b false false t-above t-ended t-short u-none u-above u-short = no-step-back 0 j zero_f (share_in r j) zero-le (λ e. own-at-least r K (u-above tt) (u-short tt))
        go false b true d t-above t-ended t-short u-none u-above u-short = absurd (clashing (le t zero_f) (le-le-trans t u zero_f h (u-none tt)) (t-above tt))
        go false true false true t-above t-ended t-short u-none u-above u-short = inr (refl, le-self one_f (nonneg-real one_f one-held.nn))
        go false false false true t-above t-ended t-short u-none u-above u-short =
            no-step-back i (last_of xs) (share_in s i) one_f (within-last i (inside s H (t-above tt) (t-short tt))) (λ e. own-at-most s H (t-above tt) (t-short tt))
        go false true false false t-above t-ended t-short u-none u-above u-short = absurd (clashing (le (path_total xs) u) (le-le-trans (path_total xs) t u (t-ended tt) h) (u-short tt))
        go false false false false t-above t-ended t-short u-none u-above u-short =
            no-step-back i j (share_in s i) (share_in r j) (P.grows t u h)
            (λ e.
            let B : Between (before xs i) (at xs i) u = subst (λ (k : ℕ). Between (before xs k) (at xs k) u) (sym e) (here r K (u-above tt) (u-short tt)) in
            subst (λ (k : ℕ). T (le (share_in s i) (share_in r k))) e (S.grows (before xs i) (at xs i) s r (here s H (t-above tt) (t-short tt)) B g))

  -- ---- any two progresses: whatever picks and shares as above, the pair of segment and share never steps back
  pub spot-along-order : {pick : Float → ℕ} → PicksSegment xs pick → {share : Float → Float → Float → Float} → SharesOf (target_of (path_total xs)) clamp01_of share
      → (p q : Float) → T (le (clamp01_of p) (clamp01_of q)) → Forward (spot_along pick share xs p) (spot_along pick share xs q)
  spot-along-order {pick} P {share} S p q h = go (le (path_total xs) epsilon_f)
    where
      total : Float
      total = path_total xs

      H : Held binary32 (path_total xs)
      H = path-total-held

      go : (b : Bool) → Forward (cond b (spotted (last_of xs) one_f) (spot_by (target_of total) pick share xs p)) (cond b (spotted (last_of xs) one_f) (spot_by (target_of total) pick share xs q))
      go true = inr (refl, le-self one_f (nonneg-real one_f one-held.nn))
      go false = spot-forward P S p q (target-held total H p) (target-held total H q) (target-mono total H p q h) h

  pub spot-way-order : {pick : Float → ℕ} → PicksSegment xs pick → {share : Float → Float → Float → Float} → Shares share
      → (p q : Float) → T (le (clamp01_of p) (clamp01_of q)) → Forward (spot_way pick share xs p) (spot_way pick share xs q)
  spot-way-order P S = spot-along-order P (along-progress (path_total xs) path-total-held S)
