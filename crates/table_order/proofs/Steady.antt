-- Why a lookup does not step back, for any way to look up. A way picks an entry for a target, works out the share of the way from the entry before to it, and joins the number of the
-- entry before and the share to a parameter. Three things suffice: the picked entries stand to both sides of the target and are picked in order; the share lies between 0 and 1 and grows
-- with the target; the parameter grows with the share, and each part ends no later than the next one starts: the parts meet. Assumes nothing.
use mathlib.Core.Path.{◌≡◌, sym, ap, subst}
use mathlib.Core.Logic.{inl, inr}
use Prim.Native.Nat.{ℕ, zero, suc, ◌+◌, ◌-◌, ◌≤◌, ◌<◌}
use native.Mathlib.Nat.{add-zero, add-suc}
use native.Mathlib.Omega.{arith}
use mathlib.Core.Bool.{Bool, true, false, not, cond}
use mathlib.Core.List.{List}
use lib.Dec.{T, ltb, ltb→lt, nltb→le}
use lib.Ieee.{Float, binary32, lt, le}
use Rattle.floats.specs.Floats.{zero_f, one_f}
use Rattle.floats.specs.Kinds.{nonneg}
use Rattle.floats.proofs.Tests.{decide, clashing}
use Rattle.floats.proofs.Order.{le-le-trans, le-self, not-le→lt}
use Rattle.floats.proofs.Fractions.{nonneg-real}
use Rattle.floats.proofs.Held.{Held}
use Rattle.floats.proofs.Constants.{zero_held, one-held, zero-le-one}
use Rattle.table.specs.Lookup.{at, last_of}
use Rattle.table.proofs.Lengths.{Sound, table-sound, entry-nonneg, total-nonneg}
use Rattle.table_order.specs.Stated.{F32Table}
pub use Rattle.table_order.proofs.Joins.{Part, Joins}

-- ---- the three parts of a way

-- the entry picked for a target above 0 and below the total: it and the one before stand to both sides, and a larger target picks no earlier one
pub record Picks (xs : List Float) (total : Float) (pick : Float → ℕ) : Type 0 where
  pub from : (t : Float) → T (lt zero_f t) → T (lt t total) → 1 ≤ pick t
  pub upto : (t : Float) → T (lt zero_f t) → T (lt t total) → pick t ≤ last_of xs
  pub lower : (t : Float) → T (lt zero_f t) → T (lt t total) → T (le (at xs (pick t - 1)) t)
  pub upper : (t : Float) → T (lt zero_f t) → T (lt t total) → T (le t (at xs (pick t)))
  pub grows : (t u : Float) → T (le t u) → pick t ≤ pick u

-- what a share may count on: entries a and b in order, and a target between them
pub record Between (a b t : Float) : Type 0 where
  pub start : T (nonneg a)
  pub end : Held binary32 b
  pub target : Held binary32 t
  pub from : T (le a t)
  pub upto : T (le t b)

-- What a share reads, s, may be the target itself or say more: `target s` is the target of s, and `count s` what s counts for. The shares of a target read the target; the one that
-- compilers make (Contraction.antt) reads the progress, whose target is total * progress rounded.
pub record SharesOf (target count : Float → Float) (share : Float → Float → Float → Float) : Type 0 where
  pub low : (a b s : Float) → Between a b (target s) → T (le zero_f (share a b s))
  pub high : (a b s : Float) → Between a b (target s) → T (le (share a b s) one_f)
  pub grows : (a b s r : Float) → Between a b (target s) → Between a b (target r) → T (le (count s) (count r)) → T (le (share a b s) (share a b r))

abbrev pub Shares : (Float → Float → Float → Float) → Type 0
Shares share = SharesOf (λ t. t) (λ t. t) share

-- ---- the parameter of what is read, in the part that ends at the entry i
abbrev pub in_part : (Float → Float → Float → Float) → (ℕ → Float → Float) → List Float → Float → ℕ → Float
in_part share join xs s i = join (i - 1) (share (at xs (i - 1)) (at xs i) s)

-- the whole way: a target at or below 0 gives 0, one at or above the total 1
abbrev pub by_way_of : (Float → Float) → (Float → ℕ) → (Float → Float → Float → Float) → (ℕ → Float → Float) → List Float → Float → Float → Float
by_way_of target pick share join xs total s = cond (le (target s) zero_f) zero_f (cond (le total (target s)) one_f (in_part share join xs s (pick (target s))))

abbrev pub by_way : (Float → ℕ) → (Float → Float → Float → Float) → (ℕ → Float → Float) → List Float → Float → Float → Float
by_way pick share join xs total t = by_way_of (λ t. t) pick share join xs total t

-- ---- the parts of a table, one after the other
pub none-is-part : Part zero_f
none-is-part = record { low = le-self zero_f (nonneg-real zero_f zero_held.nn); high = zero-le-one }

pub all-is-part : Part one_f
all-is-part = record { low = zero-le-one; high = le-self one_f (nonneg-real one_f one-held.nn) }

-- the end of an earlier part is at most the start of a later one
pub joins-meet : {n : ℕ} {join : ℕ → Float → Float} → Joins n join → (k d : ℕ) → suc (k + d) < n → T (le (join k one_f) (join (suc (k + d)) zero_f))
joins-meet {n} {join} J k zero h = subst (λ (i : ℕ). T (le (join k one_f) (join (suc i) zero_f))) (sym (add-zero k)) (J.meets k (rw (add-zero k) at h))
joins-meet {n} {join} J k (suc d) h =
    let m = suc (k + d) in
    let e : suc (k + suc d) ≡ suc m = ap suc (add-suc k d) in
    let l : suc m < n = subst (λ (i : ℕ). i < n) e h in
    subst (λ (i : ℕ). T (le (join k one_f) (join i zero_f))) (sym e)
    (le-le-trans (join k one_f) (join m zero_f) (join (suc m) zero_f) (joins-meet J k d (less m n l))
    (le-le-trans (join m zero_f) (join m one_f) (join (suc m) zero_f) (J.grows m zero_f one_f (less m n l) none-is-part all-is-part zero-le-one) (J.meets m l)))
  where
    less : (m n : ℕ) → suc m < n → m < n
    less m n l = omega arith

-- ---- a table's entries as held values
module _ {xs : List Float} {total : Float} (f : F32Table xs total) where
  pub sound-of : Sound (last_of xs) xs total
  sound-of = table-sound xs total f.table.sound

  pub entry-held : (k : ℕ) → k ≤ last_of xs → Held binary32 (at xs k)
  entry-held k h = record { fit = f.values k; nn = entry-nonneg sound-of k h }

  pub total-held : Held binary32 total
  total-held = record { fit = f.total-value; nn = total-nonneg sound-of }

-- ---- the whole table
module _ {xs : List Float} {total : Float} (f : F32Table xs total) {pick : Float → ℕ} (P : Picks xs total pick) {target count : Float → Float} {share : Float → Float → Float → Float} (S : SharesOf target count share) where
  above : (t : Float) → Held binary32 t → T (not (le t zero_f)) → T (lt zero_f t)
  above t H h = not-le→lt t zero_f (nonneg-real t H.nn) (nonneg-real zero_f zero_held.nn) h

  below : (t : Float) → Held binary32 t → T (not (le total t)) → T (lt t total)
  below t H h = not-le→lt total t (nonneg-real total (total-held f).nn) (nonneg-real t H.nn) h

  abbrev entry : Float → ℕ
  entry s = pick (target s)

  abbrev own_share : Float → Float
  own_share s = share (at xs (entry s - 1)) (at xs (entry s)) s

  module _ (s : Float) (H : Held binary32 (target s)) (a : T (lt zero_f (target s))) (b : T (lt (target s) total)) where
    pub picked : Between (at xs (entry s - 1)) (at xs (entry s)) (target s)
    picked = record {
      start = (entry-held f (entry s - 1) (under (entry s) (last_of xs) (P.upto (target s) a b))).nn;
      end = entry-held f (entry s) (P.upto (target s) a b);
      target = H;
      from = P.lower (target s) a b;
      upto = P.upper (target s) a b;
    }
      where
        under : (i n : ℕ) → i ≤ n → i - 1 ≤ n
        under i n h = omega arith

    pub is-part : Part (own_share s)
    is-part = record { low = S.low (at xs (entry s - 1)) (at xs (entry s)) s picked; high = S.high (at xs (entry s - 1)) (at xs (entry s)) s picked }

    pub part-inside : entry s - 1 < last_of xs
    part-inside = less (entry s) (last_of xs) (P.from (target s) a b) (P.upto (target s) a b)
      where
        less : (i n : ℕ) → 1 ≤ i → i ≤ n → i - 1 < n
        less i n h k = omega arith

  module _ {join : ℕ → Float → Float} (J : Joins (last_of xs) join) where
    abbrev own : Float → Float
    own s = in_part share join xs s (entry s)

    -- two targets inside: in one part by the share, in two by the ends and starts of the parts between
    own-grows : (s r : Float) → Held binary32 (target s) → Held binary32 (target r) → T (lt zero_f (target s)) → T (lt (target s) total) → T (lt zero_f (target r)) → T (lt (target r) total)
        → T (le (target s) (target r)) → T (le (count s) (count r)) → T (le (own s) (own r))
    own-grows s r H K a b c d h g =
        let i = entry s in
        let j = entry r in
        elim (decide (ltb i j)) [
          | inl l ↦ apart (part-inside s H a b) (part-inside r K c d) (ltb→lt i j l) (P.from (target s) a b)
          | inr l ↦ together (same i j (P.grows (target s) (target r) h) (nltb→le i j l))
        ]
      where
        same : (i j : ℕ) → i ≤ j → j ≤ i → i ≡ j
        same i j h k = omega arith

        gap : (i j : ℕ) → 1 ≤ i → i < j → suc (i - 1 + (j - 1 - i)) ≡ j - 1
        gap i j h l = omega arith

        apart : entry s - 1 < last_of xs → entry r - 1 < last_of xs → entry s < entry r → 1 ≤ entry s → T (le (own s) (own r))
        apart p q l from =
            let k = entry s - 1 in
            let m = entry r - 1 in
            let e : suc (k + (m - entry s)) ≡ m = gap (entry s) (entry r) from l in
            le-le-trans (own s) (join k one_f) (own r) (J.grows k (own_share s) one_f p (is-part s H a b) all-is-part (is-part s H a b).high)
            (le-le-trans (join k one_f) (join m zero_f) (own r) (subst (λ (i : ℕ). T (le (join k one_f) (join i zero_f))) e (joins-meet J k (m - entry s) (subst (λ (i : ℕ). i < last_of xs) (sym e) q)))
            (J.grows m zero_f (own_share r) q none-is-part (is-part r K c d) (is-part r K c d).low))

        together : entry s ≡ entry r → T (le (own s) (own r))
        together e =
            let i = entry s in
            let B : Between (at xs (i - 1)) (at xs i) (target r) = subst (λ (k : ℕ). Between (at xs (k - 1)) (at xs k) (target r)) (sym e) (picked r K c d) in
            let y = share (at xs (i - 1)) (at xs i) r in
            subst (λ (k : ℕ). T (le (own s) (in_part share join xs r k))) e
            (J.grows (i - 1) (own_share s) y (part-inside s H a b) (is-part s H a b) (record { low = S.low (at xs (i - 1)) (at xs i) r B; high = S.high (at xs (i - 1)) (at xs i) r B })
            (S.grows (at xs (i - 1)) (at xs i) s r (picked s H a b) B g))

    pub way-at-least : (s : Float) → Held binary32 (target s) → T (le zero_f (by_way_of target pick share join xs total s))
    way-at-least s H = go (le (target s) zero_f) (le total (target s)) (λ n. n) (λ n. n)
      where
        go : (a b : Bool) → (T (not a) → T (not (le (target s) zero_f))) → (T (not b) → T (not (le total (target s)))) → T (le zero_f (cond a zero_f (cond b one_f (own s))))
        go true b past short = le-self zero_f (nonneg-real zero_f zero_held.nn)
        go false true past short = zero-le-one
        go false false past short =
            let inside = above (target s) H (past tt) in
            let short = below (target s) H (short tt) in
            J.low (entry s - 1) (own_share s) (part-inside s H inside short) (is-part s H inside short)

    pub way-at-most : (s : Float) → Held binary32 (target s) → T (le (by_way_of target pick share join xs total s) one_f)
    way-at-most s H = go (le (target s) zero_f) (le total (target s)) (λ n. n) (λ n. n)
      where
        go : (a b : Bool) → (T (not a) → T (not (le (target s) zero_f))) → (T (not b) → T (not (le total (target s)))) → T (le (cond a zero_f (cond b one_f (own s))) one_f)
        go true b past short = zero-le-one
        go false true past short = le-self one_f (nonneg-real one_f one-held.nn)
        go false false past short =
            let inside = above (target s) H (past tt) in
            let short = below (target s) H (short tt) in
            J.high (entry s - 1) (own_share s) (part-inside s H inside short) (is-part s H inside short)

    -- No way with the three properties steps back.
    pub never_back : (s r : Float) → Held binary32 (target s) → Held binary32 (target r) → T (le (target s) (target r)) → T (le (count s) (count r))
        → T (le (by_way_of target pick share join xs total s) (by_way_of target pick share join xs total r))
    never_back s r H K h g =
        go (le t zero_f) (le total t) (le u zero_f) (le total u) (λ n. n) (λ n. n) (λ n. n) (λ n. n) (λ n. n) (λ n. n) (way-at-least r K) (way-at-most s H)
      where
        t : Float
        t = target s

        u : Float
        u = target r

        go : (a b c d : Bool) → (T (not a) → T (not (le t zero_f))) → (T b → T (le total t)) → (T (not b) → T (not (le total t))) → (T c → T (le u zero_f)) → (T (not c) → T (not (le u zero_f)))
            → (T (not d) → T (not (le total u))) → T (le zero_f (cond c zero_f (cond d one_f (own r)))) → T (le (cond a zero_f (cond b one_f (own s))) one_f)
            → T (le (cond a zero_f (cond b one_f (own s))) (cond c zero_f (cond d one_f (own r))))
        go true b c d t-past t-ended t-short u-none u-past u-short low high = low
        go false b true d t-past t-ended t-short u-none u-past u-short low high = absurd (clashing (le t zero_f) (le-le-trans t u zero_f h (u-none tt)) (t-past tt))
        go false b false true t-past t-ended t-short u-none u-past u-short low high = high
        go false true false false t-past t-ended t-short u-none u-past u-short low high = absurd (clashing (le total u) (le-le-trans total t u (t-ended tt) h) (u-short tt))
        go false false false false t-past t-ended t-short u-none u-past u-short low high =
            own-grows s r H K (above t H (t-past tt)) (below t H (t-short tt)) (above u K (u-past tt)) (below u K (u-short tt)) h g
