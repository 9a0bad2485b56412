-- The way of document 01 has the three properties: the first entry that is not below the target is picked; the share is a clamped quotient, and lies between 0 and 1 and grows with
-- the target; the sum of the number of the entry before and the share is divided by the number of the last entry, so that each part ends and the next starts at the place of the entry between. Assumes nothing.
use mathlib.Core.Path.{◌≡◌, sym, ◌∙◌, subst}
use mathlib.Core.Logic.{inl, inr}
use Prim.Native.Nat.{ℕ, suc, ◌*◌, ◌-◌, ◌≤◌, ◌<◌}
use native.Mathlib.Nat.{le_trans, le_refl, mul-one, mul-pos}
use native.Mathlib.Omega.{arith}
use mathlib.Core.List.{List}
use lib.Dec.{T, ltb, ltb→lt, nltb→le}
use lib.IntN.{pos}
use lib.Ieee.{Float, binary32, add, sub, div, lt, le, of_int}
use lib.Ieee.Positive.{num, den, den_pos}
use Rattle.floats.specs.Floats.{zero_f, one_f, epsilon_f, max_of}
use Rattle.floats.specs.Kinds.{real, nonneg}
use Rattle.floats.proofs.Tests.{decide, clashing}
use Rattle.floats.proofs.Order.{lt-le-trans, le-le-trans, le-self, lt→le}
use Rattle.floats.proofs.Fractions.{nonneg-real, lt→pos}
use Rattle.floats.proofs.Rounded.{sub-rounds, div-rounds}
use Rattle.floats.proofs.Monotone.{add-mono, sub-mono, div_mono}
use Rattle.floats.proofs.Held.{Held, rounds-under, rounds-real}
use Rattle.floats.proofs.Bounds.{add-above, sub-under, div-under, zero-under}
use Rattle.floats.proofs.Whole.{whole-value, whole-held, whole-step, whole-mono}
use Rattle.floats.proofs.Between.{nonneg-between}
use Rattle.floats.proofs.Constants.{zero_held, zero-num, one-held, one-num, epsilon-held, zero-le-one, zero-lt-epsilon}
use Rattle.floats.proofs.Clamping.{clamp-at-least, clamp-at-most, clamp-mono, at_most_one}
use Rattle.floats.proofs.Extremes.{max-right, max-nonneg}
use Rattle.table.specs.Lookup.{at, last_of, first_not_below, share_of, mark_of}
use Rattle.table.specs.Sound.{countable}
use Rattle.table.proofs.Search.{first-is}
use Rattle.table.proofs.Enclosure.{enclosed}
use Rattle.table_order.specs.Stated.{F32Table}
use Rattle.table_order.proofs.Steady.{Between, Picks, SharesOf, Shares, Part, Joins, in_part, none-is-part, all-is-part, sound-of, part-inside, is-part}

-- ---- the entry: a larger target is found no earlier
pub first-mono : (xs : List Float) (t u : Float) → T (le t u) → first_not_below t xs ≤ first_not_below u xs
first-mono xs t u h =
    let i = first_not_below t xs in
    let j = first_not_below u xs in
    elim (decide (ltb j i)) [
      | inl l ↦ absurd (clashing (lt (at xs j) u) (lt-le-trans (at xs j) t u ((first-is xs t).below j (ltb→lt j i l)) h) (first-is xs u).found)
      | inr k ↦ nltb→le j i k
    ]

pub first-picks : {xs : List Float} {total : Float} → F32Table xs total → Picks xs total (λ t. first_not_below t xs)
first-picks {xs} f = record {
  from = λ t a b. (enclosed (sound-of f) t a b).from;
  upto = λ t a b. (enclosed (sound-of f) t a b).upto;
  lower = λ t a b. lt→le (at xs (first_not_below t xs - 1)) t (enclosed (sound-of f) t a b).lower;
  upper = λ t a b. (enclosed (sound-of f) t a b).upper;
  grows = first-mono xs;
}

-- ---- the share: the span is above 0, so that the quotient is a number
abbrev pub span_of : Float → Float → Float
span_of a b = max_of (sub binary32 b a) epsilon_f

pub difference-nonneg : (a b : Float) → T (nonneg a) → Held binary32 b → T (le a b) → T (nonneg (sub binary32 b a))
difference-nonneg a b A B ab =
    rounds-under binary32 (sub binary32 b a) b (num b * den a - num a * den b) (den b * den a) (sub-rounds binary32 b a B.nn A ab) B.nn (sub-under binary32 b a B A ab)

module _ (a b t : Float) (B : Between a b t) where
  pub way-nonneg : T (nonneg (sub binary32 t a))
  way-nonneg = difference-nonneg a t B.start B.target B.from

  pub span-nonneg : T (nonneg (span_of a b))
  span-nonneg = max-nonneg (sub binary32 b a) epsilon_f (difference-nonneg a b B.start B.end (le-le-trans a t b B.from B.upto)) epsilon-held.nn

  pub span-above : 0 < num (span_of a b)
  span-above =
      lt→pos zero_f (span_of a b) zero_held.nn span-nonneg
      (lt-le-trans zero_f epsilon_f (span_of a b) zero-lt-epsilon (max-right (sub binary32 b a) epsilon_f (nonneg-real epsilon_f epsilon-held.nn)))

  quotient-real : T (real (div binary32 (sub binary32 t a) (span_of a b)))
  quotient-real =
      rounds-real binary32 (div binary32 (sub binary32 t a) (span_of a b)) (num (sub binary32 t a) * den (span_of a b)) (num (span_of a b) * den (sub binary32 t a))
      (div-rounds binary32 (sub binary32 t a) (span_of a b) way-nonneg span-nonneg span-above)

  share-at-least : T (le zero_f (share_of a b t))
  unfolding share_of
  share-at-least = clamp-at-least zero_f one_f zero-le-one (div binary32 (sub binary32 t a) (span_of a b)) quotient-real

  share-at-most : T (le (share_of a b t) one_f)
  unfolding share_of
  share-at-most = clamp-at-most zero_f one_f zero-le-one (div binary32 (sub binary32 t a) (span_of a b)) quotient-real

-- the way up to the target grows with it
pub way-mono : (a b t u : Float) → Between a b t → Between a b u → T (le t u) → T (le (sub binary32 t a) (sub binary32 u a))
way-mono a b t u B C h = sub-mono binary32 t u a a B.target.nn C.target.nn B.start B.start B.from h (le-self a (nonneg-real a B.start))

share-mono : (a b t u : Float) → Between a b t → Between a b u → T (le t u) → T (le (share_of a b t) (share_of a b u))
unfolding share_of
share-mono a b t u B C h =
    let span = span_of a b in
    let N = span-nonneg a b t B in
    let O = span-above a b t B in
    clamp-mono zero_f one_f zero-le-one (div binary32 (sub binary32 t a) span) (div binary32 (sub binary32 u a) span)
    (div_mono binary32 (sub binary32 t a) (sub binary32 u a) span span (way-nonneg a b t B) (way-nonneg a b u C) N N O O (way-mono a b t u B C h) (le-self span (nonneg-real span N)))

pub division-shares : Shares share_of
division-shares = record { low = share-at-least; high = share-at-most; grows = share-mono }

-- ---- the parameter: the sum of the entry's number and the share, divided by n
abbrev pub whole : ℕ → Float
whole k = of_int binary32 (pos k)

abbrev pub quotient_of : ℕ → ℕ → Float → Float
quotient_of n k x = div binary32 (add binary32 (whole k) x) (whole n)

pub part-nonneg : (x : Float) → Part x → T (nonneg x)
part-nonneg x P = nonneg-between zero_f x one_f zero_held.nn one-held.nn P.low P.high

module _ (n : ℕ) (some : 1 ≤ n) (counted : n ≤ countable) where
  pub whole-nonneg : (k : ℕ) → k ≤ n → T (nonneg (whole k))
  whole-nonneg k h = (whole-value binary32 k (le_trans h counted)).0

  count-above : 0 < num (whole n)
  count-above = subst (λ (k : ℕ). 0 < k) (sym (sym (mul-one (num (whole n))) ∙ (whole-value binary32 n counted).1)) (mul-pos some (den_pos (whole n)))

  divided-mono : (x y : Float) → T (nonneg x) → T (nonneg y) → T (le x y) → T (le (div binary32 x (whole n)) (div binary32 y (whole n)))
  divided-mono x y p q h =
      let N = whole-nonneg n (le_refl n) in
      div_mono binary32 x y (whole n) (whole n) p q N N count-above count-above h (le-self (whole n) (nonneg-real (whole n) N))

  -- the sum lies between the numbers of the two entries
  module _ (k : ℕ) (x : Float) (inside : k < n) (P : Part x) where
    abbrev sum : Float
    sum = add binary32 (whole k) x

    k-nonneg : T (nonneg (whole k))
    k-nonneg = whole-nonneg k (omega arith)

    next-nonneg : T (nonneg (whole (suc k)))
    next-nonneg = whole-nonneg (suc k) inside

    sum-from : T (le (whole k) sum)
    sum-from = add-above binary32 (whole k) x (whole-held binary32 k (le_trans (omega arith) counted)) (part-nonneg x P)

    sum-upto : T (le sum (whole (suc k)))
    sum-upto = whole-step binary32 k x (le_trans inside counted) (part-nonneg x P) (at_most_one x (part-nonneg x P) P.high)

    pub sum_nonneg : T (nonneg sum)
    sum_nonneg = nonneg-between (whole k) sum (whole (suc k)) k-nonneg next-nonneg sum-from sum-upto

    -- so the parameter lies between their places
    pub quotient-from : T (le (mark_of n k) (quotient_of n k x))
    unfolding mark_of
    quotient-from = divided-mono (whole k) sum k-nonneg sum_nonneg sum-from

    pub quotient-upto : T (le (quotient_of n k x) (mark_of n (suc k)))
    unfolding mark_of
    quotient-upto = divided-mono sum (whole (suc k)) sum_nonneg next-nonneg sum-upto

    quotient-at-least : T (le zero_f (quotient_of n k x))
    quotient-at-least =
        zero-under binary32 zero_f (div binary32 sum (whole n)) (num sum * den (whole n)) (num (whole n) * den sum) zero_held zero-num (div-rounds binary32 sum (whole n) sum_nonneg (whole-nonneg n (le_refl n)) count-above)

    quotient-at-most : T (le (quotient_of n k x) one_f)
    quotient-at-most =
        div-under binary32 sum (whole n) one_f sum_nonneg (whole-nonneg n (le_refl n)) count-above (le-le-trans sum (whole (suc k)) (whole n) sum-upto (whole-mono binary32 (suc k) n inside)) one-held one-num

  quotient-grows : (k : ℕ) (x y : Float) → k < n → Part x → Part y → T (le x y) → T (le (quotient_of n k x) (quotient_of n k y))
  quotient-grows k x y inside P Q h =
      let W = whole-nonneg k (omega arith) in
      divided-mono (sum k x inside P) (sum k y inside Q) (sum_nonneg k x inside P) (sum_nonneg k y inside Q)
      (add-mono binary32 (whole k) (whole k) x y W W (part-nonneg x P) (part-nonneg y Q) (le-self (whole k) (nonneg-real (whole k) W)) h)

  -- the place of an entry stands between the end of one part and the start of the next
  quotient-meets : (k : ℕ) → suc k < n → T (le (quotient_of n k one_f) (quotient_of n (suc k) zero_f))
  quotient-meets k inside =
      le-le-trans (quotient_of n k one_f) (mark_of n (suc k)) (quotient_of n (suc k) zero_f) (quotient-upto k one_f (omega arith) all-is-part) (quotient-from (suc k) zero_f inside none-is-part)

  pub division-joins : Joins n (quotient_of n)
  division-joins = record { low = quotient-at-least; high = quotient-at-most; grows = quotient-grows; meets = quotient-meets }

-- ---- with any share that is one, the parameter lies between the places of the two entries that enclose the target
module _ {xs : List Float} {total : Float} (f : F32Table xs total) (some : 1 ≤ last_of xs) {target count : Float → Float} {share : Float → Float → Float → Float} (S : SharesOf target count share) where
  module _ (s : Float) (H : Held binary32 (target s)) (above : T (lt zero_f (target s))) (below : T (lt (target s) total)) where
    abbrev entry : ℕ
    entry = first_not_below (target s) xs

    abbrev own : Float
    own = share (at xs (entry - 1)) (at xs entry) s

    inside : entry - 1 < last_of xs
    inside = part-inside f (first-picks f) S s H above below

    is-own : Part own
    is-own = is-part f (first-picks f) S s H above below

    pub placed-from : T (le (mark_of (last_of xs) (entry - 1)) (in_part share (quotient_of (last_of xs)) xs s entry))
    placed-from = quotient-from (last_of xs) some f.table.counted (entry - 1) own inside is-own

    pub placed-upto : T (le (in_part share (quotient_of (last_of xs)) xs s entry) (mark_of (last_of xs) entry))
    placed-upto =
        subst (λ (k : ℕ). T (le (quotient_of (last_of xs) (entry - 1) own) (mark_of (last_of xs) k))) (one_more entry ((first-picks f).from (target s) above below))
        (quotient-upto (last_of xs) some f.table.counted (entry - 1) own inside is-own)
      where
        one_more : (i : ℕ) → 1 ≤ i → suc (i - 1) ≡ i
        one_more i h = omega arith
