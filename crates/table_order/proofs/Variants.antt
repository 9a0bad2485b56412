-- The variants of the lookup that do not step back, each as one of the three parts of a way (Steady.antt); Witnesses.antt has those that do. R is 1/31 rounded, `inverse` the
-- rounded reciprocal of the span. Assumes nothing.
use mathlib.Core.Path.{◌≡◌, refl, sym, ap, subst}
use mathlib.Core.Logic.{◌⊎◌, inl, inr}
use Prim.Native.Nat.{ℕ, zero, suc, ◌+◌, ◌-◌, ◌*◌, ◌≤◌, ◌<◌}
use native.Mathlib.Nat.{not-suc-le-zero}
use native.Mathlib.Omega.{arith}
use mathlib.Core.Bool.{Bool, true, false, not, ◌&&◌, cond}
use mathlib.Core.List.{List}
use lib.Dec.{T, ltb, ltb→lt, nltb→le}
use lib.Ieee.{Float, nan, inf, fin, binary32, add, sub, mul, div, neg, lt, le, eq, is_nan, of_int, of_bits, sum, round}
use lib.Ieee.Fits.{and_l, and_r}
use lib.Ieee.Positive.{num, den}
use Rattle.floats.specs.Floats.{zero_f, one_f, epsilon_f, clamp_of, clamp01_of}
use Rattle.floats.specs.Kinds.{real, nonneg}
use Rattle.floats.proofs.Tests.{decide}
use Rattle.floats.proofs.Order.{le-le-trans, le-self, not-le→lt}
use Rattle.floats.proofs.Fractions.{nonneg-real}
use Rattle.floats.proofs.Rounded.{mul-rounds, div-rounds}
use Rattle.floats.proofs.Monotone.{add-mono, mul_mono, div_mono, sub-mono}
use Rattle.floats.proofs.Held.{Held, rounds-under, rounds-real, rounds-kind}
use Rattle.floats.proofs.Bounds.{div-under, zero-under}
use Rattle.floats.proofs.Whole.{whole-mono}
use Rattle.floats.proofs.Constants.{zero_held, zero-num, one-held, one-num, epsilon-held, zero-le-one}
use Rattle.floats.proofs.Clamping.{clamp-at-least, clamp-at-most, clamp-mono, clamp-same}
use Rattle.floats.proofs.Extremes.{max-left, max-right}
use Rattle.table.specs.Lookup.{at, last_of, first_not_below, target_of, share_of, raw_in_part, raw_at, raw_of}
use Rattle.table.specs.Sound.{countable}
use Rattle.table_order.specs.Stated.{F32Table}
use Rattle.table_order.proofs.Fused.{fused_of, fused-rounds, fused-mono, fused-real, fused-rise}
use Rattle.table_order.proofs.Steady.{Between, Picks, SharesOf, Shares, Part, Joins, all-is-part, by_way_of, total-held, picked, never_back}
use Rattle.table_order.proofs.Targets.{target-held, target-mono, along-progress}
use Rattle.table_order.proofs.Division.{whole, quotient_of, first-picks, part-nonneg, whole-nonneg, sum_nonneg, span_of, difference-nonneg, way-nonneg, way-mono, span-nonneg, span-above}

-- ---- by the span, without the clamp: the quotient lies between 0 and 1 by itself
abbrev pub bare_share : Float → Float → Float → Float
bare_share a b t = div binary32 (sub binary32 t a) (span_of a b)

-- what lies before the target is at most the span
way-at-most-span : (a b t : Float) → Between a b t → T (le (sub binary32 t a) (span_of a b))
way-at-most-span a b t B =
    let ab = le-le-trans a t b B.from B.upto in
    le-le-trans (sub binary32 t a) (sub binary32 b a) (span_of a b)
    (sub-mono binary32 t b a a B.target.nn B.end.nn B.start B.start B.from B.upto (le-self a (nonneg-real a B.start)))
    (max-left (sub binary32 b a) epsilon_f (nonneg-real (sub binary32 b a) (difference-nonneg a b B.start B.end ab)))

pub bare-shares : Shares bare_share
bare-shares = record {
  low = λ a b t B.
      zero-under binary32 zero_f (bare_share a b t) (num (sub binary32 t a) * den (span_of a b)) (num (span_of a b) * den (sub binary32 t a)) zero_held zero-num
      (div-rounds binary32 (sub binary32 t a) (span_of a b) (way-nonneg a b t B) (span-nonneg a b t B) (span-above a b t B));
  high = λ a b t B. div-under binary32 (sub binary32 t a) (span_of a b) one_f (way-nonneg a b t B) (span-nonneg a b t B) (span-above a b t B) (way-at-most-span a b t B) one-held one-num;
  grows = λ a b t u B C h.
      div_mono binary32 (sub binary32 t a) (sub binary32 u a) (span_of a b) (span_of a b) (way-nonneg a b t B) (way-nonneg a b u C) (span-nonneg a b t B) (span-nonneg a b t B) (span-above a b t B) (span-above a b t B)
      (way-mono a b t u B C h) (le-self (span_of a b) (nonneg-real (span_of a b) (span-nonneg a b t B)));
}

-- so it is the clamped one, bit for bit,
pub bare-is-share : (a b t : Float) → Between a b t → bare_share a b t ≡ share_of a b t
unfolding share_of
bare-is-share a b t B = sym (clamp-same zero_f one_f (bare_share a b t) (bare-shares.low a b t B) (bare-shares.high a b t B))

-- ---- by the span, a multiplication by its reciprocal, clamped
abbrev pub inverse : Float → Float → Float
inverse a b = div binary32 one_f (span_of a b)

-- at most 1 / 2^-23, so finite
pub inverse-nonneg : (a b t : Float) → Between a b t → T (nonneg (inverse a b))
inverse-nonneg a b t B =
    let N = span-nonneg a b t B in
    let O = span-above a b t B in
    rounds-under binary32 (inverse a b) most (num one_f * den (span_of a b)) (num (span_of a b) * den one_f) (div-rounds binary32 one_f (span_of a b) one-held.nn N O) most-nonneg
    (div_mono binary32 one_f one_f (span_of a b) epsilon_f one-held.nn one-held.nn N epsilon-held.nn O epsilon-above (le-self one_f (nonneg-real one_f one-held.nn))
    (max-right (sub binary32 b a) epsilon_f (nonneg-real epsilon_f epsilon-held.nn)))
  where
    most : Float
    most = div binary32 one_f epsilon_f

    most-nonneg : T (nonneg (div binary32 one_f epsilon_f))
    most-nonneg = unfold div one_f epsilon_f of_bits round in tt

    epsilon-above : 0 < num epsilon_f
    epsilon-above = unfold epsilon_f of_bits in (omega arith)

-- a clamped number is a share, and grows with it
clamped-shares : (value : Float → Float → Float → Float) → ((a b t : Float) → Between a b t → T (real (value a b t)))
    → ((a b t u : Float) → Between a b t → Between a b u → T (le t u) → T (le (clamp_of (value a b t) zero_f one_f) (clamp_of (value a b u) zero_f one_f)))
    → Shares (λ a b t. clamp_of (value a b t) zero_f one_f)
clamped-shares value number grows = record {
  low = λ a b t B. clamp-at-least zero_f one_f zero-le-one (value a b t) (number a b t B);
  high = λ a b t B. clamp-at-most zero_f one_f zero-le-one (value a b t) (number a b t B);
  grows = grows;
}

-- of two numbers clamped to a share the first is no larger, where it is at most the second or at most 0
pub clamped-rise : (z w : Float) → T (real w) → T (le z zero_f) ⊎ T (le z w) → T (le (clamp_of z zero_f one_f) (clamp_of w zero_f one_f))
clamped-rise z w number (inr h) = clamp-mono zero_f one_f zero-le-one z w h
clamped-rise z w number (inl h) =
    le-le-trans (clamp_of z zero_f one_f) (clamp_of zero_f zero_f one_f) (clamp_of w zero_f one_f) (clamp-mono zero_f one_f zero-le-one z zero_f h)
    (subst (λ (x : Float). T (le x (clamp_of w zero_f one_f))) (sym (clamp-same zero_f one_f zero_f (le-self zero_f (nonneg-real zero_f zero_held.nn)) zero-le-one))
    (clamp-at-least zero_f one_f zero-le-one w number))

abbrev pub reciprocal_share : Float → Float → Float → Float
reciprocal_share a b t = clamp_of (mul binary32 (sub binary32 t a) (inverse a b)) zero_f one_f

pub reciprocal-shares : Shares reciprocal_share
reciprocal-shares = clamped-shares (λ a b t. mul binary32 (sub binary32 t a) (inverse a b))
    (λ a b t B.
    rounds-real binary32 (mul binary32 (sub binary32 t a) (inverse a b)) (num (sub binary32 t a) * num (inverse a b)) (den (sub binary32 t a) * den (inverse a b))
    (mul-rounds binary32 (sub binary32 t a) (inverse a b) (way-nonneg a b t B) (inverse-nonneg a b t B)))
    (λ a b t u B C h.
    clamp-mono zero_f one_f zero-le-one (mul binary32 (sub binary32 t a) (inverse a b)) (mul binary32 (sub binary32 u a) (inverse a b))
    (mul_mono binary32 (sub binary32 t a) (sub binary32 u a) (inverse a b) (inverse a b) (way-nonneg a b t B) (way-nonneg a b u C) (inverse-nonneg a b t B) (inverse-nonneg a b t B) (way-mono a b t u B C h)
    (le-self (inverse a b) (nonneg-real (inverse a b) (inverse-nonneg a b t B)))))

-- ---- by the span, a fused multiply-add, clamped: target * inverse - offset, whatever the offset is, if it is no NaN and not below 0
abbrev pub fused_share : (Float → Float → Float) → Float → Float → Float → Float
fused_share offset a b t = clamp_of (fused_of t (inverse a b) (neg (offset a b))) zero_f one_f

-- an offset that overflowed takes every target below 0
abbrev Offset : Float → Type 0
Offset c = T (nonneg c) ⊎ (c ≡ inf false)

infinite-offset : (t y : Float) → T (nonneg t) → T (nonneg y) → fused_of t y (neg (inf false)) ≡ inf true
unfolding fused_of neg
infinite-offset nan y p r = absurd p
infinite-offset (inf s) y p r = absurd p
infinite-offset (fin s m e) nan p r = absurd r
infinite-offset (fin s m e) (inf t) p r = absurd r
infinite-offset (fin s m e) (fin t n d) p r = refl

module _ (offset : Float → Float → Float) (kind : (a b t : Float) → Between a b t → Offset (offset a b)) where
  fused-number : (a b t : Float) → Between a b t → T (real (fused_of t (inverse a b) (neg (offset a b))))
  fused-number a b t B = go (offset a b) (kind a b t B)
    where
      y : Float
      y = inverse a b

      go : (c : Float) → Offset c → T (real (fused_of t y (neg c)))
      go c (inl s) = fused-real t y c B.target.nn (inverse-nonneg a b t B) s
      go c (inr e) = subst (λ (x : Float). T (real (fused_of t y (neg x)))) (sym e) (subst (λ (x : Float). T (real x)) (sym (infinite-offset t y B.target.nn (inverse-nonneg a b t B))) (unfold is_nan in tt))

  pub fused-shares : Shares (fused_share offset)
  fused-shares = clamped-shares (λ a b t. fused_of t (inverse a b) (neg (offset a b))) fused-number grows
    where
      grows : (a b t u : Float) → Between a b t → Between a b u → T (le t u) → T (le (fused_share offset a b t) (fused_share offset a b u))
      grows a b t u B C h = go (offset a b) (kind a b t B)
        where
          y : Float
          y = inverse a b

          go : (c : Float) → Offset c → T (le (clamp_of (fused_of t y (neg c)) zero_f one_f) (clamp_of (fused_of u y (neg c)) zero_f one_f))
          go c (inl s) =
              clamped-rise (fused_of t y (neg c)) (fused_of u y (neg c)) (fused-real u y c C.target.nn (inverse-nonneg a b t B) s)
              (elim (fused-rise t u y c B.target.nn C.target.nn (inverse-nonneg a b t B) s h) [ inl k ↦ inl k | inr k ↦ inr k.order ])
          go c (inr e) =
              subst (λ (x : Float). T (le (clamp_of (fused_of t y (neg x)) zero_f one_f) (clamp_of (fused_of u y (neg x)) zero_f one_f))) (sym e)
              (rw (infinite-offset t y B.target.nn (inverse-nonneg a b t B), infinite-offset u y C.target.nn (inverse-nonneg a b t B))
              (clamp-mono zero_f one_f zero-le-one (inf true) (inf true) (unfold le lt eq in tt)))

-- the offset as a rounded product, or as a rounded quotient
abbrev pub product_offset : Float → Float → Float
product_offset a b = mul binary32 a (inverse a b)

abbrev pub quotient_offset : Float → Float → Float
quotient_offset a b = div binary32 a (span_of a b)

pub product-shares : Shares (fused_share product_offset)
product-shares = fused-shares product_offset
    (λ a b t B. rounds-kind binary32 (product_offset a b) (num a * num (inverse a b)) (den a * den (inverse a b)) (mul-rounds binary32 a (inverse a b) B.start (inverse-nonneg a b t B)))

pub quotient-shares : Shares (fused_share quotient_offset)
quotient-shares = fused-shares quotient_offset
    (λ a b t B.
    rounds-kind binary32 (quotient_offset a b) (num a * den (span_of a b)) (num (span_of a b) * den a) (div-rounds binary32 a (span_of a b) B.start (span-nonneg a b t B) (span-above a b t B)))

-- ---- by 31, in a table of 32 entries
abbrev pub reciprocal : ℕ → Float
reciprocal n = div binary32 one_f (whole n)

-- (lower + share) * R
abbrev pub product_join : ℕ → ℕ → Float → Float
product_join n k x = mul binary32 (add binary32 (whole k) x) (reciprocal n)

-- share * R + lower * R, fused, the second product rounded
abbrev pub fused_share_join : ℕ → ℕ → Float → Float
fused_share_join n k x = fused_of x (reciprocal n) (mul binary32 (whole k) (reciprocal n))

-- lower * R + share * R, fused, the second product rounded
abbrev pub fused_number_join : ℕ → ℕ → Float → Float
fused_number_join n k x = fused_of (whole k) (reciprocal n) (mul binary32 x (reciprocal n))

-- a test passed by every number below n
abbrev all_below : ℕ → (ℕ → Bool) → Bool
all_below zero test = true
all_below (suc n) test = test n && all_below n test

below-passes : (n : ℕ) (test : ℕ → Bool) → T (all_below n test) → (k : ℕ) → k < n → T (test k)
below-passes zero test h k l = absurd (not-suc-le-zero l)
below-passes (suc n) test h k l = elim (decide (ltb k n)) [
  | inl q ↦ below-passes n test (and_r (test n) (all_below n test) h) k (ltb→lt k n q)
  | inr q ↦ subst (λ (i : ℕ). T (test i)) (same k n l (nltb→le k n q)) (and_l (test n) (all_below n test) h)
]
  where
    same : (k n : ℕ) → k < suc n → n ≤ k → n ≡ k
    same k n h g = omega arith

abbrev R : Float
R = reciprocal 31

R-nonneg : T (nonneg R)
unfolding div one_f of_bits of_int round
R-nonneg = tt

R-le : T (le R R)
R-le = le-self R (nonneg-real R R-nonneg)

-- some part that grows with the share, meets the next one and does not pass 1: the last two are worked out part by part
abbrev meets_and_ends : (ℕ → Float → Float) → Bool
meets_and_ends join = all_below 30 (λ k. le (join k one_f) (join (suc k) zero_f)) && all_below 31 (λ k. le (join k one_f) one_f)

tested-joins : (join : ℕ → Float → Float) → ((k : ℕ) (x : Float) → k < 31 → Part x → T (le zero_f (join k x)))
    → ((k : ℕ) (x y : Float) → k < 31 → Part x → Part y → T (le x y) → T (le (join k x) (join k y))) → T (meets_and_ends join) → Joins 31 join
tested-joins join low grows tested = record {
  low = low;
  high = λ k x l P. le-le-trans (join k x) (join k one_f) one_f (grows k x one_f l P all-is-part P.high) (below-passes 31 (λ k. le (join k one_f) one_f) (and_r meet end tested) k l);
  grows = grows;
  meets = λ k l. below-passes 30 (λ k. le (join k one_f) (join (suc k) zero_f)) (and_l meet end tested) k (under k l);
}
  where
    meet : Bool
    meet = all_below 30 (λ k. le (join k one_f) (join (suc k) zero_f))

    end : Bool
    end = all_below 31 (λ k. le (join k one_f) one_f)

    under : (k : ℕ) → suc k < 31 → k < 30
    under k l = omega arith

-- counts up to 31 and their products with R are finite
few : 31 ≤ countable
few = omega arith

count-nonneg : (k : ℕ) → k < 31 → T (nonneg (whole k))
count-nonneg k l = whole-nonneg 31 (omega arith) few k (omega arith)

scaled-nonneg : (x m : Float) → T (nonneg x) → T (nonneg m) → T (le x m) → T (nonneg (mul binary32 m R)) → T (nonneg (mul binary32 x R))
scaled-nonneg x m p q h r = rounds-under binary32 (mul binary32 x R) (mul binary32 m R) (num x * num R) (den x * den R) (mul-rounds binary32 x R p R-nonneg) r (mul_mono binary32 x m R R p q R-nonneg R-nonneg h R-le)

scaled-count : (k : ℕ) → k < 31 → T (nonneg (mul binary32 (whole k) R))
scaled-count k l = scaled-nonneg (whole k) (whole 31) (count-nonneg k l) most-nonneg (whole-mono binary32 k 31 (omega arith)) product-nonneg
  where
    most-nonneg : T (nonneg (whole 31))
    most-nonneg = unfold of_int round in tt

    product-nonneg : T (nonneg (mul binary32 (whole 31) R))
    product-nonneg = unfold mul div one_f of_bits of_int round in tt

scaled-share : (x : Float) → Part x → T (nonneg (mul binary32 x R))
scaled-share x P = scaled-nonneg x one_f (part-nonneg x P) one-held.nn P.high product-nonneg
  where
    product-nonneg : T (nonneg (mul binary32 one_f R))
    product-nonneg = unfold mul div one_f of_bits of_int round in tt

-- the product by the reciprocal
pub product-joins : Joins 31 (product_join 31)
product-joins = tested-joins (product_join 31) low grows tested
  where
    tested : T (meets_and_ends (product_join 31))
    tested = unfold mul add sum div one_f zero_f of_bits of_int round le lt eq in tt

    sum-ok : (k : ℕ) (x : Float) → k < 31 → Part x → T (nonneg (add binary32 (whole k) x))
    sum-ok k x l P = sum_nonneg 31 (omega arith) few k x l P

    low : (k : ℕ) (x : Float) → k < 31 → Part x → T (le zero_f (product_join 31 k x))
    low k x l P =
        let s = add binary32 (whole k) x in
        zero-under binary32 zero_f (mul binary32 s R) (num s * num R) (den s * den R) zero_held zero-num (mul-rounds binary32 s R (sum-ok k x l P) R-nonneg)

    grows : (k : ℕ) (x y : Float) → k < 31 → Part x → Part y → T (le x y) → T (le (product_join 31 k x) (product_join 31 k y))
    grows k x y l P Q h =
        let w = whole k in
        let W = count-nonneg k l in
        mul_mono binary32 (add binary32 w x) (add binary32 w y) R R (sum-ok k x l P) (sum-ok k y l Q) R-nonneg R-nonneg (add-mono binary32 w w x y W W (part-nonneg x P) (part-nonneg y Q) (le-self w (nonneg-real w W)) h) R-le

fused-low : (x y z : Float) → T (nonneg x) → T (nonneg y) → T (nonneg z) → T (le zero_f (fused_of x y z))
fused-low x y z p q r = zero-under binary32 zero_f (fused_of x y z) (num x * num y * den z + num z * (den x * den y)) (den x * den y * den z) zero_held zero-num (fused-rounds x y z p q r)

-- the share fused with the rounded product of the entry's number
pub fused-share-joins : Joins 31 (fused_share_join 31)
fused-share-joins = tested-joins (fused_share_join 31) (λ k x l P. fused-low x R (mul binary32 (whole k) R) (part-nonneg x P) R-nonneg (scaled-count k l))
    (λ k x y l P Q h.
    let c = mul binary32 (whole k) R in
    let N = scaled-count k l in
    fused-mono x y R c c (part-nonneg x P) (part-nonneg y Q) R-nonneg N N h (le-self c (nonneg-real c N))) tested
  where
    tested : T (meets_and_ends (fused_share_join 31))
    tested = unfold fused_of mul add sum div one_f zero_f of_bits of_int round le lt eq in tt

-- the entry's number fused with the rounded product of the share
pub fused-number-joins : Joins 31 (fused_number_join 31)
fused-number-joins = tested-joins (fused_number_join 31) (λ k x l P. fused-low (whole k) R (mul binary32 x R) (count-nonneg k l) R-nonneg (scaled-share x P))
    (λ k x y l P Q h.
    let w = whole k in
    let W = count-nonneg k l in
    fused-mono w w R (mul binary32 x R) (mul binary32 y R) W W R-nonneg (scaled-share x P) (scaled-share y Q) (le-self w (nonneg-real w W))
    (mul_mono binary32 x y R R (part-nonneg x P) (part-nonneg y Q) R-nonneg R-nonneg h R-le)) tested
  where
    tested : T (meets_and_ends (fused_number_join 31))
    tested = unfold fused_of mul add sum div one_f zero_f of_bits of_int round le lt eq in tt

-- ---- the whole lookup by a way, from a progress

-- with a share that reads the progress,
abbrev pub way_along : (Float → ℕ) → (Float → Float → Float → Float) → (ℕ → Float → Float) → List Float → Float → Float → Float
way_along pick share join xs total p = cond (le total epsilon_f) (clamp01_of p) (by_way_of (target_of total) pick share join xs total p)

-- or one that reads the target
abbrev pub way_of : (Float → ℕ) → (Float → Float → Float → Float) → (ℕ → Float → Float) → List Float → Float → Float → Float
way_of pick share join xs total p = way_along pick (λ a b p. share a b (target_of total p)) join xs total p

module _ {xs : List Float} {total : Float} (f : F32Table xs total) where
  -- Whatever picks, shares and joins as above does not step back. So none of these does, in any sound table of 32 entries: with the first length that is not below the target or the first above
  -- it; with the quotient bare, the clamped product by the reciprocal, the clamped fused multiply-add, or the clamped contraction; joined by the division, by the product with R, or by either fused
  -- form of two products.
  pub way-along-order : {pick : Float → ℕ} → Picks xs total pick → {share : Float → Float → Float → Float} → SharesOf (target_of total) clamp01_of share → {join : ℕ → Float → Float} → Joins (last_of xs) join
      → (p q : Float) → T (le (clamp01_of p) (clamp01_of q)) → T (le (way_along pick share join xs total p) (way_along pick share join xs total q))
  way-along-order {pick} P {share} S {join} J p q h = go (le total epsilon_f)
    where
      H : Held binary32 total
      H = total-held f

      go : (b : Bool) → T (le (cond b (clamp01_of p) (by_way_of (target_of total) pick share join xs total p)) (cond b (clamp01_of q) (by_way_of (target_of total) pick share join xs total q)))
      go true = h
      go false = never_back f P S J p q (target-held total H p) (target-held total H q) (target-mono total H p q h) h

  pub way-order : {pick : Float → ℕ} → Picks xs total pick → {share : Float → Float → Float → Float} → Shares share → {join : ℕ → Float → Float} → Joins (last_of xs) join
      → (p q : Float) → T (le (clamp01_of p) (clamp01_of q)) → T (le (way_of pick share join xs total p) (way_of pick share join xs total q))
  way-order P S J = way-along-order P (along-progress total (total-held f) S) J

  -- The quotient without its clamp is the lookup, bit for bit, at every progress.
  pub bare-is-lookup : (p : Float) → way_of (λ t. first_not_below t xs) bare_share (quotient_of (last_of xs)) xs total p ≡ raw_of xs total p
  unfolding raw_of raw_at raw_in_part
  bare-is-lookup p = ap (cond (le total epsilon_f) (clamp01_of p)) (go (le t zero_f) (le total t) (λ n. n) (λ n. n))
    where
      t : Float
      t = target_of total p

      H : Held binary32 t
      H = target-held total (total-held f) p

      i : ℕ
      i = first_not_below t xs

      a : Float
      a = at xs (i - 1)

      b : Float
      b = at xs i

      go : (past ended : Bool) → (T (not past) → T (not (le t zero_f))) → (T (not ended) → T (not (le total t)))
          → cond past zero_f (cond ended one_f (quotient_of (last_of xs) (i - 1) (bare_share a b t))) ≡ cond past zero_f (cond ended one_f (quotient_of (last_of xs) (i - 1) (share_of a b t)))
      go true ended m n = refl
      go false true m n = refl
      go false false m n =
          ap (quotient_of (last_of xs) (i - 1))
          (bare-is-share a b t
          (picked f (first-picks f) bare-shares t H (not-le→lt t zero_f (nonneg-real t H.nn) (nonneg-real zero_f zero_held.nn) (m tt)) (not-le→lt total t (nonneg-real total (total-held f).nn) (nonneg-real t H.nn) (n tt))))
