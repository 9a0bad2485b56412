-- Demand 3 of one table, `Steady` of specs/Swept.antt, holds for every share that is one, if the entry is picked as document 01 picks it and the division joins: so for each clamped variant of the
-- division by the span, the contraction among them. What such a variant loses is the Rust's bits alone (Witnesses.antt, `clamped-other-bits`). Assumes nothing.
use mathlib.Core.Path.{◌≡◌, sym, ap, ◌∙◌, subst}
use Prim.Native.Nat.{ℕ, ◌-◌, ◌≤◌}
use mathlib.Core.Bool.{Bool, true, false, not, cond}
use mathlib.Core.List.{List}
use lib.Dec.{T}
use lib.Ieee.{Float, binary32, mul, div, neg, lt, le}
use lib.Ieee.Bits.{cond_no}
use Rattle.floats.specs.Floats.{zero_f, one_f, epsilon_f, clamp_of, clamp01_of}
use Rattle.floats.proofs.Tests.{cond_yes}
use Rattle.floats.proofs.Order.{le_lt_trans, lt-le-trans, lt→le, lt→not-le, le→not-lt}
use Rattle.floats.proofs.Held.{Held}
use Rattle.floats.proofs.Constants.{zero-lt-epsilon}
use Rattle.table.specs.Lookup.{at, last_of, first_not_below, target_of, mark_of}
use Rattle.table_order.specs.Stated.{F32Table}
use Rattle.table_order.specs.Swept.{Inside, Chosen, Swept, Steady}
use Rattle.table_order.proofs.Fused.{fused_of}
use Rattle.table_order.proofs.Steady.{SharesOf, Shares, in_part, by_way_of, total-held, never_back}
use Rattle.table_order.proofs.Division.{span_of, quotient_of, first-picks, division-joins, placed-from, placed-upto}
use Rattle.table_order.proofs.Targets.{target-held, target-mono, along-progress, long-parts}
use Rattle.table_order.proofs.Ends.{clamped-zero, clamped-one, target-of-zero, target-of-one, target-of-one-above}
use Rattle.table_order.proofs.Theorems.{target-enclosed}
use Rattle.table_order.proofs.Swept.{clamped-again}
use Rattle.table_order.proofs.Variants.{way_along, way_of}
use Rattle.table_order.proofs.Contraction.{contracted_clamped, contracted-shares}

target-again : (total p : Float) → target_of total (clamp01_of p) ≡ target_of total p
unfolding target_of
target-again total p = ap (mul binary32 total) (clamped-again p)

module _ {xs : List Float} {total : Float} (f : F32Table xs total) where
  -- the lookup with another share
  abbrev pub raw_by : (Float → Float → Float → Float) → Float → Float
  raw_by share p = way_along (λ t. first_not_below t xs) share (quotient_of (last_of xs)) xs total p

  H : Held binary32 total
  H = total-held f

  module _ {share : Float → Float → Float → Float} (S : SharesOf (target_of total) clamp01_of share) (counted : (a b p : Float) → share a b p ≡ share a b (clamp01_of p)) where
    -- from the clamped progress, the target and what the share reads
    abbrev from : Float → Float → Float → Float
    from c t s = cond (le total epsilon_f) c (cond (le t zero_f) zero_f (cond (le total t) one_f (in_part share (quotient_of (last_of xs)) xs s (first_not_below t xs))))

    counts : (p : Float) → raw_by share p ≡ raw_by share (clamp01_of p)
    counts p =
        ap (λ (x : Float). cond (le total epsilon_f) (clamp01_of p) (cond (le t zero_f) zero_f (cond (le total t) one_f (quotient_of (last_of xs) (i - 1) x)))) (counted (at xs (i - 1)) (at xs i) p)
        ∙ ap (λ (c : Float). from c t (clamp01_of p)) (sym (clamped-again p))
        ∙ ap (λ (u : Float). from (clamp01_of (clamp01_of p)) u (clamp01_of p)) (sym (target-again total p))
      where
        t : Float
        t = target_of total p

        i : ℕ
        i = first_not_below t xs

    abbrev within : Float → Float
    within p = by_way_of (target_of total) (λ t. first_not_below t xs) share (quotient_of (last_of xs)) xs total p

    order : (p q : Float) → T (le (clamp01_of p) (clamp01_of q)) → T (le (raw_by share p) (raw_by share q))
    order p q h = go (le total epsilon_f) (λ n. n)
      where
        go : (b : Bool) → (T (not b) → T (not (le total epsilon_f))) → T (le (cond b (clamp01_of p) (within p)) (cond b (clamp01_of q) (within q)))
        go true long = h
        go false long =
            never_back f (first-picks f) S (division-joins (last_of xs) (long-parts f (long tt)) f.table.counted) p q (target-held total H p) (target-held total H q) (target-mono total H p q h) h

    starts : raw_by share zero_f ≡ zero_f
    starts = go (le total epsilon_f)
      where
        go : (b : Bool) → cond b (clamp01_of zero_f) (within zero_f) ≡ zero_f
        go true = clamped-zero
        go false = cond_yes (le (target_of total zero_f) zero_f) zero_f _ (target-of-zero total H)

    ends : raw_by share one_f ≡ one_f
    ends = go (le total epsilon_f) (λ n. n)
      where
        t : Float
        t = target_of total one_f

        go : (b : Bool) → (T (not b) → T (not (le total epsilon_f))) → cond b (clamp01_of one_f) (within one_f) ≡ one_f
        go true long = clamped-one
        go false long = cond_no (le t zero_f) _ _ (target-of-one-above total H (long tt)) ∙ cond_yes (le total t) _ _ (target-of-one total H)

    module _ (p : Float) (long : T (lt epsilon_f total)) where
      abbrev target : Float
      target = target_of total p

      abbrev entry : ℕ
      entry = first_not_below target xs

      long-raw : raw_by share p ≡ within p
      long-raw = cond_no (le total epsilon_f) _ _ (lt→not-le total epsilon_f long)

      chosen : Inside total target → Chosen (last_of xs) xs target (raw_by share p)
      chosen inside =
          let e = target-enclosed f p inside.above inside.below in
          let some = long-parts f (lt→not-le total epsilon_f long) in
          let own : raw_by share p ≡ in_part share (quotient_of (last_of xs)) xs p entry =
          long-raw ∙ cond_no (le target zero_f) _ _ (lt→not-le target zero_f inside.above) ∙ cond_no (le total target) _ _ (lt→not-le total target inside.below) in
          record {
            entry = entry;
            first = e.from;
            last = e.upto;
            enclose = record { lower = e.lower; upper = le→not-lt target (at xs entry) e.upper };
            from = subst (λ (r : Float). T (le (mark_of (last_of xs) (entry - 1)) r)) (sym own) (placed-from f some S p (target-held total H p) inside.above inside.below);
            upto = subst (λ (r : Float). T (le r (mark_of (last_of xs) entry))) (sym own) (placed-upto f some S p (target-held total H p) inside.above inside.below);
          }

      swept : Swept (last_of xs) xs total target (raw_by share p)
      swept = record {
        starts = λ low. long-raw ∙ cond_yes (le target zero_f) _ _ low;
        ends = λ high. long-raw ∙ cond_no (le target zero_f) _ _ (lt→not-le target zero_f (lt-le-trans zero_f total target above_zero high)) ∙ cond_yes (le total target) _ _ high;
        chosen = chosen;
      }
        where
          above_zero : T (lt zero_f total)
          above_zero = le_lt_trans zero_f epsilon_f total (lt→le zero_f epsilon_f zero-lt-epsilon) long

    share-steady : Steady (last_of xs) xs total (raw_by share)
    share-steady = record { counts = counts; order = order; starts = starts; ends = ends; swept = swept }

  -- A share of the target: the bare quotient, and the clamped product by the reciprocal or the clamped fused forms of it.
  pub target-steady : {share : Float → Float → Float → Float} → Shares share → Steady (last_of xs) xs total (way_of (λ t. first_not_below t xs) share (quotient_of (last_of xs)) xs total)
  target-steady {share} S = share-steady (along-progress total H S) (λ a b p. ap (share a b) (sym (target-again total p)))

  -- The contraction with its clamp.
  pub contracted-steady : Steady (last_of xs) xs total (raw_by (contracted_clamped total))
  contracted-steady =
      share-steady (contracted-shares total H) (λ a b p. ap (λ (c : Float). clamp_of (div binary32 (fused_of total c (neg a)) (span_of a b)) zero_f one_f) (sym (clamped-again p)))
