-- The share of a leg that lies before a target, wherever the target stands from the leg's start on: also past its end, where the last leg is chosen for want of another, and at the
-- infinity. It lies between 0 and 1 and grows with the target. Assumes nothing.
use mathlib.Core.Path.{◌≡◌, refl, sym, ap, ◌∙◌, subst}
use mathlib.Core.Logic.{inl, inr}
use Prim.Native.Nat.{◌*◌, ◌<◌}
use mathlib.Core.Bool.{false}
use lib.Dec.{T}
use lib.Ieee.{Float, nan, inf, fin, is_nan, binary32, add, neg, sub, div, le}
use lib.Ieee.Positive.{num, den}
use Rattle.floats.specs.Floats.{zero_f, one_f}
use Rattle.floats.specs.Kinds.{real, nonneg}
use Rattle.floats.proofs.Order.{le-self}
use Rattle.floats.proofs.Fractions.{nonneg-real}
use Rattle.floats.proofs.Monotone.{sub-mono, div_mono}
use Rattle.floats.proofs.Rounded.{div-rounds}
use Rattle.floats.proofs.Held.{Held, rounds-real}
use Rattle.floats.proofs.Constants.{zero-le-one}
use Rattle.floats.proofs.Clamping.{clamp-at-least, clamp-at-most, clamp-mono}
use Rattle.table.specs.Lookup.{share_of}
use Rattle.table_order.proofs.Steady.{Between}
use Rattle.table_order.proofs.Division.{span_of, difference-nonneg, span-nonneg, span-above}
use Rattle.resample.proofs.Targets.{top, not_top}
use Rattle.resample_order.proofs.Targets.{Reaches, infinite-divided}

-- what the infinity is, less a number
infinite-less : (a : Float) → T (nonneg a) → sub binary32 (inf false) a ≡ inf false
unfolding sub add neg
infinite-less nan p = absurd p
infinite-less (inf s) p = absurd p
infinite-less (fin s m e) p = refl

infinite-real : T (real (inf false))
unfolding is_nan
infinite-real = tt

-- ---- a leg: where it starts, where it ends
pub record Leg (a b : Float) : Type 0 where
  pub start : T (nonneg a)
  pub end : Held binary32 b
  pub rises : T (le a b)

module _ (a b : Float) (leg : Leg a b) where
  abbrev span : Float
  span = span_of a b

  whole : Between a b b
  whole = record { start = leg.start; end = leg.end; target = leg.end; from = leg.rises; upto = le-self b (nonneg-real b leg.end.nn) }

  span-is : T (nonneg span)
  span-is = span-nonneg a b b whole

  span-some : 0 < num span
  span-some = span-above a b b whole

  abbrev quotient : Float → Float
  quotient t = div binary32 (sub binary32 t a) span

  quotient-infinite : (t : Float) → t ≡ inf false → quotient t ≡ inf false
  quotient-infinite t e =
      ap quotient e ∙ ap (λ (x : Float). div binary32 x span) (infinite-less a leg.start) ∙ infinite-divided span span-is span-some

  -- ---- a number from the leg's start on
  module _ (t : Float) (H : Held binary32 t) (from : T (le a t)) where
    way-nonneg : T (nonneg (sub binary32 t a))
    way-nonneg = difference-nonneg a t leg.start H from

    held-real : T (real (quotient t))
    held-real =
        rounds-real binary32 (quotient t) (num (sub binary32 t a) * den span) (num span * den (sub binary32 t a)) (div-rounds binary32 (sub binary32 t a) span way-nonneg span-is span-some)

  quotient-real : (t : Float) → Reaches t → T (le a t) → T (real (quotient t))
  quotient-real t (inl H) from = held-real t H from
  quotient-real t (inr e) from = subst (λ (x : Float). T (real x)) (sym (quotient-infinite t e)) infinite-real

  quotient-grows : (t u : Float) → Reaches t → Reaches u → T (le a t) → T (le a u) → T (le t u) → T (le (quotient t) (quotient u))
  quotient-grows t u (inl H) (inl K) f g h =
      div_mono binary32 (sub binary32 t a) (sub binary32 u a) span span (way-nonneg t H f) (way-nonneg u K g) span-is span-is span-some span-some
      (sub-mono binary32 t u a a H.nn K.nn leg.start leg.start f h (le-self a (nonneg-real a leg.start))) (le-self span (nonneg-real span span-is))
  quotient-grows t u (inl H) (inr e) f g h = subst (λ (x : Float). T (le (quotient t) x)) (sym (quotient-infinite u e)) (top (quotient t) (held-real t H f))
  quotient-grows t u (inr e) (inl K) f g h = absurd (not_top u K.nn (subst (λ (x : Float). T (le x u)) e h))
  quotient-grows t u (inr d) (inr e) f g h =
      subst (λ (x : Float). T (le x (quotient u))) (sym (quotient-infinite t d)) (subst (λ (x : Float). T (le (inf false) x)) (sym (quotient-infinite u e)) (top (inf false) infinite-real))

  -- ---- the share
  pub share-at-least : (t : Float) → Reaches t → T (le a t) → T (le zero_f (share_of a b t))
  unfolding share_of
  share-at-least t r from = clamp-at-least zero_f one_f zero-le-one (quotient t) (quotient-real t r from)

  pub share-at-most : (t : Float) → Reaches t → T (le a t) → T (le (share_of a b t) one_f)
  unfolding share_of
  share-at-most t r from = clamp-at-most zero_f one_f zero-le-one (quotient t) (quotient-real t r from)

  pub share-grows : (t u : Float) → Reaches t → Reaches u → T (le a t) → T (le a u) → T (le t u) → T (le (share_of a b t) (share_of a b u))
  unfolding share_of
  share-grows t u r s f g h = clamp-mono zero_f one_f zero-le-one (quotient t) (quotient u) (quotient-grows t u r s f g h)
