-- Demand 3 for a resampled line. `resampled-in-order` speaks of what an accepted call of `resample` leaves in the lent output: over a line of two or more points, longer than 2^-23, and a
-- count of two or more. Nothing is claimed where copies of the first point are given. Assumes nothing.
use mathlib.Core.Path.{◌≡◌, refl, sym, subst}
use mathlib.Core.Logic.{inl, inr}
use Prim.Native.Nat.{ℕ, zero, suc, ◌-◌, ◌≤◌, ◌<◌}
use native.Mathlib.Nat.{le_refl, le-min, min-le_left, eq-or-lt_of_le}
use native.Mathlib.Omega.{arith}
use mathlib.Core.Bool.{not}
use mathlib.Core.List.{List}
use borrow.Author.Tests.{eq-eqb, ne_eqb}
use lib.Dec.{T}
use lib.Ieee.{Float, binary32, fits, lt, le}
use lib.Ieee.Fits.{add-fits}
use lib.Ieee.Scale.{finite}
use Rattle.floats.specs.Floats.{zero_f, one_f, epsilon_f}
use Rattle.floats.specs.Kinds.{nonneg}
use Rattle.floats.proofs.Tests.{clashing}
use Rattle.floats.proofs.Order.{le_lt_trans, le-self, lt→le}
use Rattle.floats.proofs.Fractions.{nonneg-real}
use Rattle.floats.proofs.Constants.{zero_held, one-held}
use Rattle.math.specs.Math.{lerp_point_of}
use Rattle.table.specs.Lookup.{at, last_of, first_not_below}
use Rattle.table.specs.Sound.{table_is_sound}
use Rattle.table.proofs.Lengths.{Sound, table-sound, entry-nonneg, total-nonneg, start-at-most, entries-le}
use Rattle.table.proofs.Search.{first-is}
use Rattle.table.proofs.Enclosure.{Encloses, enclosed}
use Rattle.table_order.specs.Stated.{NoStepBack}
use Rattle.table_order.specs.Swept.{Enclose}
use Rattle.table_order.proofs.Spots.{no-step-back}
use Rattle.polyline.specs.Points.{count_of, point_at}
use Rattle.polyline.specs.Lengths.{lengths_of, total_of}
use Rattle.polyline.proofs.Legs.{lengths-count, lengths-first, lengths-next, lengths-sound}
use Rattle.resample.specs.Spacing.{target_at, pick_of, stretch_at, between_of, along_of, spread_at}
use Rattle.resample.proofs.Targets.{target-mono}
use Rattle.resample.proofs.Walk.{pick-inside, pick-mono}
use Rattle.resample_order.specs.Ordered.{share_in, chosen_of, share_at, OnLeg, InOrder}
use Rattle.resample_order.proofs.Targets.{Reaches, target-reaches, target-above}
use Rattle.resample_order.proofs.Shares.{Leg, share-at-least, share-at-most, share-grows}

-- ---- what is asked of the line, its total and the count
pub record Asked (points : List Float) (total : Float) (count : ℕ) : Type 0 where
  pub two : 2 ≤ count_of points
  pub more : 2 ≤ count
  pub few : count ≤ 4096
  pub sum : total ≡ total_of points
  pub fine : T (finite total)
  pub long : T (lt epsilon_f total)

-- ---- which output: the first, the last, one between
data Which (last i : ℕ) : Type 0 where
  first : i ≡ 0 → Which last i
  end : 1 ≤ i → i ≡ last → Which last i
  inner : 1 ≤ i → i < last → Which last i

which : (last i : ℕ) → i ≤ last → Which last i
which last zero h = first refl
which last (suc i) h = elim (eq-or-lt_of_le h) [ inl e ↦ end (omega arith) e | inr l ↦ inner (omega arith) l ]

module _ (points : List Float) (total : Float) (count : ℕ) (asked : Asked points total count) where
  abbrev lengths : List Float
  lengths = lengths_of points

  abbrev last : ℕ
  last = count - 1

  abbrev target : ℕ → Float
  target i = target_at total last i

  abbrev pick : ℕ → ℕ
  pick i = pick_of points (target i)

  some : 0 < last
  some = let m = asked.more in omega arith

  few : last ≤ 4095
  few = let f = asked.few in omega arith

  -- ---- the running lengths
  sound : Sound (last_of lengths) lengths total
  sound = table-sound lengths total (subst (λ (x : Float). T (table_is_sound lengths x)) (sym asked.sum) (lengths-sound points (subst (λ (x : Float). T (finite x)) asked.sum asked.fine)))

  above : T (nonneg total)
  above = total-nonneg sound

  last-length : last_of lengths ≡ count_of points - 1
  last-length = let e = lengths-count points in omega arith

  length-fits : (k : ℕ) → k ≤ count_of points - 1 → T (fits binary32 (at lengths k))
  length-fits zero h = subst (λ (x : Float). T (fits binary32 x)) (sym (lengths-first points)) zero_held.fit
  length-fits (suc k) h = subst (λ (x : Float). T (fits binary32 x)) (sym (lengths-next points k h)) (add-fits binary32 (at lengths k) _)

  leg : (k : ℕ) → k ≤ count_of points - 1 → Leg (at lengths (k - 1)) (at lengths k)
  leg k h =
      let e = last-length in
      record {
        start = entry-nonneg sound (k - 1) (omega arith);
        end = record { fit = length-fits k h; nn = entry-nonneg sound k (omega arith) };
        rises = entries-le sound (k - 1) k (omega arith) (omega arith);
      }

  -- ---- an output between: its target is above 0, so that the point picked has a leg, which starts below the target
  module _ (i : ℕ) (from : 1 ≤ i) (inside : i < last) where
    reaches : Reaches (target i)
    reaches = target-reaches last some few total i above (omega arith)

    past-zero : T (lt zero_f (target i))
    past-zero = target-above last some few total i above asked.long from (omega arith)

    pick_first : pick i ≤ first_not_below (target i) lengths
    unfolding pick_of
    pick_first = min-le_left _ _

    pick_some : 1 ≤ pick i
    unfolding pick_of
    pick_some = le-min (later (first_not_below (target i) lengths) (first-is lengths (target i)).found) (let t = asked.two in omega arith)
      where
        later : (k : ℕ) → T (not (lt (at lengths k) (target i))) → 1 ≤ k
        later zero h = absurd (clashing (lt (at lengths 0) (target i)) (le_lt_trans (at lengths 0) zero_f (target i) (start-at-most sound) past-zero) h)
        later (suc k) h = omega arith

    pick-upto : pick i ≤ count_of points - 1
    pick-upto = pick-inside points (target i)

    starts-below : T (lt (at lengths (pick i - 1)) (target i))
    starts-below = (first-is lengths (target i)).below (pick i - 1) (let p = pick_first in let q = pick_some in omega arith)

    from_start : T (le (at lengths (pick i - 1)) (target i))
    from_start = lt→le (at lengths (pick i - 1)) (target i) starts-below

    share-low : T (le zero_f (share_in points (pick i) (target i)))
    unfolding share_in
    share-low = share-at-least (at lengths (pick i - 1)) (at lengths (pick i)) (leg (pick i) pick-upto) (target i) reaches from_start

    share-high : T (le (share_in points (pick i) (target i)) one_f)
    unfolding share_in
    share-high = share-at-most (at lengths (pick i - 1)) (at lengths (pick i)) (leg (pick i) pick-upto) (target i) reaches from_start

    -- ---- what is chosen
    chosen-inner : chosen_of points total count i ≡ pick i
    unfolding chosen_of
    chosen-inner = rw (ne_eqb i 0 (λ z. omega arith), ne_eqb i last (λ z. omega arith)) refl

    share-inner : share_at points total count i ≡ share_in points (pick i) (target i)
    unfolding share_at
    share-inner = rw (ne_eqb i 0 (λ z. omega arith), ne_eqb i last (λ z. omega arith)) refl

    output-inner : spread_at points total count i ≡ lerp_point_of (point_at points (pick i - 1)) (point_at points (pick i)) (share_in points (pick i) (target i))
    unfolding spread_at along_of between_of stretch_at share_in
    output-inner = let s = pick_some in rw (ne_eqb i 0 (λ z. omega arith), ne_eqb i last (λ z. omega arith), ne_eqb (pick i) 0 (λ z. omega arith)) refl

    on-leg : OnLeg points (chosen_of points total count i) (share_at points total count i) (spread_at points total count i)
    on-leg = rw (chosen-inner, share-inner) (record { first = pick_some; last = pick-upto; from = share-low; upto = share-high; lies = output-inner })

    encloses : T (lt (target i) total) → Enclose (at lengths (chosen_of points total count i - 1)) (at lengths (chosen_of points total count i)) (target i)
    unfolding pick_of
    encloses below = rw chosen-inner (record { lower = starts-below; upper = own })
      where
        here : Encloses (last_of lengths) lengths (target i) (first_not_below (target i) lengths)
        here = enclosed sound (target i) past-zero below

        same : pick i ≡ first_not_below (target i) lengths
        same =
            let first = first_not_below (target i) lengths in
            let upto : first ≤ pick i = le-min (le_refl first) (let u = here.upto in let e = last-length in omega arith) in
            let p = pick_first in
            omega arith

        own : T (not (lt (at lengths (pick i)) (target i)))
        own = subst (λ (k : ℕ). T (not (lt (at lengths k) (target i)))) (sym same) (first-is lengths (target i)).found

  -- ---- the ends
  chosen-first : chosen_of points total count 0 ≡ 0
  unfolding chosen_of
  chosen-first = refl

  share-first : share_at points total count 0 ≡ zero_f
  unfolding share_at
  share-first = refl

  output-first : spread_at points total count 0 ≡ point_at points 0
  unfolding spread_at
  output-first = refl

  chosen-end : chosen_of points total count last ≡ count_of points - 1
  unfolding chosen_of
  chosen-end = let s = some in rw (ne_eqb last 0 (λ z. omega arith), eq-eqb last last refl) refl

  share-end : share_at points total count last ≡ one_f
  unfolding share_at
  share-end = let s = some in rw (ne_eqb last 0 (λ z. omega arith), eq-eqb last last refl) refl

  output-end : spread_at points total count last ≡ point_at points (count_of points - 1)
  unfolding spread_at
  output-end = let s = some in rw (ne_eqb last 0 (λ z. omega arith), eq-eqb last last refl) refl

  -- ---- the pair of leg and share
  abbrev Forward : ℕ → ℕ → Type 0
  Forward i j = NoStepBack (chosen_of points total count i) (share_at points total count i) (chosen_of points total count j) (share_at points total count j)

  forward : (i j : ℕ) → i ≤ j → Which last i → Which last j → Forward i j
  forward i j h (first e) (first f) = rw (e, f, chosen-first, share-first) (inr (refl, le-self zero_f (nonneg-real zero_f zero_held.nn)))
  forward i j h (first e) (end a f) = rw (e, f, chosen-first, chosen-end) (inl (let t = asked.two in omega arith))
  forward i j h (first e) (inner a b) = rw (e, chosen-first, chosen-inner j a b) (inl (pick_some j a b))
  forward i j h (end a e) (first f) = absurd (omega arith)
  forward i j h (end a e) (end b f) = rw (e, f, share-end) (inr (refl, le-self one_f (nonneg-real one_f one-held.nn)))
  forward i j h (end a e) (inner b c) = absurd (omega arith)
  forward i j h (inner a b) (first f) = absurd (omega arith)
  forward i j h (inner a b) (end c f) =
      rw (f, chosen-end, share-end, chosen-inner i a b, share-inner i a b)
      (no-step-back (pick i) (count_of points - 1) (share_in points (pick i) (target i)) one_f (pick-upto i a b) (λ e. share-high i a b))
  forward i j h (inner a b) (inner c d) =
      rw (chosen-inner i a b, share-inner i a b, chosen-inner j c d, share-inner j c d)
      (no-step-back (pick i) (pick j) (share_in points (pick i) (target i)) (share_in points (pick j) (target j)) (pick-mono points (target i) (target j) rises) (λ e. grows e))
    where
      rises : T (le (target i) (target j))
      rises = target-mono last some few total i j above h (omega arith)

      grows : pick i ≡ pick j → T (le (share_in points (pick i) (target i)) (share_in points (pick j) (target j)))
      grows e =
          subst (λ (k : ℕ). T (le (share_in points (pick i) (target i)) (share_in points k (target j)))) e
          (unfold share_in in
          (share-grows (at lengths (pick i - 1)) (at lengths (pick i)) (leg (pick i) (pick-upto i a b)) (target i) (target j) (reaches i a b) (reaches j c d) (from_start i a b)
          (subst (λ (k : ℕ). T (le (at lengths (k - 1)) (target j))) (sym e) (from_start j c d)) rises))

  pub pair-order : (i j : ℕ) → i ≤ j → j < count → Forward i j
  pair-order i j h l = forward i j h (which last i (omega arith)) (which last j (omega arith))

  not-before : (a b : ℕ) (x y : Float) → NoStepBack a x b y → a ≤ b
  not-before a b x y (inl l) = omega arith
  not-before a b x y (inr e) = let f = e.0 in omega arith

  -- The points that the contract of `resample` puts stand on the line in order.
  pub spread-in-order : InOrder points total count (spread_at points total count) (chosen_of points total count) (share_at points total count)
  spread-in-order = record {
    starts = (output-first, chosen-first);
    ends = (output-end, chosen-end);
    rises = λ i j h l. not-before (chosen_of points total count i) (chosen_of points total count j) (share_at points total count i) (share_at points total count j) (pair-order i j h l);
    order = pair-order;
    between = on-leg;
    enclosed = encloses;
  }
