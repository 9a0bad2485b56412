-- Demand 3 of the letter, in five theorems over the definitions of `table`: whatever the number of entries or segments. A progress may be any f32: a NaN counts as 0 and the rest is
-- clamped, so `clamp01_of p` is the progress that counts. Assumes nothing.
use mathlib.Core.Path.{◌≡◌, refl, sym, ◌∙◌, subst}
use mathlib.Core.Logic.{inl, inr}
use Prim.Native.Nat.{ℕ, ◌-◌}
use mathlib.Core.Bool.{Bool, true, false, not, cond}
use mathlib.Core.List.{List}
use lib.Dec.{T}
use lib.Ieee.{Float, binary32, lt, le}
use lib.Ieee.Bits.{cond_no}
use Rattle.floats.specs.Floats.{zero_f, one_f, epsilon_f, clamp01_of}
use Rattle.floats.proofs.Tests.{cond_yes}
use Rattle.floats.proofs.Order.{le-self, lt→not-le}
use Rattle.floats.proofs.Fractions.{nonneg-real}
use Rattle.floats.proofs.Held.{Held}
use Rattle.floats.proofs.Constants.{one-held}
use Rattle.floats.proofs.Clamping.{clamp01-at-least, clamp01-at-most}
use Rattle.table.specs.declared.tables.Spot.{Spot}
use Rattle.table.specs.Lookup.{last_of, first_not_below, target_of, mark_of, raw_in_part, raw_at, raw_of}
use Rattle.table.specs.Spots.{path_total, spotted, spot_within, spot_at, spot_of, spot_toward}
use Rattle.table.proofs.Enclosure.{Encloses, Within, enclosed, path-encloses}
use Rattle.table_order.specs.Stated.{F32Table, F32Path, NoStepBack}
use Rattle.table_order.proofs.Steady.{sound-of, total-held}
use Rattle.table_order.proofs.Division.{division-shares, placed-from, placed-upto}
use Rattle.table_order.proofs.Targets.{target-held, target-mono, long-parts, raw-at-least, raw-at-most, raw-at-mono}
use Rattle.table_order.proofs.Ends.{clamped-zero, clamped-one, target-of-zero, target-of-one, target-of-one-above}
use Rattle.table_order.proofs.Spots.{Forward, path-total-held, first-segments, spot-forward, spot-way-order}

-- what theorem 4 says of a progress
pub record Placed (xs : List Float) (total p : Float) : Type 0 where
  pub enclosing : Encloses (last_of xs) xs (target_of total p) (first_not_below (target_of total p) xs)
  pub same : raw_of xs total p ≡ raw_in_part xs (target_of total p) (first_not_below (target_of total p) xs)
  pub from : T (le (mark_of (last_of xs) (first_not_below (target_of total p) xs - 1)) (raw_of xs total p))
  pub upto : T (le (raw_of xs total p) (mark_of (last_of xs) (first_not_below (target_of total p) xs)))

-- ---- one table
module _ {xs : List Float} {total : Float} (f : F32Table xs total) where
  -- 1. Order: "As progress rises from 0 to 1, .. raw parameter .. never steps back"
  -- In every sound table, also one whose total is at most 2^-23: of two progresses, the one that counts for no more has a raw parameter that is no larger.
  pub raw-order : (p q : Float) → T (le (clamp01_of p) (clamp01_of q)) → T (le (raw_of xs total p) (raw_of xs total q))
  unfolding raw_of
  raw-order p q h = go (le total epsilon_f) (λ n. n)
    where
      go : (b : Bool) → (T (not b) → T (not (le total epsilon_f))) → T (le (cond b (clamp01_of p) (raw_at xs total (target_of total p))) (cond b (clamp01_of q) (raw_at xs total (target_of total q))))
      go true long = h
      go false long = raw-at-mono f (long-parts f (long tt)) (target_of total p) (target_of total q) (target-held total (total-held f) p) (target-held total (total-held f) q) (target-mono total (total-held f) p q h)

  -- Every raw parameter lies between 0 and 1.
  pub raw-from-zero : (p : Float) → T (le zero_f (raw_of xs total p))
  unfolding raw_of
  raw-from-zero p = go (le total epsilon_f) (λ n. n)
    where
      go : (b : Bool) → (T (not b) → T (not (le total epsilon_f))) → T (le zero_f (cond b (clamp01_of p) (raw_at xs total (target_of total p))))
      go true long = clamp01-at-least p
      go false long = raw-at-least f (long-parts f (long tt)) (target_of total p) (target-held total (total-held f) p)

  pub raw-to-one : (p : Float) → T (le (raw_of xs total p) one_f)
  unfolding raw_of
  raw-to-one p = go (le total epsilon_f) (λ n. n)
    where
      go : (b : Bool) → (T (not b) → T (not (le total epsilon_f))) → T (le (cond b (clamp01_of p) (raw_at xs total (target_of total p))) one_f)
      go true long = clamp01-at-most p
      go false long = raw-at-most f (long-parts f (long tt)) (target_of total p) (target-held total (total-held f) p)

  -- 2. Ends: "it starts at the first segment's 0 and ends at the last one's 1"
  -- The raw parameter of 0 is +0 and that of 1 is 1, bit for bit, whatever the total.
  pub raw-starts : raw_of xs total zero_f ≡ zero_f
  unfolding raw_of raw_at
  raw-starts = go (le total epsilon_f)
    where
      t : Float
      t = target_of total zero_f

      rest : Float
      rest = cond (le total t) one_f (raw_in_part xs t (first_not_below t xs))

      go : (b : Bool) → cond b (clamp01_of zero_f) (cond (le t zero_f) zero_f rest) ≡ zero_f
      go true = clamped-zero
      go false = cond_yes (le t zero_f) zero_f rest (target-of-zero total (total-held f))

  pub raw-ends : raw_of xs total one_f ≡ one_f
  unfolding raw_of raw_at
  raw-ends = go (le total epsilon_f) (λ n. n)
    where
      t : Float
      t = target_of total one_f

      place : Float
      place = raw_in_part xs t (first_not_below t xs)

      go : (b : Bool) → (T (not b) → T (not (le total epsilon_f))) → cond b (clamp01_of one_f) (cond (le t zero_f) zero_f (cond (le total t) one_f place)) ≡ one_f
      go true long = clamped-one
      go false long =
          cond_no (le t zero_f) zero_f (cond (le total t) one_f place) (target-of-one-above total (total-held f) (long tt))
          ∙ cond_yes (le total t) one_f place (target-of-one total (total-held f))

  -- 3. Enclosure: "Where the target .. is above 0 and below the total, the running lengths .. enclose it: the one before (or 0) is below it, its own is not."
  pub target-enclosed : (p : Float) → T (lt zero_f (target_of total p)) → T (lt (target_of total p) total)
      → Encloses (last_of xs) xs (target_of total p) (first_not_below (target_of total p) xs)
  target-enclosed p above below = enclosed (sound-of f) (target_of total p) above below

  -- 4. Place: "the raw parameter also lies between the places of the two chosen entries, i/31 rounded"
  -- In a table longer than 2^-23, with the target above 0 and below the total: the raw parameter is the place in the part that ends at the first entry that is not below the target,
  -- and lies between that part's two marks, k/n rounded, n being the number of the last entry.
  pub raw-placed : (p : Float) → T (lt epsilon_f total) → T (lt zero_f (target_of total p)) → T (lt (target_of total p) total) → Placed xs total p
  raw-placed p long above below =
      let t = target_of total p in
      let some = long-parts f (lt→not-le total epsilon_f long) in
      let H = target-held total (total-held f) p in
      record {
        enclosing = target-enclosed p above below;
        same = is;
        from = subst (λ (r : Float). T (le (mark_of (last_of xs) (first_not_below t xs - 1)) r)) (sym is) (unfold raw_in_part in (placed-from f some division-shares t H above below));
        upto = subst (λ (r : Float). T (le r (mark_of (last_of xs) (first_not_below t xs)))) (sym is) (unfold raw_in_part in (placed-upto f some division-shares t H above below));
      }
    where
      is : raw_of xs total p ≡ raw_in_part xs (target_of total p) (first_not_below (target_of total p) xs)
      is =
          let t = target_of total p in
          let place = raw_in_part xs t (first_not_below t xs) in
          unfold raw_of raw_at in
          (cond_no (le total epsilon_f) (clamp01_of p) (raw_at xs total t) (lt→not-le total epsilon_f long)
          ∙ cond_no (le t zero_f) zero_f (cond (le total t) one_f place) (lt→not-le t zero_f above)
          ∙ cond_no (le total t) one_f place (lt→not-le total t below))

-- ---- one path
module _ {xs : List Float} (f : F32Path xs) where
  -- Over targets, lengths along the path: of two, the one that is no less lies at no earlier pair of segment and local progress, also where the total is at most 2^-23.
  pub target-order : (t u : Float) → Held binary32 t → Held binary32 u → T (le t u)
      → NoStepBack (spot_toward xs t).segment (spot_toward xs t).progress.value (spot_toward xs u).segment (spot_toward xs u).progress.value
  unfolding spot_at
  target-order t u H K h = go (le (path_total xs) epsilon_f)
    where
      go : (b : Bool) → Forward (cond b (spotted (last_of xs) one_f) (spot_at xs t)) (cond b (spotted (last_of xs) one_f) (spot_at xs u))
      go true = inr (refl, le-self one_f (nonneg-real one_f one-held.nn))
      go false = spot-forward f (first-segments f) division-shares t u H K h h

  -- 5. Path: "the pair of segment number and raw parameter .. never steps back; it starts at the first segment's 0 and ends at the last one's 1"
  -- On every sound path with a segment, also one whose total is at most 2^-23, the pair of segment and local progress never steps back.
  pub path-order : (p q : Float) → T (le (clamp01_of p) (clamp01_of q))
      → NoStepBack (spot_of xs p).segment (spot_of xs p).progress.value (spot_of xs q).segment (spot_of xs q).progress.value
  unfolding spot_of spot_at
  path-order p q h = spot-way-order f (first-segments f) division-shares p q h

  -- It starts at the first segment's 0, where the total exceeds 2^-23,
  pub path-starts : T (lt epsilon_f (path_total xs)) → spot_of xs zero_f ≡ spotted 0 zero_f
  unfolding spot_of spot_at
  path-starts long =
      cond_no (le (path_total xs) epsilon_f) _ _ (lt→not-le (path_total xs) epsilon_f long) ∙ cond_yes (le (target_of (path_total xs) zero_f) zero_f) _ _ (target-of-zero (path_total xs) (path-total-held f))

  -- and ends at the last one's 1.
  pub path-ends : spot_of xs one_f ≡ spotted (last_of xs) one_f
  unfolding spot_of spot_at
  path-ends = go (le total epsilon_f) (λ n. n)
    where
      total : Float
      total = path_total xs

      t : Float
      t = target_of total one_f

      inside : Spot
      inside = spot_within xs t (first_not_below t xs)

      go : (b : Bool) → (T (not b) → T (not (le total epsilon_f))) → cond b (spotted (last_of xs) one_f) (cond (le t zero_f) (spotted 0 zero_f) (cond (le total t) (spotted (last_of xs) one_f) inside)) ≡ spotted (last_of xs) one_f
      go true long = refl
      go false long = cond_no (le t zero_f) _ _ (target-of-one-above total (path-total-held f) (long tt)) ∙ cond_yes (le total t) _ _ (target-of-one total (path-total-held f))

  -- Where the target is above 0 and below the total, the running lengths of the segment enclose it.
  pub path-enclosed : (p : Float) → T (lt zero_f (target_of (path_total xs) p)) → T (lt (target_of (path_total xs) p) (path_total xs))
      → Within xs (target_of (path_total xs) p) (first_not_below (target_of (path_total xs) p) xs)
  path-enclosed p above below = path-encloses xs f.path.sound (target_of (path_total xs) p) above below

-- Whatever turns a segment's local progress into its raw parameter: where it never steps back within a segment, the pair of segment and raw parameter never does.
pub carried : (raw : ℕ → Float → Float) → ((i : ℕ) (x y : Float) → T (le x y) → T (le (raw i x) (raw i y)))
    → (i j : ℕ) (x y : Float) → NoStepBack i x j y → NoStepBack i (raw i x) j (raw j y)
carried raw mono i j x y (inl l) = inl l
carried raw mono i j x y (inr e) = inr (e.0, subst (λ (k : ℕ). T (le (raw i x) (raw k y))) e.0 (mono i x y e.1))
