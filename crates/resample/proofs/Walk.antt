-- The walk: the stretch it has come to is at or before the one that the definition picks, and where it stops it is that one. Assumes nothing.
use mathlib.Core.Path.{◌≡◌, sym, ap, ◌∙◌, subst}
use mathlib.Core.Logic.{◌⊎◌, inl, inr}
use Prim.Native.Nat.{ℕ, suc, ◌+◌, ◌-◌, ◌≤◌, ◌<◌}
use native.Mathlib.Nat.{le_trans, le-min, min-le_left, min-le_right, eq-or-lt_of_le}
use native.Mathlib.Numerals.{add-one}
use native.Mathlib.Omega.{arith}
use mathlib.Core.Bool.{not, true, false}
use mathlib.Core.List.{List}
use lib.Dec.{T}
use lib.Ieee.{Float, binary32, add, lt, le}
use Rattle.floats.proofs.Tests.{passed, failed, clashing}
use Rattle.table.specs.Lookup.{at, first_not_below}
use Rattle.table.proofs.Search.{first-is, first-upto}
use Rattle.table_order.proofs.Division.{first-mono}
use Rattle.polyline.specs.Points.{count_of}
use Rattle.polyline.specs.Lengths.{leg_of, lengths_of}
use Rattle.polyline.proofs.Legs.{lengths-next}
use Rattle.resample.specs.Spacing.{pick_of, stretch_at, Reached}
use Rattle.resample.specs.declared.walking.Stretch.{Stretch}

-- ---- what is picked
-- the lengths before the pick are below the target, so that a point before it is passed exactly while its length is below
past : (xs : List Float) (target : Float) (k : ℕ) → k ≤ first_not_below target xs → lt (at xs k) target ≡ true → suc k ≤ first_not_below target xs
past xs target k h e = go (eq-or-lt_of_le h)
  where
    go : (k ≡ first_not_below target xs) ⊎ (k < first_not_below target xs) → suc k ≤ first_not_below target xs
    go (inl same) = absurd (clashing (lt (at xs k) target) (passed e) (subst (λ (i : ℕ). T (not (lt (at xs i) target))) (sym same) (first-is xs target).found))
    go (inr less) = less

module _ (points : List Float) where
  pub pick-inside : (target : Float) → pick_of points target ≤ count_of points - 1
  unfolding pick_of
  pick-inside target = (min-le_right _ _)

  pick_first : (target : Float) → pick_of points target ≤ first_not_below target (lengths_of points)
  unfolding pick_of
  pick_first target = (min-le_left _ _)

  -- a target further on picks no point before
  pub pick-mono : (t u : Float) → T (le t u) → pick_of points t ≤ pick_of points u
  unfolding pick_of
  pick-mono t u h = le-min (le_trans (min-le_left _ _) (first-mono (lengths_of points) t u h)) (min-le_right _ _)

-- ---- the walk
pub record Walking (points : List Float) (target : Float) (upper : ℕ) (low high : Float) : Type 0 where
  pub some : 0 < count_of points
  pub before : low ≡ at (lengths_of points) (upper - 1)
  pub here : high ≡ at (lengths_of points) upper
  pub upto : upper ≤ pick_of points target

module _ (points : List Float) (target : Float) where
  pub walk_start : (stretch : Stretch) → Reached points stretch target → Walking points target stretch.upper stretch.low stretch.high
  unfolding stretch_at
  walk_start stretch r = record { some = r.some; before = ap (λ (p : Stretch). p.low) r.here; here = ap (λ (p : Stretch). p.high) r.here; upto = r.upto }

  arrived : (upper : ℕ) (low high : Float) → Walking points target upper low high → pick_of points target ≤ upper → ◌≡◌ {A = Stretch} (record { upper = upper; low = low; high = high }) (stretch_at points (pick_of points target))
  unfolding stretch_at
  arrived upper low high w p =
      let u = w.upto in
      let e : upper ≡ pick_of points target = omega arith in
      joined e (w.before ∙ ap (λ (i : ℕ). at (lengths_of points) (i - 1)) e) (w.here ∙ ap (at (lengths_of points)) e)
    where
      joined : {a b : ℕ} {x y v z : Float} → a ≡ b → x ≡ y → v ≡ z → ◌≡◌ {A = Stretch} (record { upper = a; low = x; high = v }) (record { upper = b; low = y; high = z })
      joined p q r = cc

  module _ (upper : ℕ) (low high : Float) (w : Walking points target upper low high) where
    pub walk_more : upper < count_of points - 1 → lt high target ≡ true → (leg : Float) → leg ≡ leg_of points upper → Walking points target (upper + 1) high (add binary32 high leg)
    unfolding pick_of
    walk_more inside e leg l = record {
      some = w.some;
      before = w.here ∙ ap (at (lengths_of points)) (let f : upper ≡ upper + 1 - 1 = omega arith in f);
      here = ap (λ (x : Float). add binary32 x leg) w.here ∙ ap (add binary32 (at (lengths_of points) upper)) l ∙ sym (lengths-next points upper inside) ∙ ap (at (lengths_of points)) (sym (add-one upper));
      upto =
          le-min (let f : suc upper ≤ first_not_below target (lengths_of points) = past (lengths_of points) target upper (le_trans w.upto (min-le_left _ _)) (ap (λ (x : Float). lt x target) (sym w.here) ∙ e) in omega arith)
          (omega arith);
    }

    pub walk-stop : lt high target ≡ false → ◌≡◌ {A = Stretch} (record { upper = upper; low = low; high = high }) (stretch_at points (pick_of points target))
    walk-stop e =
        arrived upper low high w
        (le_trans (pick_first points target) (first-upto (lengths_of points) target upper (failed (ap (λ (x : Float). lt x target) (sym w.here) ∙ e))))

    pub walk-done : count_of points - 1 ≤ upper → ◌≡◌ {A = Stretch} (record { upper = upper; low = low; high = high }) (stretch_at points (pick_of points target))
    walk-done h = arrived upper low high w (le_trans (pick-inside points target) h)
