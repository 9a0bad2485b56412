-- The segment in which a progress lies, and how far along it, case by case of `spot_of`. Assumes nothing.
use mathlib.Core.Path.{◌≡◌, ap}
use Prim.Native.Nat.{ℕ}
use native.Mathlib.Omega.{arith}
use mathlib.Core.Bool.{Bool, true, false, cond}
use mathlib.Core.List.{List}
use lib.Ieee.{Float, le}
use Rattle.floats.specs.Floats.{zero_f, one_f, epsilon_f}
use Rattle.table.specs.declared.quantities.Progress.{Progress}
use Rattle.table.specs.Lookup.{at, last_of, first_not_below, target_of, share_of}
use Rattle.table.specs.Spots.{before, path_total, spotted, spot_within, spot_at, spot_of}

abbrev progress_of : Float → Progress
progress_of value = record { value = value }

module _ (lengths : List Float) (p : Float) where
  abbrev total : Float
  total = path_total lengths

  abbrev target : Float
  target = target_of total p

  -- a short path is at its end
  pub segment-short : le total epsilon_f ≡ true → last_of lengths ≡ (spot_of lengths p).segment
  unfolding spot_of spot_at
  segment-short e = rw e

  pub segment-low : le total epsilon_f ≡ false → le target zero_f ≡ true → 0 ≡ (spot_of lengths p).segment
  unfolding spot_of spot_at
  segment-low e f = rw (e, f)

  pub segment-high : le total epsilon_f ≡ false → le target zero_f ≡ false → le total target ≡ true → last_of lengths ≡ (spot_of lengths p).segment
  unfolding spot_of spot_at
  segment-high e f g = rw (e, f, g)

  -- else the one that the search finds
  pub segment-within : le total epsilon_f ≡ false → le target zero_f ≡ false → le total target ≡ false → first_not_below target lengths ≡ (spot_of lengths p).segment
  unfolding spot_of spot_at
  segment-within e f g = rw (e, f, g)

  pub along-short : le total epsilon_f ≡ true → progress_of one_f ≡ (spot_of lengths p).progress
  unfolding spot_of spot_at
  along-short e = rw e

  pub along-low : le total epsilon_f ≡ false → le target zero_f ≡ true → progress_of zero_f ≡ (spot_of lengths p).progress
  unfolding spot_of spot_at
  along-low e f = rw (e, f)

  pub along-high : le total epsilon_f ≡ false → le target zero_f ≡ false → le total target ≡ true → progress_of one_f ≡ (spot_of lengths p).progress
  unfolding spot_of spot_at
  along-high e f g = rw (e, f, g)

  -- else the share of the segment that was found
  pub along-within : le total epsilon_f ≡ false → le target zero_f ≡ false → le total target ≡ false → (segment : ℕ) → segment ≡ (spot_of lengths p).segment
      → progress_of (share_of (before lengths segment) (at lengths segment) target) ≡ (spot_of lengths p).progress
  unfolding spot_of spot_at
  along-within e f g segment is = go (le total epsilon_f) (le target zero_f) (le total target) e f g is
    where
      go : (short low high : Bool) → short ≡ false → low ≡ false → high ≡ false
          → segment ≡ (cond short (spotted (last_of lengths) one_f) (cond low (spotted 0 zero_f) (cond high (spotted (last_of lengths) one_f) (spot_within lengths target (first_not_below target lengths))))).segment
          → progress_of (share_of (before lengths segment) (at lengths segment) target)
          ≡ (cond short (spotted (last_of lengths) one_f) (cond low (spotted 0 zero_f) (cond high (spotted (last_of lengths) one_f) (spot_within lengths target (first_not_below target lengths))))).progress
      go false false false e f g is = ap (λ (i : ℕ). progress_of (share_of (before lengths i) (at lengths i) target)) is
      go true low high e f g is = absurd (let z : ◌≡◌ {A = Bool} true false = e in let y : ◌≡◌ {A = ℕ} 0 1 = cc in omega arith)
      go false true high e f g is = absurd (let z : ◌≡◌ {A = Bool} true false = f in let y : ◌≡◌ {A = ℕ} 0 1 = cc in omega arith)
      go false false true e f g is = absurd (let z : ◌≡◌ {A = Bool} true false = g in let y : ◌≡◌ {A = ℕ} 0 1 = cc in omega arith)
