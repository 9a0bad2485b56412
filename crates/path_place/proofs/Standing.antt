-- Where a cursor stands on a path that can be looked up: the segment of a spot is one of the path's, and its table is in its place. Assumes nothing.
use mathlib.Core.Path.{◌≡◌, sym, ap, ◌∙◌}
use Prim.Native.Nat.{ℕ, ◌<◌}
use native.Mathlib.Omega.{arith}
use mathlib.Core.Bool.{Bool, true, false, not, cond}
use mathlib.Core.List.{List}
use lib.Dec.{T}
use lib.ListN.{length}
use lib.Ieee.{Float, le}
use Rattle.floats.specs.Floats.{zero_f, one_f, epsilon_f}
use Rattle.table.specs.declared.quantities.RawParameter.{RawParameter}
use Rattle.table.specs.declared.tables.Spot.{Spot}
use Rattle.table.specs.Lookup.{last_of, first_not_below, target_of}
use Rattle.table.specs.Sound.{SoundPath}
use Rattle.table.specs.Spots.{path_total, spotted, spot_within, spot_at, spot_of}
use Rattle.table.proofs.Enclosure.{path-within}
use Rattle.table.proofs.Lengths.{path-sound, total-nonneg}
use Rattle.table.proofs.Target.{target_real}
use Rattle.path_place.specs.declared.cursors.Cursor.{Cursor}
use Rattle.path_place.specs.Cursors.{cursor_of, Moving}
use Rattle.path_place.specs.Places.{table_start, raw_within, placed, place_at, place_in, SomePlace, Standing}

-- ---- the segment of a spot

pub spot-inside : (lengths : List Float) → SoundPath lengths → (p : Float) → (spot_of lengths p).segment < length lengths
unfolding spot_of spot_at
spot-inside lengths path p = go (le total epsilon_f) (le target zero_f) (le total target) (λ n. n) (λ n. n)
  where
    total : Float
    total = path_total lengths

    target : Float
    target = target_of total p

    last : last_of lengths < length lengths
    last = let some = path.some in omega arith

    go : (short low high : Bool) → (T (not low) → T (not (le target zero_f))) → (T (not high) → T (not (le total target)))
        → (cond short (spotted (last_of lengths) one_f) (cond low (spotted 0 zero_f) (cond high (spotted (last_of lengths) one_f) (spot_within lengths target (first_not_below target lengths))))).segment < length lengths
    go true low high above below = last
    go false true high above below = path.some
    go false false true above below = last
    go false false false above below =
        (path-within lengths target path.sound (target_real total p (total-nonneg (path-sound lengths path.sound))) (above tt) (below tt)).inside

-- ---- a cursor

pub cursor-own : (kinds : List ℕ) (i : ℕ) {at : Cursor} → at ≡ cursor_of kinds i → (at.segment ≡ i) × (at ≡ cursor_of kinds at.segment)
unfolding cursor_of
cursor-own kinds i e = let own = ap (λ (cursor : Cursor). cursor.segment) e in (own, e ∙ ap (cursor_of kinds) (sym own))

pub cursor-tables : (kinds : List ℕ) (i : ℕ) {at : Cursor} → at ≡ cursor_of kinds i → at.tables ≡ table_start kinds i
unfolding cursor_of table_start
cursor-tables kinds i e = ap (λ (cursor : Cursor). cursor.tables) e

-- ---- a path that can be looked up

module _ {kinds : List ℕ} {tables lengths : List Float} (f : SomePlace kinds tables lengths) where
  pub some-path : SoundPath lengths
  some-path = let one = f.path.one in record { some = (let h = f.some in omega arith); sound = f.path.rising }

  pub spot-among : (p : Float) → (spot_of lengths p).segment < length kinds
  spot-among p = let one = f.path.one in let h = spot-inside lengths some-path p in omega arith

  pub moving : {at : Cursor} {i j : ℕ} → at ≡ cursor_of kinds j → j < length kinds → i < length kinds → Moving kinds at i
  moving {at} {i} {j} e stood inside = let own = cursor-own kinds j e in record { few = f.path.few; is = own.1; stood = omega arith; inside = omega arith }

  pub standing : {at : Cursor} {i : ℕ} → at ≡ cursor_of kinds i → i < length kinds → Standing kinds tables at
  standing {at} {i} e inside =
      let own = cursor-own kinds i e in
      let within : at.segment < length kinds = omega arith in
      record { is = own.1; inside = within; tabled = f.path.tabled at.segment within }

-- what the lookup has found is the pair of the progress
pub place_is : (kinds : List ℕ) (tables lengths : List Float) (p : Float) (spot : Spot) (at : Cursor) (raw : RawParameter) → spot ≡ spot_of lengths p → at ≡ cursor_of kinds spot.segment
    → raw.value ≡ raw_within kinds tables at.segment spot.progress.value → record { segment = spot.segment; raw = raw } ≡ place_in kinds tables lengths p
unfolding place_in
place_is kinds tables lengths p spot at raw same own e =
    ap (placed spot.segment) (e ∙ ap (λ (i : ℕ). raw_within kinds tables i spot.progress.value) (cursor-own kinds spot.segment own).0) ∙ ap (place_at kinds tables) same
