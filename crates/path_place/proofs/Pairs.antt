-- One table among the tables is one of f32 values; and the segment that a path picks inside. Assumes nothing.
use mathlib.Core.Path.{◌≡◌, ◌∙◌}
use Prim.Native.Nat.{ℕ, zero, suc, ◌+◌}
use mathlib.Core.List.{List, [], ◌∷◌}
use lib.Dec.{T}
use lib.ListN.{take, drop}
use lib.Seq.{get_or-drop}
use lib.Ieee.{Float, nan, binary32, lt, le}
use lib.Ieee.Bits.{cond_no}
use lib.Ieee.Fits.{nan-fits}
use Rattle.floats.specs.Floats.{zero_f, epsilon_f}
use Rattle.floats.proofs.Order.{lt→not-le}
use Rattle.table.specs.Lookup.{first_not_below, target_of}
use Rattle.table.specs.Spots.{path_total, spot_within, spot_at, spot_of}
use Rattle.table_order.specs.Stated.{F32Table}
use Rattle.path_segment.specs.Segments.{table_at}
use Rattle.path_stored.proofs.Values.{F32s}
use Rattle.path_place.specs.Places.{TableThere}
use Rattle.path_place.proofs.Tables.{there-sound}

-- ---- one table among the tables

-- what is taken from f32 values are f32 values
take-fits : (n : ℕ) (xs : List Float) → F32s xs → F32s (take n xs)
take-fits zero xs values k = nan-fits binary32
take-fits (suc n) [] values k = nan-fits binary32
take-fits (suc n) (x ∷ xs) values zero = values 0
take-fits (suc n) (x ∷ xs) values (suc k) = take-fits n xs (λ i. values (suc i)) k

module _ {tables : List Float} (values : F32s tables) where
  pub table-held : {first : ℕ} → TableThere tables first → F32Table (table_at tables first).entries (table_at tables first).total
  table-held {first} there =
      record {
        table = there-sound there;
        values = take-fits 32 (drop first tables) (λ k. rw (get_or-drop first tables k nan) (values (first + k)));
        total-value = values (first + 32);
      }

-- ---- the pick

-- with the target above 0 and below the total, the segment is the first whose running length is not below the target
pub picked-inside : (lengths : List Float) (p : Float) → T (lt epsilon_f (path_total lengths)) → T (lt zero_f (target_of (path_total lengths) p)) → T (lt (target_of (path_total lengths) p) (path_total lengths))
    → spot_of lengths p ≡ spot_within lengths (target_of (path_total lengths) p) (first_not_below (target_of (path_total lengths) p) lengths)
unfolding spot_of spot_at
picked-inside lengths p long above below =
    let total = path_total lengths in
    let target = target_of total p in
    cond_no (le total epsilon_f) _ _ (lt→not-le total epsilon_f long)
    ∙ cond_no (le target zero_f) _ _ (lt→not-le target zero_f above)
    ∙ cond_no (le total target) _ _ (lt→not-le total target below)
