-- Lookups of a path that differ from the code's in one table alone, and what demand 3 asks of them: whatever looks a table up so that it is steady (`Steady` of table_order/specs/Swept.antt),
-- a path's lookup with it meets the demand: `steady-meets`. So the demand asks of a curve just what `Steady` says. Assumes nothing.
use mathlib.Core.Path.{◌≡◌, refl, sym, ap, ◌∙◌, subst}
use Prim.Native.Nat.{ℕ, ◌-◌, ◌<◌}
use native.Mathlib.Omega.{arith}
use mathlib.Core.Bool.{Bool, true, false, cond}
use mathlib.Core.List.{List}
use lib.Dec.{T}
use lib.ListN.{length, get_or}
use lib.Ieee.{Float, lt, le}
use Rattle.floats.specs.Floats.{zero_f, one_f, epsilon_f, clamp01_of}
use Rattle.floats.proofs.Tests.{cond_yes}
use Rattle.floats.proofs.Clamping.{clamp01-mono}
use Rattle.floats.proofs.Order.{le→not-lt}
use Rattle.table.specs.declared.tables.Spot.{Spot}
use Rattle.table.specs.Lookup.{at, last_of, first_not_below, target_of}
use Rattle.table.specs.Spots.{before, path_total, spot_within, spot_of}
use Rattle.table_order.specs.Stated.{F32Table, F32Path}
use Rattle.table_order.specs.Swept.{Inside, Enclose, Swept, Steady}
use Rattle.table_order.proofs.Ends.{clamped-zero, clamped-one}
use Rattle.table_order.proofs.Swept.{clamped-again}
use Rattle.table_order.proofs.Theorems.{path-order, path-starts, path-ends, path-enclosed, carried}
use Rattle.path_segment.specs.Segments.{has_table}
use Rattle.path_stored.specs.Buffers.{Buffers}
use Rattle.path_stored.specs.Stored.{Stored}
use Rattle.path_stored.proofs.Values.{F32s}
use Rattle.path_place.specs.declared.places.Place.{Place}
use Rattle.path_place.specs.Places.{placed}
use Rattle.path_place.specs.Demand.{EnclosedBy, SweptBy, Demand3, target_along, local_of, table_on}
use Rattle.path_place.proofs.Tables.{entries-last, has-inside, table-there}
use Rattle.path_place.proofs.Pairs.{table-held, picked-inside}

-- a stored path whose tables and running lengths are f32 values, as those of every lent slice are
pub record F32Stored (b : Buffers) : Type 0 where
  pub stored : Stored b
  pub table_values : F32s b.tables
  pub length_values : F32s b.lengths

pub path-held : {b : Buffers} → F32Stored b → 0 < length b.kinds → F32Path b.lengths
path-held f some = let one = f.stored.one in record { path = record { some = omega arith; sound = f.stored.rising }; values = f.length_values }

pub spot-counts : (lengths : List Float) (p : Float) → spot_of lengths p ≡ spot_of lengths (clamp01_of p)
unfolding spot_of target_of
spot-counts lengths p = rw (clamped-again p) refl

-- ---- another way through a table: the segment and the local progress are 01's, the raw parameter is what `way` makes of the entries, the total and the local progress

abbrev pub with_way : (List Float → Float → Float → Float) → Buffers → Float → Place
with_way way b p =
    let spot = spot_of b.lengths p in
    let table = table_on b spot.segment in
    let along = spot.progress.value in
    placed spot.segment (cond (has_table (get_or b.kinds spot.segment 0)) (way table.entries table.total along) (clamp01_of along))

-- in every sound table of 32 f32 values
abbrev pub WaySteady : (List Float → Float → Float → Float) → Type 0
WaySteady way = (xs : List Float) (total : Float) → F32Table xs total → last_of xs ≡ 31 → Steady 31 xs total (way xs total)

module _ (way : List Float → Float → Float → Float) (is : WaySteady way) {b : Buffers} (f : F32Stored b) where
  abbrev own : ℕ → Float → Float
  own i along = way (table_on b i).entries (table_on b i).total along

  abbrev raw_by : ℕ → Float → Float
  raw_by i along = cond (has_table (get_or b.kinds i 0)) (own i along) (clamp01_of along)

  abbrev place_by : Spot → Place
  place_by spot = placed spot.segment (raw_by spot.segment spot.progress.value)

  abbrev Own : ℕ → Type 0
  Own i = Steady 31 (table_on b i).entries (table_on b i).total (way (table_on b i).entries (table_on b i).total)

  held : (i : ℕ) → T (has_table (get_or b.kinds i 0)) → Own i
  held i has = let there = table-there f.stored i (has-inside b.kinds i has) has in is _ _ (table-held f.table_values there) (entries-last there)

  by_order : (i : ℕ) (x y : Float) → T (le x y) → T (le (raw_by i x) (raw_by i y))
  by_order i x y h = by_kind (has_table (get_or b.kinds i 0)) (held i)
    where
      by_kind : (curve : Bool) → (T curve → Own i) → T (le (cond curve (own i x) (clamp01_of x)) (cond curve (own i y) (clamp01_of y)))
      by_kind true steady = (steady tt).order x y (clamp01-mono x y h)
      by_kind false steady = clamp01-mono x y h

  by-starts : (i : ℕ) → raw_by i zero_f ≡ zero_f
  by-starts i = by_kind (has_table (get_or b.kinds i 0)) (held i)
    where
      by_kind : (curve : Bool) → (T curve → Own i) → cond curve (own i zero_f) (clamp01_of zero_f) ≡ zero_f
      by_kind true steady = (steady tt).starts
      by_kind false steady = clamped-zero

  by-ends : (i : ℕ) → raw_by i one_f ≡ one_f
  by-ends i = by_kind (has_table (get_or b.kinds i 0)) (held i)
    where
      by_kind : (curve : Bool) → (T curve → Own i) → cond curve (own i one_f) (clamp01_of one_f) ≡ one_f
      by_kind true steady = (steady tt).ends
      by_kind false steady = clamped-one

  -- on a stored path with a segment, longer than 2^-23
  pub steady-meets : 0 < length b.kinds → T (lt epsilon_f (path_total b.lengths)) → Demand3 b (with_way way b)
  steady-meets some long =
      let path = path-held f some in
      let last : last_of b.lengths ≡ length b.kinds - 1 = (let one = f.stored.one in omega arith) in
      record {
        counts = λ p. ap place_by (spot-counts b.lengths p);
        order = λ p q h. carried raw_by by_order _ _ _ _ (path-order path p q h);
        starts = ap place_by (path-starts path long) ∙ ap (placed 0) (by-starts 0);
        ends = ap place_by (path-ends path) ∙ ap (placed (last_of b.lengths)) (by-ends (last_of b.lengths)) ∙ ap (λ (i : ℕ). placed i one_f) last;
        enclosed = λ p inside. subst (EnclosedBy b p) (sym (ap place_by (picked p inside))) (enclosed-there path p inside);
        swept = λ p inside. subst (SweptBy b p) (sym (ap place_by (picked p inside))) (λ has far. within (wanted p) (local_of b.lengths p (wanted p)) has far);
      }
    where
      -- the segment that 01 picks
      wanted : Float → ℕ
      wanted p = first_not_below (target_along b.lengths p) b.lengths

      picked : (p : Float) → Inside (path_total b.lengths) (target_along b.lengths p) → spot_of b.lengths p ≡ spot_within b.lengths (target_along b.lengths p) (wanted p)
      picked p inside = picked-inside b.lengths p long inside.above inside.below

      enclosed-there : F32Path b.lengths → (p : Float) → Inside (path_total b.lengths) (target_along b.lengths p)
          → Enclose (before b.lengths (wanted p)) (at b.lengths (wanted p)) (target_along b.lengths p)
      enclosed-there path p inside =
          let e = path-enclosed path p inside.above inside.below in
          record { lower = e.lower; upper = le→not-lt (target_along b.lengths p) (at b.lengths (wanted p)) e.upper }

      within : (i : ℕ) (along : Float) → T (has_table (get_or b.kinds i 0)) → let table = table_on b i in
          T (lt epsilon_f table.total) → Swept 31 table.entries table.total (target_of table.total along) (raw_by i along)
      within i along has far =
          let table = table_on b i in
          subst (Swept 31 table.entries table.total (target_of table.total along)) (sym (cond_yes (has_table (get_or b.kinds i 0)) _ _ has)) ((held i has).swept along far)
