-- What a query finds where a cursor stands: the segment's fields and its table; and that what it works out there is what the definitions say. Assumes nothing.
use mathlib.Core.Path.{◌≡◌, refl, sym, ap, ◌∙◌, subst}
use Prim.Native.Nat.{ℕ, zero, suc, ◌<◌}
use native.Mathlib.Omega.{arith}
use mathlib.Core.List.{List}
use lib.Dec.{T}
use lib.ListN.{length, get_or, drop}
use lib.Ieee.{Float}
use Rattle.math.specs.declared.points.Point.{Point}
use Rattle.table.specs.declared.quantities.RawParameter.{RawParameter}
use Rattle.table.specs.declared.tables.Spot.{Spot}
use Rattle.table.specs.Spots.{spot_of}
use Rattle.std.specs.Prelude.{Some}
use Rattle.bezier.specs.Curves.{ahead_of}
use Rattle.path_segment.specs.declared.segments.PathSegment.{PathSegment}
use Rattle.path_segment.specs.Segments.{kind_of, width_of, has_table, segment_of}
use Rattle.path_stored.specs.Buffers.{Buffers}
use Rattle.path_stored.specs.Stored.{before, Fielded, Stored, segment_in}
use Rattle.path_stored.proofs.Reading.{record-fielded}
use Rattle.path_place.specs.declared.cursors.Cursor.{Cursor}
use Rattle.path_place.specs.Cursors.{cursor_of}
use Rattle.path_place.specs.Places.{place_in, raw_in, raw_within, TableThere, SomePlace}
use Rattle.path_place.proofs.Tables.{findable}
use Rattle.path_place.proofs.Standing.{cursor-own, cursor-tables, standing}
use Rattle.path_heading.specs.Headings.{sample_of, heading_of}
use Rattle.path_query.specs.Flights.{flown_within, flown_of, Seated, Flyable}

-- ---- the fields of a segment

pub cursor-fields : (kinds : List ℕ) (i : ℕ) {at : Cursor} → at ≡ cursor_of kinds i → at.fields ≡ before width_of kinds i
unfolding cursor_of
cursor-fields kinds i e = ap (λ (cursor : Cursor). cursor.fields) e

-- a known kind reads as itself
segment-kind : (kind : ℕ) (fields : List Float) → kind < 5 → kind_of (segment_of kind fields) ≡ kind
unfolding segment_of
segment-kind zero fields known = refl
segment-kind (suc zero) fields known = refl
segment-kind (suc (suc zero)) fields known = refl
segment-kind (suc (suc (suc zero))) fields known = refl
segment-kind (suc (suc (suc (suc zero)))) fields known = refl
segment-kind (suc (suc (suc (suc (suc kind))))) fields known = absurd (omega arith)

segment-in-kind : (kinds : List ℕ) (fields : List Float) → Fielded kinds fields → (i : ℕ) → i < length kinds → kind_of (segment_in kinds fields i) ≡ get_or kinds i 0
unfolding segment_in
segment-in-kind kinds fields fielded i inside = segment-kind (get_or kinds i 0) (drop (before width_of kinds i) fields) (fielded.known i inside)

-- the table of the segment that was read is in its place
pub seated-table : {kinds : List ℕ} {fields tables : List Float} {at : Cursor} → Seated kinds fields tables at → (segment : PathSegment) → segment ≡ segment_in kinds fields at.segment
    → T (has_table (kind_of segment)) → TableThere tables at.tables
seated-table {kinds} {fields} {tables} {at} s segment same has =
    let here = s.standing in
    let kind = ap kind_of same ∙ segment-in-kind kinds fields s.fielded at.segment here.inside in
    subst (TableThere tables) (sym (cursor-tables kinds at.segment here.is)) (here.tabled (subst (λ (k : ℕ). T (has_table k)) kind has))

-- ---- a path with a segment

module _ {b : Buffers} (f : Flyable b) where
  pub some-place : SomePlace b.kinds b.tables b.lengths
  some-place = record { some = f.some; path = findable f.path }

  pub seated : {at : Cursor} {i : ℕ} → at ≡ cursor_of b.kinds i → i < length b.kinds → Seated b.kinds b.fields b.tables at
  seated e inside = record { standing = standing some-place e inside; fielded = record-fielded b f.path }

-- what passes the check and has a segment
module _ {b : Buffers} (s : Stored b) (some : 0 < length b.kinds) where
  pub a-flight : Flyable b
  a-flight = record { some = some; path = s }

-- ---- what is worked out

module _ (kinds : List ℕ) (fields tables : List Float) (at : Cursor) (along : Float) where
  pub flown-is : (segment : PathSegment) (raw : RawParameter) (position tangent : Point) → at ≡ cursor_of kinds at.segment → segment ≡ segment_in kinds fields at.segment
      → raw.value ≡ raw_within kinds tables at.segment along → position ≡ sample_of segment raw.value
      → tangent ≡ heading_of segment raw.value (raw_in tables at.tables (ahead_of along))
      → record { position = position; tangent = tangent; segment = Some at.segment; raw = raw } ≡ flown_within kinds fields tables at.segment along
  unfolding flown_within
  flown-is segment raw position tangent own s r p t =
      let there : raw ≡ record { value = raw_within kinds tables at.segment along } = ap (λ (x : Float). record { value = x }) r in
      rw (p, t, s, there, cursor-tables kinds at.segment own)

pub flight-is : (b : Buffers) (p : Float) (spot : Spot) (at : Cursor) → spot ≡ spot_of b.lengths p → at ≡ cursor_of b.kinds spot.segment
    → flown_within b.kinds b.fields b.tables at.segment spot.progress.value ≡ flown_of b p
unfolding flown_within flown_of place_in
flight-is b p spot at same own = rw ((cursor-own b.kinds spot.segment own).0, same)
