-- A flight beside its segment's own queries: the position and the heading that `kihavute_flight` answers are those that `kihavute_segment_position` and `kihavute_segment_tangent` answer for the
-- segment that it names, at the local progress that the path's lookup gives (`kihavute_spot`), whose raw parameter is the one answered. Assumes nothing.
use Prim.Native.Nat.{ℕ, zero, suc, ◌<◌}
use mathlib.Core.Path.{◌≡◌, refl, sym, ap, ◌∙◌, subst}
use mathlib.Core.Bool.{Bool, true, false, cond}
use mathlib.Core.List.{List}
use Rattle.std.specs.Prelude.{Option, Some, Result, Ok, Err}
use native.Mathlib.Omega.{arith}
use borrow.Author.Tests.{lt-ltb}
use lib.Dec.{T}
use lib.ListN.{length, get_or, drop}
use lib.Ieee.{Float}
use Rattle.answers.specs.declared.refusals.Refusal.{Refusal}
use Rattle.answers.specs.declared.refusals.Refusal.TheVariants.{BadPath}
use Rattle.floats.specs.Floats.{bits_of}
use Rattle.floats.proofs.Tests.{passed, cond_yes, same_test}
use Rattle.math.specs.declared.points.Point.{Point}
use Rattle.table.specs.declared.tables.Table.{Table}
use Rattle.table.specs.Sound.{table_is_sound, SoundPath}
use Rattle.table.specs.Spots.{spot_of}
use Rattle.flight.specs.declared.Flight.{Flight}
use Rattle.bezier.specs.Curves.{ahead_of, placed_of}
use Rattle.bezier.specs.Quads.{quad_placed_of, quad_position_of, quad_heading_of, quad_tangent_of, quad_tangent_at}
use Rattle.bezier.specs.Cubics.{cubic_placed_of, cubic_position_of, cubic_heading_of, cubic_tangent_of, cubic_tangent_at}
use Rattle.arc.specs.Lines.{line_position_of}
use Rattle.arc.specs.Arcs.{arc_placed_of, arc_position_of, arc_heading_of, arc_tangent_of}
use Rattle.path_segment.specs.declared.segments.PathSegment.{PathSegment}
use Rattle.path_segment.specs.declared.segments.PathSegment.TheVariants as Segment
use Rattle.path_segment.specs.Segments.{kind_of, width_of, tables_of, has_table, table_at, segment_of}
use Rattle.path_stored.specs.Buffers.{Buffers}
use Rattle.path_stored.specs.Stored.{before, is_stored, segment_in, table_in}
use Rattle.path_stored.specs.Queries.{part_of}
use Rattle.path_stored.specs.declared.queries.Part.{Part}
use Rattle.path_stored.proofs.Rule.{stored-rule}
use Rattle.path_stored.proofs.Reading.{stored-fielded, stored-tabled, table-in-sound}
use Rattle.path_part.specs.Parts.{position_of, tangent_of}
use Rattle.path_place.specs.declared.places.Place.{Place}
use Rattle.path_place.specs.Places.{raw_in, raw_for, table_start, raw_within, place_in, place_of}
use Rattle.path_place.proofs.Standing.{spot-inside}
use Rattle.path_heading.specs.Headings.{sample_of, heading_of}
use Rattle.path_query.specs.Flights.{flight_of}
use Rattle.path_query.specs.Answered.{flew_of}
use Rattle.path_query.specs.Ordered.{sample_at, heading_at, pair_flown, Ordered}
use Rattle.path_query.proofs.Demand3.{flown-there, pair-answered}
use Rattle.c_answer.specs.Given.{Given}
use Rattle.c_answer.specs.Places.{place_given}
use Rattle.c_answer.proofs.Giving.{given-same, given-whole}
use Rattle.kihavute_paths.specs.Received.{Received}
use Rattle.kihavute_segments.specs.Segments.{position_given, tangent_given}

-- ---- a segment with its table, if it has one

module _ (tables : List Float) (first : ℕ) (along : Float) where
  abbrev own : Table
  own = table_at tables first

  at-sound : (p : Point) → T (table_is_sound own.entries own.total) → placed_of own p ≡ Ok p
  unfolding placed_of
  at-sound p sound = cond_yes (table_is_sound own.entries own.total) (Ok p) (Err BadPath) sound

  module _ (table : Table) where
    position_at : (segment : PathSegment) → (T (has_table (kind_of segment)) → (table ≡ table_at tables first) × T (table_is_sound (table_at tables first).entries (table_at tables first).total))
        → position_of segment table along ≡ Ok (sample_of segment (raw_for (kind_of segment) tables first along))
    unfolding position_of quad_placed_of quad_position_of cubic_placed_of cubic_position_of arc_placed_of arc_position_of line_position_of sample_of raw_for raw_in has_table tables_of
    position_at (Segment.Line line) there = refl
    position_at (Segment.Quad start control end) there = rw (there tt).0 (at-sound _ (there tt).1)
    position_at (Segment.Cubic start control1 control2 end) there = rw (there tt).0 (at-sound _ (there tt).1)
    position_at (Segment.Arc shape) there = rw (there tt).0 (at-sound _ (there tt).1)
    position_at (Segment.Fallback shape) there = refl

    tangent-at : (segment : PathSegment) → (T (has_table (kind_of segment)) → (table ≡ table_at tables first) × T (table_is_sound (table_at tables first).entries (table_at tables first).total))
        → tangent_of segment table along ≡ Ok (heading_of segment (raw_for (kind_of segment) tables first along) (raw_in tables first (ahead_of along)))
    unfolding tangent_of quad_heading_of quad_tangent_of quad_tangent_at cubic_heading_of cubic_tangent_of cubic_tangent_at arc_heading_of arc_tangent_of heading_of raw_for raw_in has_table tables_of
    tangent-at (Segment.Line line) there = refl
    tangent-at (Segment.Quad start control end) there = rw (there tt).0 (at-sound _ (there tt).1)
    tangent-at (Segment.Cubic start control1 control2 end) there = rw (there tt).0 (at-sound _ (there tt).1)
    tangent-at (Segment.Arc shape) there = rw (there tt).0 (at-sound _ (there tt).1)
    tangent-at (Segment.Fallback shape) there = refl

-- ---- segment i of a stored path

-- a known kind reads as itself
segment-kind : (kind : ℕ) (numbers : List Float) → kind < 5 → kind_of (segment_of kind numbers) ≡ kind
unfolding segment_of
segment-kind zero numbers known = refl
segment-kind (suc zero) numbers known = refl
segment-kind (suc (suc zero)) numbers known = refl
segment-kind (suc (suc (suc zero))) numbers known = refl
segment-kind (suc (suc (suc (suc zero)))) numbers known = refl
segment-kind (suc (suc (suc (suc (suc kind))))) numbers known = absurd (omega arith)

module _ (b : Buffers) (stored : is_stored b ≡ true) (i : ℕ) (inside : i < length b.kinds) (along : Float) where
  abbrev segment : PathSegment
  segment = segment_in b.kinds b.fields i

  kind-is : kind_of (segment_in b.kinds b.fields i) ≡ get_or b.kinds i 0
  unfolding segment_in
  kind-is = segment-kind (get_or b.kinds i 0) (drop (before width_of b.kinds i) b.fields) ((stored-fielded b (passed stored)).known i inside)

  table-there : T (has_table (kind_of (segment_in b.kinds b.fields i)))
      → (table_in b.kinds b.tables i ≡ table_at b.tables (table_start b.kinds i))
      × T (table_is_sound (table_at b.tables (table_start b.kinds i)).entries (table_at b.tables (table_start b.kinds i)).total)
  unfolding table_in table_start
  table-there has =
      let curve = same_test (has_table (get_or b.kinds i 0)) true (λ _. tt) (λ _. subst (λ (k : ℕ). T (has_table k)) kind-is has) in
      let is : table_in b.kinds b.tables i ≡ table_at b.tables (table_start b.kinds i) = rw curve refl in
      (is, subst (λ (t : Table). T (table_is_sound t.entries t.total)) is (table-in-sound (stored-tabled b (passed stored)) i inside curve))

  part-is : part_of b i ≡ Ok (Some (record { segment = segment_in b.kinds b.fields i; table = table_in b.kinds b.tables i }))
  unfolding part_of
  part-is = rw (stored, lt-ltb i (length b.kinds) inside) refl

  -- its own queries are the sample and the heading at the raw parameter of the local progress
  pub segment-position : position_given (part_of b i) along ≡ place_given (Ok (sample_of (segment_in b.kinds b.fields i) (raw_within b.kinds b.tables i along)))
  unfolding raw_within
  segment-position =
      ap (λ (found : Result (Option Part) Refusal). position_given found along) part-is
      ∙ ap place_given
      (position_at b.tables (table_start b.kinds i) along (table_in b.kinds b.tables i) segment table-there
      ∙ ap (λ (k : ℕ). Ok (sample_of segment (raw_for k b.tables (table_start b.kinds i) along))) kind-is)

  pub segment-tangent : tangent_given (part_of b i) along
      ≡ place_given
      (Ok (heading_of (segment_in b.kinds b.fields i) (raw_within b.kinds b.tables i along) (raw_in b.tables (table_start b.kinds i) (ahead_of along))))
  unfolding raw_within
  segment-tangent =
      ap (λ (found : Result (Option Part) Refusal). tangent_given found along) part-is
      ∙ ap place_given
      (tangent-at b.tables (table_start b.kinds i) along (table_in b.kinds b.tables i) segment table-there
      ∙ ap (λ (k : ℕ). Ok (heading_of segment (raw_for k b.tables (table_start b.kinds i) along) (raw_in b.tables (table_start b.kinds i) (ahead_of along)))) kind-is)

-- ---- beside a flight

-- a call that answers is of buffers that pass the check
checked : {b : Buffers} → Ordered b → (p : Float) → is_stored b ≡ true
unfolding flew_of
checked {b} o p = go (is_stored b) (flight_of b p) refl (o.answered p)
  where
    go : (t : Bool) (x : Flight) → is_stored b ≡ t → cond t (Ok x) (Err BadPath) ≡ Ok (pair_flown b (o.pair p) p) → is_stored b ≡ true
    go true x e f = e
    go false x e f = let z : ◌≡◌ {A = ℕ} 0 1 = cc in absurd (omega (arith, z))

module _ {b : Buffers} (some : 0 < length b.kinds) (p : Float) (after : List ℕ) (r : Received b p after) where
  -- the local progress that the path's lookup gives
  abbrev along : Float
  along = (spot_of b.lengths p).progress.value

  stored : is_stored b ≡ true
  stored = checked r.calls p

  pair_is : r.calls.pair p ≡ place_of b p
  pair_is = sym (pair-answered r.calls p (pair_flown b (place_of b p) p) (sym (flown-there b stored some p)))

  inside : (spot_of b.lengths p).segment < length b.kinds
  inside =
      let rule = stored-rule b (passed stored) in
      let one = rule.one in
      let path : SoundPath b.lengths = record { some = omega arith; sound = rule.rising } in
      omega (arith, spot-inside b.lengths path p)

  -- the segment answered is the lookup's
  segment-is : get_or after 4 0 ≡ (spot_of b.lengths p).segment
  unfolding place_in
  segment-is = r.holds.segment ∙ ap (λ (pair : Place). pair.segment) pair_is

  module _ (start next : List ℕ) (returned : ℕ) (zero : returned ≡ 0) where
    pub position-tied : Given (position_given (part_of b (get_or after 4 0)) (spot_of b.lengths p).progress.value) start returned next
        → (get_or next 0 0 ≡ get_or after 0 0) × (get_or next 1 0 ≡ get_or after 1 0)
    unfolding place_in
    position-tied given =
        let own = given-same _ _ (ap (λ (i : ℕ). position_given (part_of b i) along) segment-is ∙ segment-position b stored (spot_of b.lengths p).segment inside along) given in
        let put = (given-whole _ own zero).1 in (
          ap (λ (l : List ℕ). get_or l 0 0) put ∙ sym (r.holds.x ∙ ap (λ (pair : Place). bits_of (sample_at b pair).x) pair_is),
          ap (λ (l : List ℕ). get_or l 1 0) put ∙ sym (r.holds.y ∙ ap (λ (pair : Place). bits_of (sample_at b pair).y) pair_is),
        )

    pub tangent-tied : Given (tangent_given (part_of b (get_or after 4 0)) (spot_of b.lengths p).progress.value) start returned next
        → (get_or next 0 0 ≡ get_or after 2 0) × (get_or next 1 0 ≡ get_or after 3 0)
    unfolding place_in
    tangent-tied given =
        let own = given-same _ _ (ap (λ (i : ℕ). tangent_given (part_of b i) along) segment-is ∙ segment-tangent b stored (spot_of b.lengths p).segment inside along) given in
        let put = (given-whole _ own zero).1 in (
          ap (λ (l : List ℕ). get_or l 0 0) put ∙ sym (r.holds.heading_x ∙ ap (λ (pair : Place). bits_of (heading_at b pair p).x) pair_is),
          ap (λ (l : List ℕ). get_or l 1 0) put ∙ sym (r.holds.heading_y ∙ ap (λ (pair : Place). bits_of (heading_at b pair p).y) pair_is),
        )

  -- and the raw parameter that is answered is the one at which both are taken
  pub raw-tied : get_or after 5 0 ≡ bits_of (raw_within b.kinds b.tables (get_or after 4 0) (spot_of b.lengths p).progress.value)
  unfolding place_in
  raw-tied = r.holds.raw ∙ ap (λ (pair : Place). bits_of pair.raw.value) pair_is ∙ ap (λ (i : ℕ). bits_of (raw_within b.kinds b.tables i along)) (sym segment-is)
