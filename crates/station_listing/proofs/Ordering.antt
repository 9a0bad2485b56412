-- Demand 3 of a printed listing. `listing-ordered`: of two stations j and k of one accepted plan, j not above k, the pair of k is no earlier; the first is at the first segment's 0 and the last at
-- the last one's 1; and each line has its pair's segment number. The path must have a segment and be longer than 2^-23. What is built are f32 values, so that nothing else is asked.
-- Assumes nothing.
use Prim.Native.Nat.{ℕ, ◌<◌}
use mathlib.Core.Path.{◌≡◌, refl}
use mathlib.Core.List.{List}
use native.Mathlib.Omega.{arith}
use borrow.Author.Tests.{le-ltb}
use lib.Dec.{T}
use lib.Ieee.{lt}
use lib.ListN.{length, drop}
use Rattle.floats.specs.Floats.{epsilon_f}
use Rattle.table.specs.Spots.{path_total}
use Rattle.commands.specs.Stored.{letters_of}
use Rattle.svg.specs.Texts.{offsets_of}
use Rattle.path_stored.specs.Buffers.{Buffers}
use Rattle.path_stored.specs.Layout.{lengths_of_all, laid_wholly}
use Rattle.path_stored.proofs.Rule.{stored-rule}
use Rattle.path_stored.proofs.Values.{tables-fit, lengths-fit}
use Rattle.path_place.proofs.AnyLookup.{F32Stored}
use Rattle.path_drawing.specs.Building.{drawers_of}
use Rattle.path_build.proofs.Sound.{built-stored}
use Rattle.station_commands.proofs.PlanLaws.{letters-count}
use Rattle.text_reader.specs.Plans.{stations}
use Rattle.station_sections.specs.Ordered.{OrderedStations, EnclosedStations}
use Rattle.station_sections.proofs.Ordering.{stations-ordered, stations-enclosed}
use Rattle.station_listing.specs.Stations.{sections_of, read_of, plan_of, stations_of}
use Rattle.station_listing.specs.Ordered.{Accepted}
use Rattle.station_listing.proofs.Asking.{asked}
use Rattle.station_listing.proofs.Flying.{kinds-count}

-- the path of an accepted plan in its five buffers
abbrev pub built : {input : List ℕ} → Accepted input → Buffers
built a = laid_wholly a.segments (drawers_of a.list)

module _ (input : List ℕ) (a : Accepted input) where
  -- the listing is the three sections of the path built, so that `printed` below speaks of its lines
  pub listing-sections : stations_of input ≡ sections_of a.list (offsets_of (drop a.next input)) (built a) a.count
  unfolding stations_of plan_of read_of
  listing-sections =
      rw (a.asks, le-ltb 4096 (length (drop a.next input)) a.short, a.reads, le-ltb 256 (length (letters_of a.list)) a.few, a.builds) refl

  built-values : F32Stored (built a)
  built-values =
      let count = letters-count a.list in
      let few = a.few in
      record {
        stored = stored-rule _ (built-stored a.list a.segments (omega arith) a.builds);
        table_values = tables-fit a.segments;
        length_values = lengths-fit a.segments;
      }

  pub listing-ordered : 0 < length a.segments → T (lt epsilon_f (path_total (lengths_of_all a.segments))) → OrderedStations (built a) a.count
  listing-ordered some long =
      let ask = asked input (stations a.count a.next) 0 a.asks in
      let kinds = kinds-count a.segments in
      stations-ordered built-values (omega arith) long a.count ask.least ask.most

  pub listing-enclosed : 0 < length a.segments → T (lt epsilon_f (path_total (lengths_of_all a.segments))) → EnclosedStations (built a) a.count
  listing-enclosed some long =
      let ask = asked input (stations a.count a.next) 0 a.asks in
      let kinds = kinds-count a.segments in
      stations-enclosed built-values (omega arith) long a.count ask.least ask.most
