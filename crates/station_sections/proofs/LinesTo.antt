-- Lines in order, one more at a time; and what a stored path gives a station. Assumes nothing.
use Prim.Native.Nat.{ℕ, ◌+◌, ◌*◌, ◌≤◌, ◌<◌}
use mathlib.Core.Path.{◌≡◌, refl, sym, ap, subst}
use mathlib.Core.List.{List}
use native.Mathlib.Omega.{arith}
use native.Mathlib.Numerals.{add-one}
use mathlib.Core.Bool.{Bool, true, false, cond}
use lib.Dec.{eqb}
use lib.Ieee.{Float}
use borrow.Author.Tests.{eqb-false}
use lib.ListN.{length}
use Rattle.station_lines.specs.Put.{Put, PutWithin}
use Rattle.station_lines.specs.Lines.{station_line, FewSegments}
use Rattle.station_lines.proofs.Putting.{put-none, put_same, put_then, put-length}
use Rattle.table.specs.Sound.{SoundPath}
use Rattle.flight.specs.declared.Flight.{Flight}
use Rattle.path_stored.specs.Buffers.{Buffers}
use Rattle.path_place.proofs.Standing.{spot-inside}
use Rattle.path_place.specs.Places.{place_in}
use Rattle.path_query.specs.Flights.{nowhere_f, flown_of, flight_of}
use Rattle.station_sections.specs.Sections.{lines_to, Ready, progress_of, station_of}

-- ---- the first n lines, each at most so long

pub record PutTo (line : ℕ → List ℕ) (most : ℕ) (n from : ℕ) (before out : List ℕ) (at : ℕ) : Type 0 where
  pub put : Put (lines_to line n) from before out at
  pub within : at ≤ from + most * n

pub to_none : (line : ℕ → List ℕ) (most from : ℕ) (before : List ℕ) → PutTo line most 0 from before before from
unfolding lines_to
to_none line most from before = record { put = put-none from before; within = omega arith }

module _ (line : ℕ → List ℕ) (most n from : ℕ) (before out : List ℕ) (at : ℕ) (k : PutTo line most n from before out at) where
  pub to-length : length out ≡ length before
  to-length = put-length k.put

  pub to-more : (out' : List ℕ) (at' : ℕ) → PutWithin most (line n) at out out' at' → PutTo line most (n + 1) from before out' at'
  unfolding lines_to
  to-more out' at' p =
      let s : most * (n + 1) ≡ most * n + most = omega arith in
      record {
        put = rw add-one (put_then k.put p.put);
        within = omega (arith, p.within, k.within);
      }

-- all lines are put, and their bound is known
pub to-all :
    (line : ℕ → List ℕ) (most n from : ℕ) (before out : List ℕ) (at whole : ℕ) → PutTo line most n from before out at
    → (count : ℕ) → n ≡ count → most * n ≤ whole → PutWithin whole (lines_to line count) from before out at
to-all line most n from before out at whole k count e h =
    record { put = put_same k.put (lines_to line count) (ap (lines_to line) e); within = omega (arith, k.within) }

-- ---- a station

module _ {b : Buffers} {n : ℕ} (r : Ready b n) where
  -- a segment's number has at most three digits
  pub segment-few : (p : Float) {there : Flight} → there ≡ flight_of b p → FewSegments there.segment
  unfolding flight_of flown_of place_in
  segment-few p e = subst (λ (there : Flight). FewSegments there.segment) (sym e) (few (eqb (length b.kinds) 0) refl)
    where
      few : (none : Bool) → eqb (length b.kinds) 0 ≡ none → FewSegments (cond none nowhere_f (flown_of b p)).segment
      few true e = tt
      few false e =
          let some : 0 < length b.kinds = omega (arith, eqb-false (length b.kinds) 0 e) in
          let path : SoundPath b.lengths = record { some = omega (arith, r.stored.one); sound = r.stored.rising } in
          omega (arith, spot-inside b.lengths path p, r.stored.one, r.tellable.few)

pub station-is : (b : Buffers) (n k : ℕ) (p : Float) (there : Flight) → p ≡ progress_of n k → there ≡ flight_of b p
    → station_line k there.segment there.position there.tangent ≡ station_of b n k
unfolding station_of
station-is b n k p there e f = rw (f, e)
