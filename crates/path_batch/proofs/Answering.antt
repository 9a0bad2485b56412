-- The answers of the batches, case by case, with what each leaves in the outputs. Assumes nothing.
use Rattle.std.specs.Prelude.{Result, Ok}
use mathlib.Core.Path.{◌≡◌, sym, ap, ◌∙◌}
use Prim.Native.Nat.{ℕ, ◌*◌, ◌≤◌}
use mathlib.Core.Bool.{Bool, true, false}
use mathlib.Core.List.{List}
use borrow.Author.Tests.{le-ltb}
use lib.ListN.{length, replicate}
use lib.Ieee.{Float}
use Rattle.answers.specs.declared.refusals.Refusal.{Refusal}
use Rattle.answers.specs.declared.refusals.Values.{Values}
use Rattle.answers.specs.declared.refusals.Values.TheVariants.{Two, Three}
use Rattle.answers.specs.Report.{written}
use Rattle.floats.specs.Floats.{zero_f}
use Rattle.flight.specs.Flights.{no_segment}
use Rattle.path_stored.specs.Buffers.{Buffers}
use Rattle.path_stored.specs.Stored.{is_stored}
use Rattle.path_batch.specs.Batches.{segments_for, raws_for, numbers_for, batch_of, places_of, flights_of, given_by, Places, Flights, FilledPlaces, FilledFlights}
use Rattle.path_batch.proofs.Filling.{segments-none, raws-none, numbers-none}

-- ---- the answer, by the check and the room

module _ (b : Buffers) (short : Bool) (needs : Values) (count : ℕ) where
  batch-filled : is_stored b ≡ true → short ≡ false → batch_of b short needs count ≡ Ok count
  unfolding batch_of
  batch-filled stored e = rw (stored, e)

-- what an answer leaves in an output
stored-in : {A : Type 0} (elements before : List A) {r : Result ℕ Refusal} {after : List A} (count : ℕ) → r ≡ Ok count → after ≡ written elements before
    → after ≡ written (given_by r elements) before
stored-in {A} elements before count e f = f ∙ sym (ap (λ (r : Result ℕ Refusal). written (given_by r elements) before) e)

-- ---- places
module _ (b : Buffers) (progresses : List Float) (segments : List ℕ) (raws : List Float) where
  abbrev count : ℕ
  count = length progresses

  abbrev is : Result ℕ Refusal
  is = places_of b count (length segments) (length raws)

  module _ (stored : is_stored b ≡ true) where
    pub places-filled : (segments' : List ℕ) (raws' : List Float) → count ≤ length segments → count ≤ length raws
        → FilledPlaces b progresses segments raws segments' raws' → Places b progresses segments raws (Ok count) segments' raws'
    places-filled segments' raws' s w f =
        let e : is ≡ Ok count = batch-filled b _ (Two count count) count stored (rw (le-ltb (length segments) count s, le-ltb (length raws) count w)) in
        record {
          answer = sym e;
          segments_after = stored-in (segments_for b progresses) segments count e f.segments_are;
          raws_after = stored-in (raws_for b progresses) raws count e f.raws_are;
        }

-- ---- flights
module _ (b : Buffers) (progresses : List Float) (segments : List ℕ) (raws out : List Float) where
  abbrev amount : ℕ
  amount = length progresses

  abbrev needed : Values
  needed = Three amount amount (4 * amount)

  abbrev has : Result ℕ Refusal
  has = flights_of b amount (length segments) (length raws) (length out)

  module _ (stored : is_stored b ≡ true) where
    pub flights-filled : (segments' : List ℕ) (raws' out' : List Float) → amount ≤ length segments → amount ≤ length raws → 4 * amount ≤ length out
        → FilledFlights b progresses segments raws out segments' raws' out' → Flights b progresses segments raws out (Ok amount) segments' raws' out'
    flights-filled segments' raws' out' s w o f =
        let e : has ≡ Ok amount =
        batch-filled b _ needed amount stored (rw (le-ltb (length segments) amount s, le-ltb (length raws) amount w, le-ltb (length out) (4 * amount) o)) in
        record {
          answer = sym e;
          segments_after = stored-in (segments_for b progresses) segments amount e f.places.segments_are;
          raws_after = stored-in (raws_for b progresses) raws amount e f.places.raws_are;
          out_after = stored-in (numbers_for b progresses) out amount e f.out_is;
        }

-- ---- without segments: no segment, and zeros
module _ (b : Buffers) (progresses : List Float) (none : length b.kinds ≡ 0) where
  pub filled_none : (segments segments' : List ℕ) (raws raws' : List Float) → segments' ≡ written (replicate (length progresses) no_segment) segments
      → raws' ≡ written (replicate (length progresses) zero_f) raws → FilledPlaces b progresses segments raws segments' raws'
  filled_none segments segments' raws raws' s w =
      record {
        segments_are = s ∙ ap (λ (l : List ℕ). written l segments) (segments-none b none progresses);
        raws_are = w ∙ ap (λ (l : List Float). written l raws) (raws-none b none progresses);
      }

  pub flown-none : (segments segments' : List ℕ) (raws raws' out out' : List Float) → segments' ≡ written (replicate (length progresses) no_segment) segments
      → raws' ≡ written (replicate (length progresses) zero_f) raws → out' ≡ written (replicate (4 * length progresses) zero_f) out
      → FilledFlights b progresses segments raws out segments' raws' out'
  flown-none segments segments' raws raws' out out' s w o =
      record { places = filled_none segments segments' raws raws' s w; out_is = o ∙ ap (λ (l : List Float). written l out) (numbers-none b none progresses) }
