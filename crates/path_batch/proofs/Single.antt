-- A batch gives what the single query gives, element by element; and any two allowed results of a batch are equal. Assumes nothing.
use Rattle.std.specs.Prelude.{Result}
use Rattle.answers.specs.declared.refusals.Refusal.{Refusal}
use mathlib.Core.Path.{◌≡◌, refl, sym, ap, ◌∙◌}
use Prim.Native.Nat.{ℕ, zero, suc, ◌*◌, ◌<◌}
use native.Mathlib.Omega.{arith}
use mathlib.Core.List.{List, [], ◌∷◌, ◌++◌}
use lib.ListN.{length, get_or, take, drop}
use lib.Ieee.{Float, nan}
use Rattle.flight.specs.Flights.{segment_given}
use Rattle.path_stored.specs.Buffers.{Buffers}
use Rattle.path_query.specs.Flights.{flight_of}
use Rattle.path_batch.specs.Batches.{numbers_of, numbers_for, Places, Flights, FilledPlaces, FilledFlights}
use Rattle.path_batch.proofs.Filling.{each_at}

numbers-at : (b : Buffers) (rest ps : List Float) (k : ℕ) → k < length ps → take 4 (drop (4 * k) (numbers_for b ps ++ rest)) ≡ numbers_of (flight_of b (get_or ps k nan))
unfolding numbers_for
numbers-at b rest [] k inside = absurd (omega arith)
numbers-at b rest (p ∷ ps) zero inside = refl
numbers-at b rest (p ∷ ps) (suc k) inside =
    let four : 4 * suc k ≡ suc (suc (suc (suc (4 * k)))) = omega arith in
    rw four (numbers-at b rest ps k (omega arith))

module _ (b : Buffers) (ps : List Float) {segments segments' : List ℕ} {raws raws' : List Float} (k : ℕ) (inside : k < length ps) where
  -- the segment k and the raw parameter k are those of `flight` at the progress k
  pub single-place : FilledPlaces b ps segments raws segments' raws' → let there = flight_of b (get_or ps k nan) in
      (get_or segments' k 0 ≡ segment_given there.segment) × (get_or raws' k nan ≡ there.raw.value)
  single-place filled = (
    ap (λ (l : List ℕ). get_or l k 0) filled.segments_are ∙ each_at (λ p. segment_given (flight_of b p).segment) 0 _ ps k inside,
    ap (λ (l : List Float). get_or l k nan) filled.raws_are ∙ each_at (λ p. (flight_of b p).raw.value) nan _ ps k inside,
  )

  -- and so are the four numbers of `flights`
  pub single-flight : {out out' : List Float} → FilledFlights b ps segments raws out segments' raws' out' → let there = flight_of b (get_or ps k nan) in
      (get_or segments' k 0 ≡ segment_given there.segment) × (get_or raws' k nan ≡ there.raw.value) × (take 4 (drop (4 * k) out') ≡ numbers_of there)
  single-flight filled =
      let place = single-place filled.places in
      (place.0, place.1, ap (λ (l : List Float). take 4 (drop (4 * k) l)) filled.out_is ∙ numbers-at b _ ps k inside)

-- ---- any two allowed results are equal

module _ {b : Buffers} {progresses : List Float} {segments : List ℕ} {raws : List Float} where
  pub places-settled : {r q : Result ℕ Refusal} {s t : List ℕ} {u v : List Float} → Places b progresses segments raws r s u
      → Places b progresses segments raws q t v → (r ≡ q) × (s ≡ t) × (u ≡ v)
  places-settled p q = (p.answer ∙ sym q.answer, p.segments_after ∙ sym q.segments_after, p.raws_after ∙ sym q.raws_after)

  pub flights-settled : {out : List Float} {r q : Result ℕ Refusal} {s t : List ℕ} {u v x y : List Float} → Flights b progresses segments raws out r s u x
      → Flights b progresses segments raws out q t v y → (r ≡ q) × (s ≡ t) × (u ≡ v) × (x ≡ y)
  flights-settled p q = (
    p.answer ∙ sym q.answer,
    p.segments_after ∙ sym q.segments_after,
    p.raws_after ∙ sym q.raws_after,
    p.out_after ∙ sym q.out_after,
  )
