-- What a C caller of `kihavute_places` or `kihavute_flights` holds meets demand 3: of the places of two outputs on the same buffers, the one whose progress counts for no less has the segment and the
-- raw parameter that are no earlier; at 0 and at 1 they are the path's ends; and between these they are where running lengths and table put the target. Assumes nothing.
use Prim.Native.Nat.{ℕ, ◌-◌, ◌≤◌, ◌<◌}
use mathlib.Core.Path.{◌≡◌, refl, sym, ap, ◌∙◌, subst}
use mathlib.Core.Bool.{Bool, true, false, cond}
use mathlib.Core.List.{List}
use Rattle.std.specs.Prelude.{Result, Ok, Err}
use Rattle.answers.specs.declared.refusals.Refusal.{Refusal}
use native.Mathlib.Omega.{arith}
use borrow.Author.Tests.{ltb-false}
use lib.Dec.{T, ltb}
use lib.ListN.{length, get_or}
use lib.Ieee.{Float, nan, lt, le}
use Rattle.floats.specs.Floats.{zero_f, one_f, epsilon_f, clamp01_of}
use Rattle.table.specs.Spots.{path_total}
use Rattle.table_order.specs.Stated.{NoStepBack}
use Rattle.table_order.specs.Swept.{Inside}
use Rattle.path_stored.specs.Buffers.{Buffers}
use Rattle.path_place.specs.declared.places.Place.{Place}
use Rattle.path_place.specs.Places.{placed}
use Rattle.path_place.specs.Demand.{target_along, EnclosedBy, SweptBy}
use Rattle.path_query.proofs.Demand3.{pair-once}
use Rattle.path_batch.specs.Batches.{batch_answer, flights_by}
use Rattle.path_batch.specs.Ordered.{OrderedPlaces, OrderedBatch, OrderedFlights, OrderedFlown}
use Rattle.c_answer.specs.Given.{Given}
use Rattle.c_answer.proofs.Giving.{given-accepted}
use Rattle.kihavute_paths.specs.Batches.{places_by, PlacesGiven, OrderedGiven, FlightsGiven, OrderedFlownGiven}

-- ---- a call that returns 0

-- it was lent a long enough answer
long-enough : (answer : List ℕ) (number : ℕ) {returned : ℕ} → returned ≡ cond (ltb (length answer) 8) 255 number → returned ≡ 0 → 8 ≤ length answer
long-enough answer number code zero = go (ltb (length answer) 8) refl (sym code ∙ zero)
  where
    go : (b : Bool) → ltb (length answer) 8 ≡ b → cond b 255 number ≡ 0 → 8 ≤ length answer
    go true e f = absurd (omega (arith, f))
    go false e f = ltb-false (length answer) 8 e

module _ (b : Buffers) (progresses : List Float) (answer : List ℕ) {answer' : List ℕ} {returned : ℕ} (zero : returned ≡ 0)
    (some : 0 < length b.kinds) (long : T (lt epsilon_f (path_total b.lengths))) where
  -- its outputs hold the pairs, each at its place
  pub places-received : (segments : List ℕ) (raws : List Float) {segments' : List ℕ} {raws' : List Float}
      → PlacesGiven b progresses segments raws answer returned segments' raws' answer'
      → OrderedGiven b progresses segments raws answer segments' raws'
      → OrderedPlaces b progresses segments' raws'
  places-received segments raws {segments'} {raws'} given ordered =
      go (places_by b progresses segments raws) given.reported (ordered (long-enough answer _ given.reported.code zero))
    where
      go : (batch : Result ℕ Refusal) → Given (batch_answer batch) answer returned answer' → OrderedBatch batch b progresses segments' raws' → OrderedPlaces b progresses segments' raws'
      go (Ok count) g shows = shows some long
      go (Err refusal) g shows = absurd (given-accepted refusal g zero)

  -- and four numbers of each pair
  pub flights-received : (segments : List ℕ) (raws out : List Float) {segments' : List ℕ} {raws' out' : List Float}
      → FlightsGiven b progresses segments raws out answer returned segments' raws' out' answer'
      → OrderedFlownGiven b progresses segments raws out answer segments' raws' out'
      → OrderedFlights b progresses segments' raws' out'
  flights-received segments raws out {segments'} {raws'} {out'} given ordered =
      go (flights_by b progresses segments raws out) given.reported (ordered (long-enough answer _ given.reported.code zero))
    where
      go : (batch : Result ℕ Refusal) → Given (batch_answer batch) answer returned answer' → OrderedFlown batch b progresses segments' raws' out' → OrderedFlights b progresses segments' raws' out'
      go (Ok count) g shows = shows some long
      go (Err refusal) g shows = absurd (given-accepted refusal g zero)

-- ---- the places of outputs, of one call or of two on the same buffers

moved : {i j k l : ℕ} {x y u v : Float} → i ≡ j → x ≡ y → k ≡ l → u ≡ v → NoStepBack j y l v → NoStepBack i x k u
moved {i} {j} {k} {l} {x} {y} {u} {v} e f g h n =
    subst (λ (a : ℕ). NoStepBack a x k u) (sym e)
    (subst (λ (a : Float). NoStepBack j a k u) (sym f) (subst (λ (a : ℕ). NoStepBack j y a u) (sym g) (subst (λ (a : Float). NoStepBack j y l a) (sym h) n)))

module _ {b : Buffers} {ps qs : List Float} {segments others : List ℕ} {raws more : List Float} (o : OrderedPlaces b ps segments raws) (s : OrderedPlaces b qs others more) where
  pub places-never-back : (j k : ℕ) → j < length ps → k < length qs → T (le (clamp01_of (get_or ps j nan)) (clamp01_of (get_or qs k nan)))
      → NoStepBack (get_or segments j 0) (get_or raws j nan) (get_or others k 0) (get_or more k nan)
  places-never-back j k a z h =
      let same = pair-once o.calls s.calls (get_or qs k nan) in
      moved (o.segments_are j a) (o.raws_are j a) (s.segments_are k z ∙ ap (λ (pair : Place). pair.segment) same) (s.raws_are k z ∙ ap (λ (pair : Place). pair.raw.value) same)
      (o.calls.demand.order (get_or ps j nan) (get_or qs k nan) h)

module _ {b : Buffers} {ps : List Float} {segments : List ℕ} {raws : List Float} (o : OrderedPlaces b ps segments raws) (k : ℕ) (inside : k < length ps) where
  abbrev p : Float
  p = get_or ps k nan

  -- the pair that stands there
  abbrev there : Place
  there = placed (get_or segments k 0) (get_or raws k nan)

  stands : there ≡ o.calls.pair (get_or ps k nan)
  stands = rw (o.segments_are k inside, o.raws_are k inside) refl

  -- what counts as 0 is at the first segment's 0, and what counts as 1 at the last one's 1
  pub place-starts : clamp01_of (get_or ps k nan) ≡ zero_f → (get_or segments k 0 ≡ 0) × (get_or raws k nan ≡ zero_f)
  place-starts e =
      let at = o.calls.demand.counts p ∙ ap o.calls.pair e ∙ o.calls.demand.starts in
      (o.segments_are k inside ∙ ap (λ (pair : Place). pair.segment) at, o.raws_are k inside ∙ ap (λ (pair : Place). pair.raw.value) at)

  pub place-ends : clamp01_of (get_or ps k nan) ≡ one_f → (get_or segments k 0 ≡ length b.kinds - 1) × (get_or raws k nan ≡ one_f)
  place-ends e =
      let at = o.calls.demand.counts p ∙ ap o.calls.pair e ∙ o.calls.demand.ends in
      (o.segments_are k inside ∙ ap (λ (pair : Place). pair.segment) at, o.raws_are k inside ∙ ap (λ (pair : Place). pair.raw.value) at)

  -- between them the running lengths of the segment enclose the target, and the entries of its table too
  pub place-enclosed : Inside (path_total b.lengths) (target_along b.lengths (get_or ps k nan))
      → EnclosedBy b (get_or ps k nan) (placed (get_or segments k 0) (get_or raws k nan)) × SweptBy b (get_or ps k nan) (placed (get_or segments k 0) (get_or raws k nan))
  place-enclosed within = (subst (EnclosedBy b p) (sym stands) (o.calls.demand.enclosed p within), subst (SweptBy b p) (sym stands) (o.calls.demand.swept p within))
