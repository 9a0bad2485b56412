-- Demand 3 of the letter over the answers of `flight`: an accepted call shows it of every call on its buffers, and of any accepted calls it says that the one whose progress counts for no less has
-- the pair of segment and raw parameter that is no earlier, that the first and the last pair are the path's ends, and that the pair answered is where running lengths and table put the target.
-- `demand-3` of path_place/proofs/Demand3.antt is the demand of the lookup. Assumes nothing.
use mathlib.Core.Path.{◌≡◌, sym, ap, ◌∙◌, subst}
use Prim.Native.Nat.{◌-◌, ◌<◌}
use mathlib.Core.Bool.{true}
use lib.Dec.{T}
use lib.ListN.{length}
use lib.Ieee.{Float, lt, le}
use Rattle.std.specs.Prelude.{Result, Ok}
use Rattle.answers.specs.declared.refusals.Refusal.{Refusal}
use Rattle.floats.specs.Floats.{zero_f, one_f, epsilon_f, clamp01_of}
use Rattle.floats.proofs.Tests.{passed}
use Rattle.table.specs.Spots.{path_total}
use Rattle.table_order.specs.Stated.{NoStepBack}
use Rattle.table_order.specs.Swept.{Inside}
use Rattle.flight.specs.declared.Flight.{Flight}
use Rattle.flight.specs.Flights.{segment_given}
use Rattle.path_stored.specs.Buffers.{Buffers}
use Rattle.path_stored.specs.Stored.{is_stored}
use Rattle.path_stored.proofs.Rule.{stored-rule}
use Rattle.path_stored.proofs.Values.{F32s}
use Rattle.path_place.specs.declared.places.Place.{Place}
use Rattle.path_place.specs.Places.{placed, place_of}
use Rattle.path_place.specs.Demand.{target_along, EnclosedBy, SweptBy}
use Rattle.path_place.proofs.Demand3.{demand-3}
use Rattle.path_query.specs.Flights.{flown_of}
use Rattle.path_query.specs.Answered.{flew_of}
use Rattle.path_query.specs.Ordered.{pair_flown, Ordered, OrderedBy}
use Rattle.path_query.proofs.Answering.{flight-some, flew-well}

module _ (b : Buffers) (stored : is_stored b ≡ true) (some : 0 < length b.kinds) where
  -- what is answered is the pair of the lookup, its sample and its tangent
  pub flown-there : (p : Float) → flew_of b p ≡ Ok (pair_flown b (place_of b p) p)
  unfolding flown_of
  flown-there p = sym (flew-well b p (flown_of b p) stored (flight-some b p some))

  -- lent buffers that pass the check
  unfoldable pub ordered : F32s b.tables → F32s b.lengths → T (lt epsilon_f (path_total b.lengths)) → Ordered b
  ordered table_values length_values long =
      record {
        pair = place_of b;
        answered = flown-there;
        demand = demand-3 (record { stored = stored-rule b (passed stored); table_values = table_values; length_values = length_values }) some long;
      }

-- what an answer shows, the answer's definition shows
pub ordered_same : (b : Buffers) {r s : Result Flight Refusal} → r ≡ s → OrderedBy r b → OrderedBy s b
ordered_same b e o = subst (λ (f : Result Flight Refusal). OrderedBy f b) e o

-- ---- accepted calls on the same buffers, each answering by its contract

-- the pair that a call answers
abbrev pub pair_in : Flight → Place
pair_in flight = placed (segment_given flight.segment) flight.raw.value

module _ {b : Buffers} (o : Ordered b) where
  pub pair-answered : (p : Float) (x : Flight) → Ok x ≡ flew_of b p → pair_in x ≡ o.pair p
  pair-answered p x e =
      let both : Ok x ≡ Ok (pair_flown b (o.pair p) p) = e ∙ o.answered p in
      let own : x ≡ pair_flown b (o.pair p) p = cc in
      ap pair_in own

  -- the pair of a progress is one, whichever call shows it
  pub pair-once : (other : Ordered b) (p : Float) → other.pair p ≡ o.pair p
  pair-once other p = pair-answered p (pair_flown b (other.pair p) p) (sym (other.answered p))

  -- the one whose progress counts for no less has the pair that is no earlier
  pub two-calls : (p q : Float) (x y : Flight) → Ok x ≡ flew_of b p → Ok y ≡ flew_of b q → T (le (clamp01_of p) (clamp01_of q))
      → NoStepBack (segment_given x.segment) x.raw.value (segment_given y.segment) y.raw.value
  two-calls p q x y d e h =
      subst (λ (pair : Place). NoStepBack pair.segment pair.raw.value (segment_given y.segment) y.raw.value) (sym (pair-answered p x d))
      (subst (λ (pair : Place). NoStepBack (o.pair p).segment (o.pair p).raw.value pair.segment pair.raw.value) (sym (pair-answered q y e)) (o.demand.order p q h))

  -- at 0 and at 1
  pub first-call : (x : Flight) → Ok x ≡ flew_of b zero_f → pair_in x ≡ placed 0 zero_f
  first-call x e = pair-answered zero_f x e ∙ o.demand.starts

  pub last-call : (x : Flight) → Ok x ≡ flew_of b one_f → pair_in x ≡ placed (length b.kinds - 1) one_f
  last-call x e = pair-answered one_f x e ∙ o.demand.ends

  -- between them
  module _ (p : Float) (x : Flight) (e : Ok x ≡ flew_of b p) (inside : Inside (path_total b.lengths) (target_along b.lengths p)) where
    pub call-enclosed : EnclosedBy b p (pair_in x)
    call-enclosed = subst (EnclosedBy b p) (sym (pair-answered p x e)) (o.demand.enclosed p inside)

    pub call-swept : SweptBy b p (pair_in x)
    call-swept = subst (SweptBy b p) (sym (pair-answered p x e)) (o.demand.swept p inside)
