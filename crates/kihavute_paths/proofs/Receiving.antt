-- What a C caller of `kihavute_flight` holds meets demand 3: of any two accepted calls on the same buffers the one whose progress counts for no less has the segment and the raw parameter that are
-- no earlier, at their places in `answer`; the first and the last are the path's ends; the pair that stands there is where running lengths and table put the target. Assumes nothing.
use Prim.Native.Nat.{ℕ, ◌-◌, ◌≤◌, ◌<◌}
use mathlib.Core.Path.{◌≡◌, sym, ap, ◌∙◌, subst}
use mathlib.Core.List.{List}
use lib.Dec.{T}
use lib.ListN.{length, get_or}
use lib.Ieee.{Float, lt, le}
use Rattle.std.specs.Prelude.{Result, Ok, Err}
use Rattle.answers.specs.declared.refusals.Refusal.{Refusal}
use Rattle.answers.specs.Answers.{Answer}
use Rattle.answers.specs.Report.{written}
use Rattle.floats.specs.Floats.{zero_f, one_f, epsilon_f, bits_of, clamp01_of}
use Rattle.table.specs.Spots.{path_total}
use Rattle.table_order.specs.Stated.{NoStepBack}
use Rattle.table_order.specs.Swept.{Inside}
use Rattle.flight.specs.declared.Flight.{Flight}
use Rattle.flight.specs.Flights.{flight_given}
use Rattle.path_stored.specs.Buffers.{Buffers}
use Rattle.path_place.specs.declared.places.Place.{Place}
use Rattle.path_place.specs.Places.{placed}
use Rattle.path_place.specs.Demand.{target_along, EnclosedBy, SweptBy}
use Rattle.path_query.specs.Answered.{flew_of}
use Rattle.path_query.specs.Ordered.{pair_flown, Ordered, OrderedBy}
use Rattle.path_query.proofs.Demand3.{pair-once}
use Rattle.c_answer.specs.Given.{Given}
use Rattle.c_answer.proofs.Giving.{given-whole, given-accepted}
use Rattle.kihavute_paths.specs.Received.{Holds, Received, ReceivedBy}

-- ---- one call

-- what is written is the pair's
pub held : {b : Buffers} (o : Ordered b) (p : Float) (before : List ℕ) {after : List ℕ} → after ≡ written (flight_given (Ok (pair_flown b (o.pair p) p))).values before → Holds b (o.pair p) p after
held o p before e =
    record {
      x = ap (λ (l : List ℕ). get_or l 0 0) e;
      y = ap (λ (l : List ℕ). get_or l 1 0) e;
      heading_x = ap (λ (l : List ℕ). get_or l 2 0) e;
      heading_y = ap (λ (l : List ℕ). get_or l 3 0) e;
      segment = ap (λ (l : List ℕ). get_or l 4 0) e;
      raw = ap (λ (l : List ℕ). get_or l 5 0) e;
    }

module _ {before after : List ℕ} {returned : ℕ} where
  -- by what the entry below answers
  pub received : (b : Buffers) (p : Float) (flown : Result Flight Refusal) → flown ≡ flew_of b p → OrderedBy flown b → Given (flight_given flown) before returned after → ReceivedBy b p returned after
  received b p (Ok x) own shows g zero some long =
      let o = shows some long in
      record { calls = o; holds = held o p before ((given-whole (flight_given (Ok x)) g zero).1 ∙ ap (λ (f : Result Flight Refusal). written (flight_given f).values before) (own ∙ o.answered p)) }
  received b p (Err refusal) own shows g zero some long = absurd (given-accepted refusal g zero)

-- ---- accepted calls on the same buffers

module _ {b : Buffers} where
  -- the later progress has the later pair, as the numbers that C receives
  pub two-received : (p q : Float) (after next : List ℕ) → Received b p after → Received b q next → T (le (clamp01_of p) (clamp01_of q))
      → (x : Float) × (y : Float) × (get_or after 5 0 ≡ bits_of x) × (get_or next 5 0 ≡ bits_of y) × NoStepBack (get_or after 4 0) x (get_or next 4 0) y
  two-received p q after next c d h =
      let o = c.calls in
      let same = pair-once o d.calls q in (
        (o.pair p).raw.value,
        (o.pair q).raw.value,
        c.holds.raw,
        d.holds.raw ∙ ap (λ (pair : Place). bits_of pair.raw.value) same,
        subst (λ (i : ℕ). NoStepBack i (o.pair p).raw.value (get_or next 4 0) (o.pair q).raw.value) (sym c.holds.segment)
            (subst (λ (j : ℕ). NoStepBack (o.pair p).segment (o.pair p).raw.value j (o.pair q).raw.value) (sym (d.holds.segment ∙ ap (λ (pair : Place). pair.segment) same))
            (o.demand.order p q h)),
      )

  -- at 0 and at 1
  pub first-received : (after : List ℕ) → Received b zero_f after → (get_or after 4 0 ≡ 0) × (get_or after 5 0 ≡ bits_of zero_f)
  first-received after c =
      let at = c.calls.demand.starts in
      (c.holds.segment ∙ ap (λ (pair : Place). pair.segment) at, c.holds.raw ∙ ap (λ (pair : Place). bits_of pair.raw.value) at)

  pub last-received : (after : List ℕ) → Received b one_f after → (get_or after 4 0 ≡ length b.kinds - 1) × (get_or after 5 0 ≡ bits_of one_f)
  last-received after c =
      let at = c.calls.demand.ends in
      (c.holds.segment ∙ ap (λ (pair : Place). pair.segment) at, c.holds.raw ∙ ap (λ (pair : Place). bits_of pair.raw.value) at)

  -- between them: the segment that is received is the one whose running lengths enclose the target, and its table puts the raw parameter that is received
  pub received-enclosed : (p : Float) (after : List ℕ) → Received b p after → Inside (path_total b.lengths) (target_along b.lengths p)
      → (x : Float) × (get_or after 5 0 ≡ bits_of x) × EnclosedBy b p (placed (get_or after 4 0) x) × SweptBy b p (placed (get_or after 4 0) x)
  received-enclosed p after c inside =
      let o = c.calls in
      let x = (o.pair p).raw.value in
      let at = sym c.holds.segment in (
        x,
        c.holds.raw,
        subst (λ (i : ℕ). EnclosedBy b p (placed i x)) at (o.demand.enclosed p inside),
        subst (λ (i : ℕ). SweptBy b p (placed i x)) at (o.demand.swept p inside),
      )
