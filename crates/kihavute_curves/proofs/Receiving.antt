-- What a C caller of `kihavute_spline_flight` holds meets demand 3: of any two accepted calls on the same spline the one whose progress counts for no less has the raw parameter that is no
-- earlier, at its place in `answer`; the first is 0, the last 1. Assumes nothing.
use Prim.Native.Nat.{ℕ}
use mathlib.Core.Path.{◌≡◌, sym, ap, ◌∙◌, subst}
use mathlib.Core.List.{List}
use lib.Dec.{T}
use lib.ListN.{get_or}
use lib.Ieee.{Float, le}
use Rattle.std.specs.Prelude.{Some, Result, Ok, Err}
use Rattle.answers.specs.declared.refusals.Refusal.{Refusal}
use Rattle.answers.specs.Answers.{Answer}
use Rattle.answers.specs.Report.{written}
use Rattle.floats.specs.Floats.{zero_f, one_f, bits_of, clamp01_of}
use Rattle.flight.specs.declared.Flight.{Flight}
use Rattle.flight.specs.Flights.{flight_given}
use Rattle.spline.specs.Formula.{spline_sample_of, spline_direction_of}
use Rattle.spline_query.specs.Queries.{spline_flown_of}
use Rattle.spline_query.specs.Ordered.{InOrder, SplineOrdered}
use Rattle.c_answer.specs.Given.{Given}
use Rattle.c_answer.proofs.Giving.{given-whole, given-accepted}
use Rattle.kihavute_curves.specs.Received.{SplineHolds, SplineReceived, SplineReceivedBy}

-- ---- one call

-- what is flown at a raw parameter
abbrev at : List Float → Float → Flight
at points raw = record { position = spline_sample_of points raw; tangent = spline_direction_of points raw; segment = Some 0; raw = record { value = raw } }

-- what is written is the raw parameter's
pub spline-held : (points : List Float) (raw : Float) (before : List ℕ) {after : List ℕ} → after ≡ written (flight_given (Ok (at points raw))).values before → SplineHolds points raw after
spline-held points raw before e =
    record {
      x = ap (λ (l : List ℕ). get_or l 0 0) e;
      y = ap (λ (l : List ℕ). get_or l 1 0) e;
      heading_x = ap (λ (l : List ℕ). get_or l 2 0) e;
      heading_y = ap (λ (l : List ℕ). get_or l 3 0) e;
      segment = ap (λ (l : List ℕ). get_or l 4 0) e;
      raw = ap (λ (l : List ℕ). get_or l 5 0) e;
    }

module _ {before after : List ℕ} {returned : ℕ} where
  -- by what the entry below answers
  pub spline-received : (points table : List Float) (p : Float) (flown : Result Flight Refusal) → flown ≡ spline_flown_of points table p → SplineOrdered flown points table
      → Given (flight_given flown) before returned after → SplineReceivedBy points table p returned after
  spline-received points table p (Ok x) own shows g zero =
      record {
        calls = shows;
        holds = spline-held points (shows.raw p) before
            ((given-whole (flight_given (Ok x)) g zero).1 ∙ ap (λ (f : Result Flight Refusal). written (flight_given f).values before) (own ∙ shows.answered p));
      }
  spline-received points table p (Err refusal) own shows g zero = absurd (given-accepted refusal g zero)

-- ---- accepted calls on the same spline

module _ {points table : List Float} where
  -- the raw parameter of a progress is one, whichever call shows it
  raw-once : (o other : InOrder points table) (p : Float) → other.raw p ≡ o.raw p
  raw-once o other p =
      let both : Ok (at points (other.raw p)) ≡ Ok (at points (o.raw p)) = sym (other.answered p) ∙ o.answered p in
      let own : at points (other.raw p) ≡ at points (o.raw p) = cc in
      ap (λ (x : Flight). x.raw.value) own

  -- the later progress has the later raw parameter, as the numbers that C receives
  pub two-spline-received : (p q : Float) (after next : List ℕ) → SplineReceived points table p after → SplineReceived points table q next → T (le (clamp01_of p) (clamp01_of q))
      → (x : Float) × (y : Float) × (get_or after 5 0 ≡ bits_of x) × (get_or next 5 0 ≡ bits_of y) × T (le x y)
  two-spline-received p q after next c d h =
      let o = c.calls in
      (o.raw p, o.raw q, c.holds.raw, d.holds.raw ∙ ap bits_of (raw-once o d.calls q), o.steady.order p q h)

  -- at 0 and at 1
  pub first-spline-received : (after : List ℕ) → SplineReceived points table zero_f after → get_or after 5 0 ≡ bits_of zero_f
  first-spline-received after c = c.holds.raw ∙ ap bits_of c.calls.steady.starts

  pub last-spline-received : (after : List ℕ) → SplineReceived points table one_f after → get_or after 5 0 ≡ bits_of one_f
  last-spline-received after c = c.holds.raw ∙ ap bits_of c.calls.steady.ends
