-- `kihavute_spline_flight` meets its contract: what the entry below answers is given, and what it shows holds of the places of `answer`. Assumes nothing.
use borrow.Author.Rules.{rules}
use mathlib.Core.Path.{ap, subst}
use Rattle.flight.specs.Flights.{flight_given}
use Rattle.std.specs.Prelude.{Result}
use Rattle.answers.specs.declared.refusals.Refusal.{Refusal}
use Rattle.flight.specs.declared.Flight.{Flight}
use Rattle.spline_query.specs.Ordered.{SplineOrdered}
use Rattle.c_answer.proofs.Giving.{given-same}
use Rattle.kihavute_curves.proofs.Receiving.{spline-received}
use Rattle.kihavute_curves.proofs.splines.kihavute_spline_flight.Goals as goal

pub returns : goal.returns
returns c =
    record {
      given = given-same _ _ (ap flight_given c.spline_flight-flown.ensures.value) c.give_flight.ensures;
      spline_ordered = subst (λ (f : Result Flight Refusal). SplineOrdered f c.args.points.now c.args.table.now) c.spline_flight-flown.ensures.value c.spline_flight-flown.ensures.spline_ordered;
      spline_received_by = spline-received _ _ _ _ c.spline_flight-flown.ensures.value c.spline_flight-flown.ensures.spline_ordered c.give_flight.ensures;
    }
