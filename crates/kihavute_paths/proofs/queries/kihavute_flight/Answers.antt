-- `kihavute_flight` meets its contract: what the entry below answers is given, and what it shows holds of the places of `answer`. Assumes nothing.
use borrow.Author.Rules.{rules}
use mathlib.Core.Path.{ap}
use Rattle.flight.specs.Flights.{flight_given}
use Rattle.path_query.proofs.Demand3.{ordered_same}
use Rattle.c_answer.proofs.Giving.{given-same}
use Rattle.kihavute_paths.proofs.Receiving.{received}
use Rattle.kihavute_paths.proofs.queries.kihavute_flight.Goals as goal

pub returns : goal.returns
returns c =
    record {
      given = given-same _ _ (ap flight_given c.flight-flown.ensures.value) c.give_flight.ensures;
      ordered_by = ordered_same _ c.flight-flown.ensures.value c.flight-flown.ensures.ordered_by;
      received_by = received _ _ _ c.flight-flown.ensures.value c.flight-flown.ensures.ordered_by c.give_flight.ensures;
    }
