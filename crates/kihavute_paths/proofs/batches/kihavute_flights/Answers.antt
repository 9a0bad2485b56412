-- `kihavute_flights` meets its contract: the answer's length is judged first, then the entry's own promise is reported. Assumes nothing.
use borrow.Author.Rules.{rules}
use native.Mathlib.Omega.{arith}
use Rattle.path_batch.proofs.Ordering.{ordered-flown-same}
use Rattle.kihavute_paths.proofs.BatchesGiven.{no-flights, flights-reported}
use Rattle.kihavute_paths.proofs.batches.kihavute_flights.Goals as goal

pub returns-then-answer-lt8 : goal.returns-then-answer-lt8
returns-then-answer-lt8 c = record { flights_given = no-flights _ _ _ _ _ _ c.if-answer-lt8.true; ordered_flown_given = λ long. absurd (omega (arith, c.if-answer-lt8.true, long)) }

pub returns : goal.returns
returns c =
    record {
      flights_given = flights-reported _ _ _ _ _ _ _ c.if-answer-lt8.false c.flights-batch.ensures.flights c.give_count.ensures;
      ordered_flown_given = λ long. ordered-flown-same _ _ _ _ _ c.flights-batch.ensures.flights.answer c.flights-batch.ensures.ordered_flown;
    }
