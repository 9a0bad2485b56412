-- `kihavute_places` meets its contract: the answer's length is judged first, then the entry's own promise is reported. Assumes nothing.
use borrow.Author.Rules.{rules}
use native.Mathlib.Omega.{arith}
use Rattle.path_batch.proofs.Ordering.{ordered-batch-same}
use Rattle.kihavute_paths.proofs.BatchesGiven.{no-places, places-reported}
use Rattle.kihavute_paths.proofs.batches.kihavute_places.Goals as goal

pub returns-then-answer-lt8 : goal.returns-then-answer-lt8
returns-then-answer-lt8 c = record { places_given = no-places _ _ _ _ _ c.if-answer-lt8.true; ordered_given = λ long. absurd (omega (arith, c.if-answer-lt8.true, long)) }

pub returns : goal.returns
returns c =
    record {
      places_given = places-reported _ _ _ _ _ _ c.if-answer-lt8.false c.places-batch.ensures.places c.give_count.ensures;
      ordered_given = λ long. ordered-batch-same _ _ _ _ c.places-batch.ensures.places.answer c.places-batch.ensures.ordered_batch;
    }
