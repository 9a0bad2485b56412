-- `table::lengths_are_sound` meets its contract. The invariant: the lengths before k climb, and the test of the rest decides for all; or one has failed. The measure is what is
-- left of the lengths. Assumes nothing.
use borrow.Author.Rules.{rules}
use Rattle.floats.specs.Floats.{zero_f, largest_f}
use Rattle.table.proofs.Climbing.{sound_empty, pairs_start, pairs-more, pairs-done}
use Rattle.table.proofs.soundness.lengths_are_sound.Goals as goal

pub returns-then-count-eq0 : goal.returns-then-count-eq0
returns-then-count-eq0 c = sound_empty c.args.lengths.now c.if-count-eq0.true

pub loop-k-init : goal.loop-k-init
unfolding zero_f
loop-k-init c = pairs_start c.args.lengths.now (search rules) (search rules)

pub loop-k-preserved : goal.loop-k-preserved
loop-k-preserved c =
    pairs-more c.args.lengths.now c.loop-k.k c.loop-k.climbs c.loop-k.invariant c.loop-k-test.true (search rules)

pub returns : goal.returns
unfolding largest_f
returns c =
    pairs-done c.args.lengths.now c.loop-k.k c.loop-k.climbs c.loop-k.invariant (search rules)
