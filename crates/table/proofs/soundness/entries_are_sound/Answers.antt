-- `table::entries_are_sound` meets its contract: each way out rewrites with the tests that led there. Assumes nothing.
use borrow.Author.Rules.{rules}
use Rattle.floats.specs.Floats.{zero_f}
use Rattle.table.proofs.Testing.{empty-unsound, sound-tests}
use Rattle.table.proofs.soundness.entries_are_sound.Goals as goal

pub returns-then-entries-eq0 : goal.returns-then-entries-eq0
returns-then-entries-eq0 c = empty-unsound c.args.entries.now c.args.total (search rules)

pub returns-then-lengths_are_sound : goal.returns-then-lengths_are_sound
unfolding zero_f
returns-then-lengths_are_sound c =
    rw (sound-tests c.args.entries.now c.args.total (search rules), c.if-first.true, ← c.lengths_are_sound.ensures, c.if-lengths_are_sound.true)

pub returns-else-lengths_are_sound : goal.returns-else-lengths_are_sound
unfolding zero_f
returns-else-lengths_are_sound c =
    rw (sound-tests c.args.entries.now c.args.total (search rules), c.if-first.true, ← c.lengths_are_sound.ensures, c.if-lengths_are_sound.false)

pub returns-else-first : goal.returns-else-first
unfolding zero_f
returns-else-first c =
    rw (sound-tests c.args.entries.now c.args.total (search rules), c.if-first.false)
