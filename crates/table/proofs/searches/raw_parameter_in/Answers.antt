-- `table::searches::raw_parameter_in` meets its contract: a short table gives the clamped progress, and the target of any other is a number. Assumes nothing.
use Rattle.table.specs.Lookup.{target_of}
use Rattle.table.proofs.Lengths.{table-sound, total-nonneg}
use Rattle.table.proofs.Target.{target_real}
use Rattle.table.proofs.searches.raw_parameter_in.Goals as goal

pub raw_at-requires-clause-t : goal.raw_at-requires-clause-t
unfolding target_of
raw_at-requires-clause-t c =
    rw c.clamp01-t.ensures (target_real c.args.total c.args.progress.value (total-nonneg (table-sound c.args.entries.now c.args.total c.requires.sound)))
