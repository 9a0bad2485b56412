-- `path_segment::fields::put_table` meets its contract. The invariant: the entries before k are stored. Assumes nothing.
use lib.Seq.{sets}
use lib.ListN.{length, take}
use mathlib.Core.Path.{◌≡◌}
use Rattle.path_segment.proofs.fields.put_table.Given as goal

abbrev pub invariant-loop-k : goal.invariant-loop-k
invariant-loop-k l = (length l.entries ≡ 32) × (l.tables ≡ sets l.initial.tables l.at (take l.k l.entries))
