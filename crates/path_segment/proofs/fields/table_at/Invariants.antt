-- `path_segment::fields::table_at` meets its contract. The invariant: the entries before k are those from `at` on. Assumes nothing.
use Rattle.path_segment.proofs.Runs.{Copied}
use lib.ListN.{length}
use mathlib.Core.Path.{◌≡◌}
use Rattle.path_segment.proofs.fields.table_at.Given as goal

abbrev pub invariant-loop-k : goal.invariant-loop-k
invariant-loop-k l = (length l.entries ≡ 32) × Copied l.entries l.tables l.at l.k
