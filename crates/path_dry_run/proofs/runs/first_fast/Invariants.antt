-- `path_dry_run::runs::first_fast` meets its contract. The invariant: no speed before the index is too fast. Assumes nothing.
use mathlib.Core.Path.{◌≡◌}
use lib.ListN.{drop}
use Rattle.path_dry_run.specs.Seconds.{fast_of}
use Rattle.path_dry_run.proofs.runs.first_fast.Given as goal

abbrev pub invariant-loop-speed : goal.invariant-loop-speed
invariant-loop-speed l = fast_of l.speeds ≡ fast_of (drop l.speed-index l.speeds)
