-- `scan::past_run`: the run from `i` ends where the run from `at` does, of any class that the test decides.
use Rattle.std.specs.Prelude.{◌≡◌, ℕ, List}
use Rattle.scan.specs.Bytes.{Decides}
use Rattle.scan.specs.Runs.{past_all}
use Rattle.scan.proofs.runs.past_run.Given as goal

abbrev pub invariant-loop-i : goal.invariant-loop-i
invariant-loop-i g l = (class : List ℕ) → Decides (goal.F-post g l.is_member) class → past_all class l.text l.i ≡ past_all class l.text l.at
