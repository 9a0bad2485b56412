-- `path_build::plain::all_near` meets its contract: the loop keeps that what is seen and what is left are the whole test. Assumes nothing.
use mathlib.Core.Path.{◌≡◌}
use mathlib.Core.Bool.{◌&&◌}
use lib.ListN.{drop}
use Rattle.path_build.specs.Plain.{all_near}
use Rattle.path_build.proofs.plain.all_near.Given as goal

abbrev pub invariant-loop-number : goal.invariant-loop-number
invariant-loop-number l = (l.near && all_near (drop l.number-index l.numbers)) ≡ all_near l.numbers
