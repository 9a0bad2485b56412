-- The invariant: all numbers are near where all before i are and all from there on. Assumes nothing.
use mathlib.Core.Path.{◌≡◌}
use mathlib.Core.Bool.{◌&&◌}
use lib.ListN.{drop}
use Rattle.spline_table.specs.Near.{all_near}
use Rattle.spline_table.proofs.entries.all_near.Given as goal

abbrev pub invariant-loop-number : goal.invariant-loop-number
invariant-loop-number l = all_near l.numbers ≡ (l.near && all_near (drop l.number-index l.numbers))
