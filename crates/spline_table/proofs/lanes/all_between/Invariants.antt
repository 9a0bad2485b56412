-- The invariant: all numbers pass where all before i do and all from there on. Assumes nothing.
use mathlib.Core.Path.{◌≡◌}
use mathlib.Core.Bool.{◌&&◌}
use lib.ListN.{drop}
use Rattle.spline_table.specs.Near.{every, is_between}
use Rattle.spline_table.proofs.lanes.all_between.Given as goal

abbrev pub invariant-loop-own : goal.invariant-loop-own
invariant-loop-own l = every (is_between l.low l.high) l.numbers ≡ (l.all && every (is_between l.low l.high) (drop l.own-index l.numbers))
