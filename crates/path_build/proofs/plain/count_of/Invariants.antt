-- `path_build::plain::count_of` meets its contract: the loop keeps that what is counted and what is left to count are the whole count. Assumes nothing.
use Prim.Native.Nat.{◌+◌, ◌≤◌}
use mathlib.Core.Path.{◌≡◌}
use lib.ListN.{drop}
use Rattle.path_build.specs.Plain.{count_in}
use Rattle.path_build.proofs.plain.count_of.Given as goal

abbrev pub invariant-loop-own : goal.invariant-loop-own
invariant-loop-own l = (l.count ≤ l.own-index) × (l.count + count_in l.letter (drop l.own-index l.letters) ≡ count_in l.letter l.letters)
