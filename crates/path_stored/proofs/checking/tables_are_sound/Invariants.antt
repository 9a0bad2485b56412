-- `path_stored::tables_are_sound` meets its contract. The invariant: the tables before j are sound. Assumes nothing.
use Rattle.path_stored.specs.Stored.{tables_are_sound}
use mathlib.Core.Bool.{true}
use mathlib.Core.Path.{◌≡◌}
use Rattle.path_stored.proofs.checking.tables_are_sound.Given as goal

abbrev pub invariant-loop-j : goal.invariant-loop-j
invariant-loop-j l = tables_are_sound l.tables l.j ≡ true
