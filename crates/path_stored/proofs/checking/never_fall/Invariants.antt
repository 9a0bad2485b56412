-- `path_stored::never_fall` meets its contract. The invariant: no number falls where none before the index does and none from there on, with the last before it before them. Assumes nothing.
use Rattle.path_stored.specs.Stored.{never_fall}
use lib.ListN.{drop}
use mathlib.Core.Bool.{◌&&◌}
use mathlib.Core.Path.{◌≡◌}
use Rattle.path_stored.proofs.checking.never_fall.Given as goal

abbrev pub invariant-loop-own : goal.invariant-loop-own
invariant-loop-own l = never_fall 0 l.commands ≡ (l.rise && never_fall l.previous (drop l.own-index l.commands))
