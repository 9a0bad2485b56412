-- `path_place::lookups::raw_within` meets its contract: the cursor stands at the segment's table. Assumes nothing.
use mathlib.Core.Path.{sym, ap, ◌∙◌, subst}
use Prim.Native.Nat.{ℕ}
use lib.ListN.{get_or}
use Rattle.path_place.specs.Places.{TableThere, raw_for, raw_within}
use Rattle.path_place.proofs.Standing.{cursor-tables}
use Rattle.path_place.proofs.lookups.raw_within.Goals as goal

pub raw_for-requires : goal.raw_for-requires
raw_for-requires c = λ has. subst (TableThere c.args.tables.now) (sym (cursor-tables _ _ c.requires.is)) (c.requires.tabled has)

pub returns : goal.returns
unfolding raw_within
returns c =
    c.raw_for.ensures ∙ ap (λ (first : ℕ). raw_for (get_or c.args.kinds.now c.args.at.segment 0) c.args.tables.now first c.args.along.value) (cursor-tables _ _ c.requires.is)
