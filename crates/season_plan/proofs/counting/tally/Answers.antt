-- `season_plan::counting::tally` meets its contract. Assumes nothing.
use Prim.Native.Nat.{ℕ}
use mathlib.Core.Path.{refl, ap, ◌∙◌}
use mathlib.Core.List.{[], ◌∷◌}
use lib.ListN.{length}
use Rattle.season_plan.specs.Rows.{row_of, marked}
use Rattle.season_plan.proofs.Marks.{marked-length, tally-room, mapped_next, mapped-all}
use Rattle.season_plan.proofs.counting.tally.Goals as goal

pub loop-byte-init : goal.loop-byte-init
unfolding marked
loop-byte-init c = refl

pub bump-requires : goal.bump-requires
bump-requires c = tally-room _ _ _ _ _ c.loop-byte-test.true c.loop-byte.invariant c.requires.0 c.requires.1 c.row.ensures

pub loop-byte-preserved : goal.loop-byte-preserved
loop-byte-preserved c =
    c.bump.ensures
    ∙ ap (λ (r : ℕ). marked (r ∷ []) c.loop-byte.counts) c.row.ensures
    ∙ ap (marked (row_of _ ∷ [])) c.loop-byte.invariant
    ∙ mapped_next row_of _ _ c.loop-byte.byte-index c.loop-byte-test.true

pub shape_of-counts : goal.shape_of-counts
shape_of-counts c = ap length c.loop-byte.invariant ∙ marked-length _ _

pub returns : goal.returns
returns c = c.loop-byte.invariant ∙ mapped-all row_of _ _ c.loop-byte.byte-index c.loop-byte-test.false
