-- `season_plan::plans::weigh` meets its contract: by the length, one mark or those of the letters and kinds. Assumes nothing.
use borrow.Author.Rules.{rules}
use Prim.Native.Nat.{ℕ, ◌≤◌, ◌<◌}
use mathlib.Core.Path.{◌≡◌, sym, ap, ◌∙◌, subst}
use mathlib.Core.List.{[], ◌∷◌, map}
use native.Mathlib.Omega.{arith}
use lib.ListN.{length, length-map}
use Rattle.season_plan.specs.Rows.{row_of}
use Rattle.season_plan.proofs.Marks.{marked-length, roomy-less, room_after}
use Rattle.season_plan.proofs.Reading.{refused-tallied, too_far, accepted-tallied}
use Rattle.season_plan.proofs.plans.weigh.Goals as goal

pub bump-requires : goal.bump-requires
bump-requires c = (omega (arith, c.requires.0), roomy-less c.requires.1 (omega arith))

pub shape_of-counts-then-length-gt1000000000 : goal.shape_of-counts-then-length-gt1000000000
shape_of-counts-then-length-gt1000000000 c = ap length c.bump.ensures ∙ marked-length _ _

pub returns-then-length-gt1000000000 : goal.returns-then-length-gt1000000000
returns-then-length-gt1000000000 c =
    refused-tallied (too_far _ _ _ (subst (λ (n : ℕ). 1000000000 < n) c.millimetres-length.ensures c.if-length-gt1000000000.true)) c.bump.ensures

pub bump-requires-2 : goal.bump-requires-2
bump-requires-2 c = (omega (arith, c.requires.0), roomy-less c.requires.1 (omega arith))

pub tally-requires : goal.tally-requires
tally-requires c = (
  ap length c.bump-2.ensures ∙ marked-length _ _ ∙ c.requires.0,
  room_after c.requires.1 (0 ∷ []) c.bump-2.ensures _ (omega (arith, c.requires.2)),
)

pub tally-requires-2 : goal.tally-requires-2
tally-requires-2 c =
    let r = room_after c.requires.1 (0 ∷ []) c.bump-2.ensures 1023 (omega arith) in (
      ap length c.tally.ensures ∙ marked-length _ _ ∙ ap length c.bump-2.ensures ∙ marked-length _ _ ∙ c.requires.0,
      room_after r (map row_of c.args.letters.now) c.tally.ensures _ (omega (arith, length-map c.args.letters.now row_of, c.requires.2, c.requires.3)),
    )

pub shape_of-counts : goal.shape_of-counts
shape_of-counts c =
    ap length c.tally-2.ensures ∙ marked-length _ _ ∙ ap length c.tally.ensures ∙ marked-length _ _ ∙ ap length c.bump-2.ensures ∙ marked-length _ _

pub returns : goal.returns
returns c =
    accepted-tallied _ _ _ c.millimetres-length.ensures c.if-length-gt1000000000.false c.bump-2.ensures c.tally.ensures c.tally-2.ensures
