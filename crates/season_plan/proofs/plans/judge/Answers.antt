-- `season_plan::judge` meets its contract: what reading answers, then what building does. Assumes nothing.
use borrow.Author.Rules.{rules}
use Prim.Native.Nat.{ℕ, ◌<◌}
use mathlib.Core.Path.{◌≡◌, sym, ap, ◌∙◌, subst}
use native.Mathlib.Omega.{arith}
use lib.ListN.{length}
use Rattle.station_listing.proofs.Texts.{spare, not-read, letters-most, numbers-most, held}
use Rattle.season_plan.proofs.Marks.{marked-length, roomy-less}
use Rattle.season_plan.proofs.Reading.{number-row, number-tallied, unread-counted}
use Rattle.season_plan.proofs.plans.judge.Goals as goal

-- ---- a refusal
pub bump-requires : goal.bump-requires
bump-requires c =
    let h : c.number.result < 25 = subst (λ (n : ℕ). n < 25) (sym c.number.ensures) (number-row c.in-Err.refusal) in
    (omega (arith, h, c.requires.0), roomy-less c.requires.1 (omega arith))

pub shape_of-counts-in-Err : goal.shape_of-counts-in-Err
shape_of-counts-in-Err c = ap length c.bump.ensures ∙ marked-length _ _

pub returns-in-Err : goal.returns-in-Err
returns-in-Err c =
    number-tallied
    (unread-counted _ c.requires.2
    (not-read _ c.requires.2 c.read_lean.ensures
    (spare (search rules) (search rules) (search rules))
    c.in-Err.is))
    c.number.ensures c.bump.ensures

-- ---- a list
pub slice_bounds-letters-end : goal.slice_bounds-letters-end
slice_bounds-letters-end c =
    let most = letters-most _ c.requires.2 c.read_lean.ensures (spare (search rules) (search rules) (search rules)) c.in-Ok.is in
    omega (arith, most)

pub slice_bounds-numbers-end : goal.slice_bounds-numbers-end
slice_bounds-numbers-end c =
    let most = numbers-most _ c.requires.2 c.read_lean.ensures (spare (search rules) (search rules) (search rules)) c.in-Ok.is in
    omega (arith, most)

pub fly-requires : goal.fly-requires
fly-requires c = (
  c.requires.0,
  c.requires.1,
  record {
    text = c.args.text.now;
    is = held _ c.requires.2 c.read_lean.ensures
        (spare (search rules) (search rules) (search rules))
        c.in-Ok.is;
  },
)

pub shape_of-counts-in-Ok : goal.shape_of-counts-in-Ok
shape_of-counts-in-Ok c =
    ap length
    (c.fly.ensures _
    (held _ c.requires.2 c.read_lean.ensures
    (spare (search rules) (search rules) (search rules))
    c.in-Ok.is)).counts ∙ marked-length _ _

pub returns-in-Ok : goal.returns-in-Ok
returns-in-Ok c =
    c.fly.ensures _
    (held _ c.requires.2 c.read_lean.ensures
    (spare (search rules) (search rules) (search rules))
    c.in-Ok.is)
