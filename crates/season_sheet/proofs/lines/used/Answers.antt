-- `season_sheet::lines::used` meets its contract. The loop keeps the count of the rows before k. Assumes nothing.
use mathlib.Core.Path.{◌≡◌, ap, ◌∙◌}
use native.Mathlib.Omega.{arith}
use Rattle.season_sheet.specs.Sheet.{used_in}
use Rattle.season_sheet.proofs.Rows.{used-none, used-more, used-same}
use Rattle.season_sheet.proofs.lines.used.Goals as goal
use Rattle.season_sheet.proofs.lines.used.Goals.{then-counts-from-ne0, else-counts-from-ne0}

pub loop-k-init : goal.loop-k-init
loop-k-init c = (used-none _ _, omega arith)

pub loop-k-preserved : goal.loop-k-preserved
loop-k-preserved c =
    elim c.if-counts-from-ne0.branch [
      | then-counts-from-ne0 w ↦ (w.found-is ∙ used-more _ _ _ _ c.loop-k.invariant.0 w.if-counts-from-ne0.true, omega (arith, w.found-is, c.loop-k.invariant.1))
      | else-counts-from-ne0 w ↦ (w.found-is ∙ used-same _ _ _ _ c.loop-k.invariant.0 w.if-counts-from-ne0.false, omega (arith, w.found-is, c.loop-k.invariant.1))
    ]

pub returns : goal.returns
returns c =
    let e : c.loop-k.k ≡ c.args.many = omega arith in
    (c.loop-k.invariant.0 ∙ ap (used_in _ _) e, omega (arith, c.loop-k.invariant.1, e))
