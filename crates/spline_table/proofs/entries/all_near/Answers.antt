-- The invariant: all numbers are near where all before i are and all from there on. Assumes nothing.
use mathlib.Core.Path.{sym, ap, ◌∙◌}
use mathlib.Core.Bool.{Bool, ◌&&◌}
use Prim.Native.Nat.{◌+◌}
use lib.ListN.{drop}
use Rattle.path_bounds.specs.Calm.{is_near}
use Rattle.spline_table.specs.Near.{all_near}
use Rattle.spline_table.proofs.Near.{every-next, every-end}
use Rattle.spline_table.proofs.entries.all_near.Goals as goal

pub loop-number-preserved : goal.loop-number-preserved
loop-number-preserved c =
    c.loop-number.invariant ∙ every-next is_near c.args.numbers.now c.loop-number.number-index c.loop-number.near c.loop-number-test.true
    ∙ ap (λ (b : Bool). (c.loop-number.near && b) && all_near (drop (c.loop-number.number-index + 1) c.args.numbers.now)) (sym c.is_near-near.ensures)

pub returns : goal.returns
returns c = every-end is_near _ c.loop-number.number-index c.loop-number.near c.loop-number-test.false ∙ sym c.loop-number.invariant
