-- The invariant: all numbers pass where all before i do and all from there on. Assumes nothing.
use mathlib.Core.Path.{sym, ◌∙◌}
use Rattle.spline_table.specs.Near.{is_between}
use Rattle.spline_table.proofs.Near.{every-next, every-end}
use Rattle.spline_table.proofs.lanes.all_between.Goals as goal

pub loop-own-preserved : goal.loop-own-preserved
loop-own-preserved c =
    c.loop-own.invariant ∙ every-next (is_between _ _) c.args.numbers.now c.loop-own.own-index c.loop-own.all c.loop-own-test.true

pub returns : goal.returns
returns c = every-end (is_between _ _) c.args.numbers.now c.loop-own.own-index c.loop-own.all c.loop-own-test.false ∙ sym c.loop-own.invariant
