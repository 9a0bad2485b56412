-- `path_dry_run::runs::first_fast` meets its contract. Assumes nothing.
use mathlib.Core.Path.{sym, ◌∙◌}
use Rattle.path_dry_run.proofs.Sums.{fast-end, fast-here, fast-on}
use Rattle.path_dry_run.proofs.runs.first_fast.Goals as goal

pub returns-then-speed-gt100000 : goal.returns-then-speed-gt100000
returns-then-speed-gt100000 c =
    sym (c.loop-speed.invariant ∙ fast-here c.args.speeds.now c.loop-speed.speed-index c.loop-speed-test.true c.if-speed-gt100000.true)

pub loop-speed-preserved : goal.loop-speed-preserved
loop-speed-preserved c =
    c.loop-speed.invariant ∙ fast-on c.args.speeds.now c.loop-speed.speed-index c.loop-speed-test.true c.if-speed-gt100000.false

pub returns : goal.returns
returns c = sym (c.loop-speed.invariant ∙ fast-end c.args.speeds.now c.loop-speed.speed-index c.loop-speed-test.false)
