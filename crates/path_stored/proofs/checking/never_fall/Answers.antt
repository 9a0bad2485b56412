-- `path_stored::never_fall` meets its contract. Assumes nothing.
use Rattle.path_stored.proofs.Testing.{falls-next, falls-end}
use mathlib.Core.Path.{sym, ◌∙◌}
use borrow.Author.Rules.{rules}
use Rattle.path_stored.proofs.checking.never_fall.Goals as goal

pub loop-own-preserved : goal.loop-own-preserved
loop-own-preserved c = c.loop-own.invariant ∙ falls-next c.args.commands.now c.loop-own.rise c.loop-own.previous c.loop-own.own-index (search rules)

pub returns : goal.returns
returns c = falls-end c.args.commands.now c.loop-own.rise c.loop-own.previous c.loop-own.own-index c.loop-own-test.false ∙ sym c.loop-own.invariant
