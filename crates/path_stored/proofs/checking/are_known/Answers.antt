-- `path_stored::are_known` meets its contract. Assumes nothing.
use Rattle.path_stored.proofs.Testing.{known_next, known-end}
use mathlib.Core.Path.{sym, ◌∙◌}
use borrow.Author.Rules.{rules}
use Rattle.path_stored.proofs.checking.are_known.Goals as goal

pub loop-kind-preserved : goal.loop-kind-preserved
loop-kind-preserved c = c.loop-kind.invariant ∙ known_next c.args.kinds.now c.loop-kind.known c.loop-kind.kind-index (search rules)

pub returns : goal.returns
returns c = known-end c.args.kinds.now c.loop-kind.known c.loop-kind.kind-index c.loop-kind-test.false ∙ sym c.loop-kind.invariant
