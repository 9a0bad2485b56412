-- `svg::read_lean` meets its contract: a text that is too long is refused, and of any other all is still to be read. Assumes nothing.
use borrow.Author.Rules.{rules}
use Rattle.svg.proofs.Answering.{too_long}
use Rattle.svg.proofs.Holding.{begun-none}
use Rattle.svg.proofs.lean.read_lean.Goals as goal

pub returns-then-size-gt65536 : goal.returns-then-size-gt65536
returns-then-size-gt65536 c = too_long _ _ c.if-size-gt65536.true

pub read_on-requires : goal.read_on-requires
read_on-requires c = (search rules, rw c.fresh.ensures (begun-none _))
