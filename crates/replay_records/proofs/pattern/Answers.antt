-- The first two tests find a text that ends before; else each byte that is read is the list's. Assumes nothing.
use Rattle.std.proofs.Common.{arith, rules}
use Rattle.replay_records.proofs.Digits.{text-ends, text-goes-on}
use Rattle.replay_records.proofs.pattern.Goals as goal

pub returns-then-text-lt8 : goal.returns-then-text-lt8
returns-then-text-lt8 c = text-ends _ _ (omega (arith, c.if-text-lt8.true))

pub returns-then-at-text : goal.returns-then-at-text
returns-then-at-text c = text-ends _ _ (omega (arith, c.if-at-text.true, c.if-text-lt8.false))

pub returns : goal.returns
returns c = text-goes-on _ _ _ _ (search rules) c.half-high.ensures.value c.half-low.ensures.value
