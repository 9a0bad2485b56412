-- A number below 2^23 units is moved up to 24 digits by its count of leading zeros (`lead`); above, the digits are in the pattern.
-- Assumes nothing.
use native.Mathlib.Omega.{arith}
use Rattle.root.proofs.Patterns.{lead, split-small, split-large}
use Rattle.root.proofs.pattern.split.Goals as goal

pub overflow_sub-result : goal.overflow_sub-result
overflow_sub-result c = omega (arith, (lead c.args.b c.requires.0 c.if-b-lt8388608.true).least)

pub returns-then-b-lt8388608 : goal.returns-then-b-lt8388608
returns-then-b-lt8388608 c = split-small c.args.b _ (lead c.args.b c.requires.0 c.if-b-lt8388608.true) c.if-b-lt8388608.true

pub returns-else-b-lt8388608 : goal.returns-else-b-lt8388608
returns-else-b-lt8388608 c = split-large c.args.b c.if-b-lt8388608.false c.requires.1
