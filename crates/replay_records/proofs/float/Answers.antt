-- The test tells a NaN's pattern from the others. Assumes nothing.
use lib.Ieee.{binary32}
use Rattle.decimal_rounding.proofs.Wide.{no-nan-plain}
use Rattle.replay_records.proofs.Digits.{float-nan, float-number}
use Rattle.replay_records.proofs.float.Goals as goal

pub returns-then-bits-gt2139095040 : goal.returns-then-bits-gt2139095040
unfolding lib.Ieee.div lib.Ieee.of_bits
returns-then-bits-gt2139095040 c = float-nan _ c.if-bits-gt2139095040.true

pub float_from_bits-result : goal.float_from_bits-result
float_from_bits-result c = no-nan-plain binary32 _ c.if-bits-gt2139095040.false

pub returns : goal.returns
returns c = float-number _ c.if-bits-gt2139095040.false
