-- Each branch's tests say which case of the definition holds. Assumes nothing.
use Rattle.std.proofs.Common.{arith, rules}
use Rattle.replay_records.proofs.Digits.{decimal-below, decimal-within, decimal-above}
use Rattle.replay_records.proofs.decimals.decimal.Goals as goal

pub returns-then-byte-lt48 : goal.returns-then-byte-lt48
returns-then-byte-lt48 c = record { value = decimal-below _ c.if-byte-lt48.true; upper_bound = search rules }

pub returns-then-byte-le57 : goal.returns-then-byte-le57
returns-then-byte-le57 c = record { value = decimal-within _ (search rules) c.if-byte-le57.true; upper_bound = omega arith }

pub returns-else-byte-le57 : goal.returns-else-byte-le57
returns-else-byte-le57 c = record { value = decimal-above _ c.if-byte-le57.false; upper_bound = search rules }
