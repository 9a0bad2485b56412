-- Each branch's tests say which case of the definition holds. Assumes nothing.
use Rattle.std.proofs.Common.{arith, rules}
use Rattle.replay_records.proofs.Digits.{below-0, from-0, below-A, from-A, past-F}
use Rattle.replay_records.proofs.digit.Goals as goal

pub returns-then-byte-lt48 : goal.returns-then-byte-lt48
returns-then-byte-lt48 c = record { value = below-0 _ c.if-byte-lt48.true; upper_bound = search rules }

pub returns-then-byte-le57 : goal.returns-then-byte-le57
returns-then-byte-le57 c = record { value = from-0 _ (search rules) c.if-byte-le57.true; upper_bound = omega arith }

pub returns-then-byte-lt65 : goal.returns-then-byte-lt65
returns-then-byte-lt65 c = record { value = below-A _ (search rules) c.if-byte-lt65.true; upper_bound = search rules }

pub returns-then-byte-le70 : goal.returns-then-byte-le70
returns-then-byte-le70 c = record { value = from-A _ (search rules) c.if-byte-le70.true; upper_bound = omega arith }

pub returns-else-byte-le70 : goal.returns-else-byte-le70
returns-else-byte-le70 c = record { value = past-F _ c.if-byte-le70.false; upper_bound = search rules }
