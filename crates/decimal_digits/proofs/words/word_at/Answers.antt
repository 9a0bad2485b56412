-- `decimal_digits::words::word_at` meets its contract. Assumes nothing.
use Rattle.decimal_digits.specs.Words.{laid}
use Rattle.std.proofs.Common.{rules}
use Rattle.decimal_digits.proofs.words.word_at.Goals as goal

pub returns : goal.returns
unfolding laid
returns c = search rules
