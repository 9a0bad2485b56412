-- `decimal_digits::words::values` meets its contract. Assumes nothing.
use Rattle.decimal_digits.specs.Words.{each}
use Rattle.std.proofs.Common.{rules}
use Rattle.decimal_digits.proofs.words.values.Goals as goal

pub returns : goal.returns
unfolding each
returns c = search rules
