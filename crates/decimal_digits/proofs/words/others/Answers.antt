-- `decimal_digits::words::others` meets its contract. Assumes nothing.
use Rattle.std.proofs.Common.{rules}
use Rattle.decimal_digits.specs.Words.{each, others_of}
use Rattle.decimal_digits.proofs.words.others.Goals as goal

pub returns : goal.returns
unfolding each others_of
returns c = search rules
