-- `decimal_digits::words::eight` meets its contract: the lanes are joined three times. Assumes nothing.
use Rattle.decimal_digits.proofs.Lanes.{eight_is}
use Rattle.decimal_digits.proofs.words.eight.Goals as goal

pub returns : goal.returns
returns c = eight_is _ _ _ _ c.join-pairs.ensures c.join-fours.ensures c.join.ensures
