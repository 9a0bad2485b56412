-- `station_lines::numbers::hex_digit` meets its contract. Assumes nothing.
use borrow.Author.Tests.{lt-ltb, le-ltb}
use Rattle.station_lines.specs.Numbers.{hex_digit}
use Rattle.station_lines.proofs.numbers.hex_digit.Goals as goal

pub returns-then-value-lt10 : goal.returns-then-value-lt10
unfolding hex_digit
returns-then-value-lt10 c = rw (lt-ltb _ 10 c.if-value-lt10.true)

pub returns : goal.returns
unfolding hex_digit
returns c = rw (le-ltb _ 10 c.if-value-lt10.false)
