-- An exponent of any number of digits, cut at a number past which its size does not matter. Definitions only.
use Rattle.std.specs.Prelude.{ℕ, cond, List, nat_lt}
use Rattle.scan.specs.Runs.{past_digits_of}
use Rattle.decimal_digits.specs.Digits.{digits_in, val}
use Rattle.decimal_digits.specs.declared.gathering.Power.{Power}

-- more than 2 ^ 63: no text has as many digits as would bring a number back from such an exponent
abbrev pub most : ℕ
most = 9300000000000000000

-- a number, or `most` where it is more
unfoldable pub capped : ℕ → ℕ
capped n = cond (nat_lt n most) n most

unfoldable pub exponent_of : List ℕ → ℕ → Power
exponent_of text from = record { at = past_digits_of text from; size = capped (val (digits_in text from (past_digits_of text from))) }
