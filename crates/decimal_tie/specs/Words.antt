-- Numbers of three words of 50 binary digits. Definitions only.
use Rattle.std.specs.Prelude.{ℕ, ◌+◌, ◌*◌, ◌^◌, ◌<◌, ◌≡◌}
use Rattle.decimal_tie.specs.declared.scales.Wide.{Wide}
use Rattle.decimal_tie.specs.declared.scales.Tenfold.{Tenfold}
use Rattle.decimal_tie.specs.declared.scales.Six.{Six}

-- the number that three words stand for
abbrev pub wide_of : Wide → ℕ
wide_of w = (w.a * 2 ^ 50 + w.b) * 2 ^ 50 + w.c

-- each word has 50 binary digits at most
pub record Small (w : Wide) : Type 0 where
  pub a_lt : w.a < 2 ^ 50
  pub b_lt : w.b < 2 ^ 50
  pub c_lt : w.c < 2 ^ 50

-- ten times w and a digit, word by word, with what each carries
pub record Tens (w : Wide) (digit : ℕ) (r : Tenfold) : Type 0 where
  pub one : ℕ
  pub two : ℕ
  pub at_c : w.c * 10 + digit ≡ one * 2 ^ 50 + r.rest.c
  pub at_b : w.b * 10 + one ≡ two * 2 ^ 50 + r.rest.b
  pub at_a : w.a * 10 + two ≡ r.out * 2 ^ 50 + r.rest.a
  pub small : Small r.rest
  pub out-lt : r.out < 10

-- a number in six words, the last three of them counted in 2 ^ -150
pub record Splits (n : ℕ) (r : Six) : Type 0 where
  pub whole-small : Small r.whole
  pub fraction-small : Small r.fraction
  pub is : n ≡ wide_of r.whole * 2 ^ 150 + wide_of r.fraction
