-- Worked examples of atan2, held to the definition by computation: bits of y and x, and the bits of the answer. Assumes nothing.
use mathlib.Core.Path.{◌≡◌, refl}
use Prim.Native.Nat.{ℕ}
use lib.Ieee.{binary32, to_bits, of_bits, is_nan, add, sub, mul, div}
use Rattle.floats.specs.Patterns.{infinity_bits, sign_place}
use Rattle.trig_rule.specs.Sums.{factorial}
use Rattle.trig_rule.specs.Steps.{ladder}
use Rattle.atan2_rule.specs.Steps.{ahead, behind, along, against, passes, near_of, guess_of, ahead_at, miss_at, climb, between_of, fallback_of, atan2_of}

abbrev answer : ℕ → ℕ → ℕ
answer y x = to_bits binary32 (atan2_of (of_bits binary32 y) (of_bits binary32 x))

-- (1, 1) and (-1, -1): the eighths of a turn, on y's side; the quotient alone would give the same answer twice
pub quarter-right : answer 1065353216 1065353216 ≡ 1061752795
unfolding atan2_of to_bits of_bits is_nan guess_of near_of passes ahead behind along against ladder factorial add sub mul div
quarter-right = refl

pub three-quarters-left : answer 3212836864 3212836864 ≡ 3222719460
unfolding atan2_of to_bits of_bits is_nan guess_of near_of passes ahead behind along against ladder factorial add sub mul div
three-quarters-left = refl

-- x is zero: a right angle, also where that zero is negative
pub straight-up : answer 1065353216 0 ≡ 1070141403
unfolding atan2_of to_bits of_bits is_nan guess_of near_of passes ahead behind along against ladder factorial add sub mul div
straight-up = refl

pub straight-up-minus : answer 1065353216 sign_place ≡ 1070141403
unfolding atan2_of to_bits of_bits is_nan guess_of near_of passes ahead behind along against ladder factorial add sub mul div
straight-up-minus = refl

-- y is zero: y itself on the right, and on the left PI with y's sign
pub right_zero : answer sign_place 1065353216 ≡ sign_place
unfolding atan2_of to_bits of_bits
right_zero = refl

pub left-zero : answer sign_place 3212836864 ≡ 3226013659
unfolding atan2_of to_bits of_bits
left-zero = refl

-- both zero: 0, whatever their signs
pub no-direction : answer sign_place sign_place ≡ 0
unfolding atan2_of to_bits of_bits
no-direction = refl

-- the smallest subnormal over 1 is kept, and over 2 it is a tie that goes to zero with its sign
pub least_kept : answer 2147483649 1065353216 ≡ 2147483649
unfolding atan2_of to_bits of_bits div
least_kept = refl

pub least-halved : answer 2147483649 1073741824 ≡ sign_place
unfolding atan2_of to_bits of_bits div
least-halved = refl

-- the smallest subnormal over -1: PI, which is above half a turn
pub past-half : answer 1 3212836864 ≡ 1078530011
unfolding atan2_of to_bits of_bits is_nan guess_of near_of passes ahead behind along against ladder factorial add sub mul div
past-half = refl

-- the largest over the smallest, and an infinity
pub steepest : answer 2139095039 1 ≡ 1070141403
unfolding atan2_of to_bits of_bits is_nan guess_of near_of passes ahead behind along against ladder factorial add sub mul div
steepest = refl

pub infinite : answer infinity_bits 1065353216 ≡ 2143289344
unfolding atan2_of to_bits of_bits
infinite = refl

-- the bisection alone, where no guess is at hand: the diagonal, and a point on the left
pub searched-diagonal : fallback_of 536870912 536870912 0 ≡ 1061752795
unfolding fallback_of between_of climb ahead_at miss_at ahead behind ladder factorial
searched-diagonal = refl

pub searched-left : fallback_of 536870912 1000000000 1 ≡ 1076463446
unfolding fallback_of between_of climb ahead_at miss_at ahead behind ladder factorial
searched-left = refl
