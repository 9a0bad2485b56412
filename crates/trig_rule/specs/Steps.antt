-- Sine and cosine by steps on whole numbers: "Each of the three also equals, bit for bit, a definition by steps that you write" (document 01, "Arcs").
-- Angles are counted in 2 ^ -56. The terms that a sum adds and those that it takes away are summed apart, each by Horner's rule in r ^ 4, and every step rounds down. Definitions only.
use Rattle.std.specs.Prelude.{ℕ, ◌+◌, ◌-◌, ◌*◌, ◌/◌, ◌%◌, ◌^◌, List, [], ◌∷◌, Bool, cond, leb, ltb, eqb, Float}
use Rattle.std.specs.Int.Count.{count_leading_zeros}
use Rattle.std.specs.Float.{nan, binary32}
use Rattle.std.specs.Float.Ieee.{to_bits, of_bits}
use Rattle.floats.specs.Patterns.{hidden, sign_place}
use Rattle.trig_rule.specs.Sums.{factorial}
use Rattle.trig_rule.specs.Reduction.{turn}
use Rattle.trig_rule.specs.Rule.{in_the_reach}

-- ---- the reduction
-- half a turn, rounded down: a turn is odd
abbrev pub half : ℕ
half = 226375608064910088

-- the size of a float of at least 2 ^ -33 whose bits without the sign are a
abbrev pub fixed_of : ℕ → ℕ
fixed_of a = (a % hidden + hidden) * 2 ^ (a / hidden - 94)

-- the multiple of `turn` that is nearest to x; how far x is from it; and 1 where x is below it
abbrev pub turns_of : ℕ → ℕ
turns_of x = (x + half) / turn * turn

abbrev pub rest_of : ℕ → ℕ
rest_of x = cond (leb (turns_of x) x) (x - turns_of x) (turns_of x - x)

abbrev pub flip_of : ℕ → ℕ
flip_of x = cond (leb (turns_of x) x) 0 1

-- ---- the sums at r = R / 2 ^ 56, of at most half a turn
-- r ^ 2 / 16 and r ^ 4 / 256 in units of 2 ^ -32
abbrev pub square_of : ℕ → ℕ
square_of R = R / 2 ^ 26 * (R / 2 ^ 26) / 2 ^ 32

abbrev pub fourth_of : ℕ → ℕ
fourth_of R = square_of R * square_of R / 2 ^ 32

-- 1 in units of 1 / U, times the 16 that `square_of` lacks for each r ^ 2 in r ^ j
abbrev pub weight : ℕ → ℕ → ℕ
weight U j = U * 16 ^ (j / 2)

-- 1 / j! in the same units, rounded down
abbrev pub coefficient : ℕ → ℕ → ℕ
coefficient U j = weight U j / factorial j

-- a + v * h / 2 ^ 32: v is a fraction in units of 2 ^ -32
abbrev pub risen : ℕ → ℕ → ℕ → ℕ
risen a v h = a + v * h / 2 ^ 32

-- the terms of the exponents js, each four above the one before, divided by the first one's power
unfoldable pub ladder : ℕ → ℕ → List ℕ → ℕ
ladder U v [] = 0
ladder U v (j ∷ js) = risen (coefficient U j) v (ladder U v js)

-- sin r / r in units of 2 ^ -30: 1 + r^4/5! + .. + r^16/17! is added, r^2/3! + r^6/7! + r^10/11! + r^14/15! is taken away
abbrev pub sine_plus : ℕ → ℕ
sine_plus R = risen (2 ^ 30) (fourth_of R) (ladder (2 ^ 30) (fourth_of R) (5 ∷ 9 ∷ 13 ∷ 17 ∷ []))

abbrev pub sine_minus : ℕ → ℕ
sine_minus R = risen 0 (square_of R) (ladder (2 ^ 30) (fourth_of R) (3 ∷ 7 ∷ 11 ∷ 15 ∷ []))

-- cos r in units of 2 ^ -28: 1 + r^4/4! + .. + r^16/16! is added, r^2/2! + r^6/6! + .. + r^18/18! is taken away
abbrev pub cosine_plus : ℕ → ℕ
cosine_plus R = risen (2 ^ 28) (fourth_of R) (ladder (2 ^ 28) (fourth_of R) (4 ∷ 8 ∷ 12 ∷ 16 ∷ []))

abbrev pub cosine_minus : ℕ → ℕ
cosine_minus R = risen 0 (square_of R) (ladder (2 ^ 28) (fourth_of R) (2 ∷ 6 ∷ 10 ∷ 14 ∷ 18 ∷ []))

-- the size of a - t, and 1 where that is negative
abbrev pub gap_of : ℕ → ℕ → ℕ
gap_of a t = cond (leb t a) (a - t) (t - a)

abbrev pub over_of : ℕ → ℕ → ℕ
over_of a t = cond (leb t a) 0 1

-- ---- the answer's bits
-- how many low digits of R are dropped, to keep 31
abbrev pub drop_of : ℕ → ℕ
drop_of R = 33 - count_leading_zeros 64 R

-- n / 2 ^ 40 to the nearest
abbrev pub rounded_of : ℕ → ℕ
rounded_of n = n / 2 ^ 40 + n / 2 ^ 39 % 2

-- the bits of w * 2 ^ (s - 86) to the nearest 24 digits: w is moved up until its highest digit is the 64th, and its 24 leading digits are kept, one more where the next digit is 1
abbrev pub pack_of : ℕ → ℕ → ℕ
pack_of w s = cond (eqb w 0) 0 ((103 + s - count_leading_zeros 64 w) * hidden + rounded_of (w * 2 ^ count_leading_zeros 64 w % 2 ^ 64))

-- the bits of the sine at R, where `turned` counts what turns its sign over
abbrev pub sine_at : ℕ → ℕ → ℕ
sine_at turned R = (turned + over_of (sine_plus R) (sine_minus R)) % 2 * sign_place + pack_of (R / 2 ^ drop_of R * gap_of (sine_plus R) (sine_minus R)) (drop_of R)

-- the bits of the cosine at R
abbrev pub cosine_at : ℕ → ℕ
cosine_at R = over_of (cosine_plus R) (cosine_minus R) * sign_place + pack_of (gap_of (cosine_plus R) (cosine_minus R)) 58

-- ---- every f32
-- the bits without the sign, and the sign's bit
abbrev pub plain : Float → ℕ
plain x = to_bits binary32 x % sign_place

abbrev pub sign_bit : Float → ℕ
sign_bit x = to_bits binary32 x / sign_place

-- the bits of 2 ^ -12
abbrev pub tiny_bits : ℕ
tiny_bits = 964689920

-- the size is below 2 ^ -12: the sine is then the angle, and the cosine 1
abbrev pub tiny : Float → Bool
tiny x = ltb (plain x) tiny_bits

-- "Sine and cosine take angles of at most 64 radians in size, else NaN."
unfoldable pub sine_of : Float → Float
sine_of x =
    let size = fixed_of (plain x) in
    cond (in_the_reach x) (cond (tiny x) x (of_bits binary32 (sine_at (sign_bit x + flip_of size) (rest_of size)))) nan

unfoldable pub cosine_of : Float → Float
cosine_of x = cond (in_the_reach x) (cond (tiny x) (of_bits binary32 1065353216) (of_bits binary32 (cosine_at (rest_of (fixed_of (plain x)))))) nan
