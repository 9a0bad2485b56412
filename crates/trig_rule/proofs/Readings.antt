-- Worked examples that hold the definitions down, by computation. Assumes nothing.
use mathlib.Core.Path.{◌≡◌, refl}
use Prim.Native.Nat.{ℕ, ◌+◌, ◌*◌}
use mathlib.Core.List.{[], ◌∷◌}
use lib.Count.{count_leading_zeros}
use lib.Ieee.{nan, binary32, of_bits, to_bits, le}
use Rattle.floats.specs.Patterns.{sign_place}
use Rattle.trig_rule.specs.Sums.{factorial, term, terms, whole}
use Rattle.trig_rule.specs.Steps.{ladder, coefficient, sine_of, cosine_of}

-- ---- the sums: 1 - 1/2! + 1/4! = 13/24 and 2 - 2^3/3! + 2^5/5! = 14/15, so that a factorial or a power one off shows
pub cosine-terms : 24 * (terms 4 1 1 (0 ∷ 4 ∷ [])) ≡ 13 * whole 4 1 + 24 * (terms 4 1 1 (2 ∷ []))
unfolding terms whole factorial
cosine-terms = refl

pub sine-terms : 15 * (terms 5 2 1 (1 ∷ 5 ∷ [])) ≡ 14 * whole 5 1 + 15 * (terms 5 2 1 (3 ∷ []))
unfolding terms whole factorial
sine-terms = refl

-- ---- the numbers in the code
pub first-coefficient : coefficient 1073741824 3 ≡ 2863311530
unfolding factorial
first-coefficient = refl

-- ---- angles
-- sin 1 = 0.84147098.., cos 1 = 0.54030230..
pub sine-of-one : sine_of (of_bits binary32 1065353216) ≡ of_bits binary32 1062693540
unfolding sine_of of_bits to_bits le ladder factorial count_leading_zeros
sine-of-one = refl

pub cosine-of-one : cosine_of (of_bits binary32 1065353216) ≡ of_bits binary32 1057640769
unfolding cosine_of of_bits to_bits le ladder factorial count_leading_zeros
cosine-of-one = refl

-- 40490FDB lies above half a turn, so that a turn is subtracted and its sine is negative
pub sine-of-half-turn : sine_of (of_bits binary32 1078530011) ≡ of_bits binary32 3018769107
unfolding sine_of of_bits to_bits le ladder factorial count_leading_zeros
sine-of-half-turn = refl

-- 64 is in reach, and the next f32 is not
pub sine-of-sixty-four : sine_of (of_bits binary32 1115684864) ≡ of_bits binary32 1064011476
unfolding sine_of of_bits to_bits le ladder factorial count_leading_zeros
sine-of-sixty-four = refl

pub sine-beyond : sine_of (of_bits binary32 1115684865) ≡ nan
unfolding sine_of of_bits le
sine-beyond = refl

pub cosine-beyond : cosine_of (of_bits binary32 3263168513) ≡ nan
unfolding cosine_of of_bits le
cosine-beyond = refl

-- 1e-20 is its own sine, and -0 keeps its sign
pub sine-of-little : sine_of (of_bits binary32 507307272) ≡ of_bits binary32 507307272
unfolding sine_of of_bits to_bits le
sine-of-little = refl

pub sine-of-minus-zero : sine_of (of_bits binary32 sign_place) ≡ of_bits binary32 sign_place
unfolding sine_of of_bits to_bits le
sine-of-minus-zero = refl
