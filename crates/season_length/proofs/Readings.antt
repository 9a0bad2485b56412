-- Worked examples of a total in whole millimetres. Assumes nothing.
use Prim.Native.Nat.{ℕ}
use mathlib.Core.Path.{◌≡◌, refl}
use lib.Ieee.{Float, binary32, round, mul, of_bits}
use lib.Ieee.Nearest.{closest}
use lib.Ieee.Positive.{num, den}
use Rattle.season_length.specs.Millimetres.{millimetres_of}

-- the millimetres of the f32 with these bits
abbrev of : ℕ → ℕ
of bits = millimetres_of (of_bits binary32 bits)

-- 62.5 and 187.5 millimetres: a tie goes to the even one, down or up
pub ties-to-even : (of 0x3d80_0000 ≡ 62) × (of 0x3e40_0000 ≡ 188)
unfolding millimetres_of of_bits
ties-to-even = (refl, refl)

-- 0.0065 m as an f32 is a little more than 6.5 mm; the f32 product with 1,000 has lost that, and the tie would make 6 of it
pub product-refused :
    (of 0x3bd4_fdf4 ≡ 7) × (let p : Float = mul binary32 (of_bits binary32 0x3bd4_fdf4) (of_bits binary32 0x447a_0000) in closest (num p) (den p) ≡ 6)
unfolding millimetres_of of_bits mul round
product-refused = (refl, refl)

-- 1,000,000 m are 1,000,000,000 mm; the next f32 is 62.5 mm more, so that no total is beyond the limit by its rounding alone
pub the-limit : (of 0x4974_2400 ≡ 1000000000) × (of 0x4974_2401 ≡ 1000000062)
unfolding millimetres_of of_bits
the-limit = (refl, refl)

-- half a millimetre lies between two f32: the one below is 0, the one above 1
pub half : (of 0x3a03_126e ≡ 0) × (of 0x3a03_126f ≡ 1)
unfolding millimetres_of of_bits
half = (refl, refl)
