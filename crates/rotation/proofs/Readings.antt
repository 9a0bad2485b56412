-- Worked examples of the rule, held to the definition. Assumes nothing.
use mathlib.Core.Path.{◌≡◌, refl}
use Prim.Native.Nat.{ℕ}
use lib.Ieee.{nan, inf, binary32, of_bits, to_bits}
use mathlib.Core.Bool.{Bool}
use Rattle.rotation.specs.Rotation.{reduced_of}

-- the bits that are left
abbrev left : ℕ → ℕ
left b = to_bits binary32 (reduced_of (of_bits binary32 b))

-- "765 to 45, -765 to -45, 720 to +0, -720 to -0": a whole turn keeps its sign
turns-taken : (left 0x443f_4000 ≡ 0x4234_0000) × (left 0xc43f_4000 ≡ 0xc234_0000) × (left 0x4434_0000 ≡ 0) × (left 0xc434_0000 ≡ 0x8000_0000)
unfolding reduced_of of_bits to_bits
turns-taken = (refl, refl, refl, refl)

-- "360 itself included, nothing is touched"; "the f32 after 360 to 2^-15"; turns of 180 would leave 10 of 190
full-turn-kept : (left 0x43b4_0000 ≡ 0x43b4_0000) × (left 0xc3b4_0000 ≡ 0xc3b4_0000) × (left 0x43b4_0001 ≡ 0x3800_0000) × (left 0x433e_0000 ≡ 0x433e_0000)
unfolding reduced_of of_bits to_bits
full-turn-kept = (refl, refl, refl, refl)

-- 2^26 is the first of which only multiples of 8 are left, here 184; the largest f32 is a whole number of turns, and the one before it leaves 104
large-ones : (left 0x4c80_0000 ≡ 0x4338_0000) × (left 0x7f7f_ffff ≡ 0) × (left 0x7f7f_fffe ≡ 0x42d0_0000) × (left 0xc561_0000 ≡ 0x8000_0000)
unfolding reduced_of of_bits to_bits
large-ones = (refl, refl, refl, refl)

-- infinity and a NaN stay
no-numbers : (reduced_of nan ≡ nan) × ((s : Bool) → reduced_of (inf s) ≡ inf s)
unfolding reduced_of
no-numbers = (refl, λ s. refl)
