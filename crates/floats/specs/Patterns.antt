-- The bits of a float as a whole number: of an f32 the sign's digit, then eight of the exponent, then 23; of an f64 the sign's digit, then 11, then 52. Definitions only.
use Rattle.std.specs.Prelude.{ℕ}

-- 2 ^ 23: one step of the exponent, and the leading digit that a normal number does not store
abbrev pub hidden : ℕ
hidden = 8388608

-- 2 ^ 31: the sign's digit
abbrev pub sign_place : ℕ
sign_place = 2147483648

-- infinity without its sign: no finite number's bits reach it
abbrev pub infinity_bits : ℕ
infinity_bits = 2139095040

-- ---- the same of an f64

-- 2 ^ 52
abbrev pub wide_hidden : ℕ
wide_hidden = 4503599627370496

-- 2 ^ 63
abbrev pub wide_sign_place : ℕ
wide_sign_place = 9223372036854775808

abbrev pub wide_infinity_bits : ℕ
wide_infinity_bits = 9218868437227405312

-- ---- from an f64 to the nearest f32

-- 2 ^ 29: from one f32 to the next, in the bits of an f64
abbrev pub narrow_step : ℕ
narrow_step = 536870912

-- 2 ^ 28: half of it, from an f32 to the middle between it and the next
abbrev pub narrow_half : ℕ
narrow_half = 268435456
