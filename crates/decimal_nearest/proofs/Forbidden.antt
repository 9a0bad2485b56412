-- What the record forbids, field by field: a neighbour, the odd one of two at a tie, an infinity or a zero on the wrong side of its threshold, the
-- other sign; and for a text the value that comes through binary64. antt computes each distance. Assumes nothing.
use Prim.Native.Nat.{ℕ, ◌+◌, ◌-◌, ◌^◌, ◌≤◌}
use mathlib.Core.Path.{◌≡◌, refl, sym, ap, ◌∙◌}
use mathlib.Core.Bool.{true, false}
use mathlib.Core.List.{List, [], ◌∷◌}
use native.Mathlib.Nat.{not-le_of_lt, le_of_eq}
use native.Mathlib.Omega.{arith}
use lib.Dec.{lit≤, lit<}
use lib.IntN.{pos}
use lib.Count.{count_trailing_zeros}
use lib.Ieee.{inf, fin, binary32, binary64, round, size, units, odd, of_bits, of_fields, to_bits, fits}
use Rattle.scan.specs.Scan.{leading, scan}
use Rattle.scan.specs.Bytes.{among}
use Rattle.scan.specs.Runs.{stands, past_one, past_all, past_mark_of}
use Rattle.scan.specs.Numbers.{whole_of, point_of, fraction_of, mark_of, exponent_of, end_of, places_of, no_digit, no_exponent_digit, scan_number_of}
use Rattle.std.specs.Prelude.{Ok}
use Rattle.decimal_digits.specs.Digits.{digits_among, val}
use Rattle.decimal.specs.Decimal.{falls, rise_of, fall_of, value_of, read_at, read_of, number_of}
use Rattle.decimal.proofs.Answered.{same-value}
use Rattle.decimal.proofs.Said.{again, through-binary64}
use Rattle.decimal_nearest.specs.Nearest.{NearestTo, ValueAt}
use Rattle.decimal_nearest.proofs.Texts.{nearest-answered}

-- 0.1 is 3DCCCCCD: the value below it is further off
pub neighbour-refused : NearestTo false 1 10 (of_bits binary32 0x3dcc_cccc) → ⊥
unfolding of_bits of_fields odd count_trailing_zeros fits
neighbour-refused n = not-le_of_lt (lit< tt) (n.nearest tt (of_bits binary32 0x3dcc_cccd) tt tt)

-- 16777217 lies in the middle of 4B800000 and 4B800001: the odd one is as near and is not the value
pub odd-tie-refused : NearestTo false 16777217 1 (of_bits binary32 0x4b80_0001) → ⊥
unfolding of_bits of_fields odd count_trailing_zeros fits size
odd-tie-refused n = let e : ◌≡◌ {A = ℕ} 1 0 = n.even tt (of_bits binary32 0x4b80_0000) tt tt (λ z. not-le_of_lt (lit< tt) (le_of_eq (sym z))) refl in omega arith

-- the largest finite value is nearer to 2^128 - 2^103 than any other, and yet this is infinite
pub largest-refused : NearestTo false (2 ^ 128 - 2 ^ 103) 1 (of_bits binary32 0x7f7f_ffff) → ⊥
unfolding of_bits of_fields odd count_trailing_zeros
largest-refused n = let e = n.infinite-from (lit≤ tt) in let z : ◌≡◌ {A = ℕ} 0 1 = cc in omega arith

-- and one less is not
pub infinity-refused : NearestTo false (2 ^ 128 - 2 ^ 103 - 1) 1 (inf false) → ⊥
infinity-refused n = not-le_of_lt (lit< tt) (n.infinite-only refl)

-- 2^-150 is zero, and not the smallest value, which is as near
pub smallest-refused : NearestTo false 1 (2 ^ 150) (of_bits binary32 1) → ⊥
unfolding of_bits of_fields odd count_trailing_zeros
smallest-refused n = let e = n.zero-to (lit≤ tt) in let z : ◌≡◌ {A = ℕ} 0 1 = cc in omega arith

-- what is above it by any little is not
pub zero-refused : NearestTo false (2 ^ 150 + 1) (2 ^ 300) (fin false 0 (pos 0)) → ⊥
zero-refused n = not-le_of_lt (lit< tt) (n.zero-only refl)

-- -0 is not +0
pub sign-refused : NearestTo true 0 1 (fin false 0 (pos 0)) → ⊥
sign-refused n = let e = n.signed in let z : ◌≡◌ {A = ℕ} 0 1 = cc in omega arith

-- ---- "Tempting and wrong: rounding a decimal through f64"

-- `16777217.000000001`
abbrev far_past : List ℕ
far_past = 49 ∷ 54 ∷ 55 ∷ 55 ∷ 55 ∷ 50 ∷ 49 ∷ 55 ∷ 46 ∷ 48 ∷ 48 ∷ 48 ∷ 48 ∷ 48 ∷ 48 ∷ 48 ∷ 48 ∷ 49 ∷ []

places : scan_number_of far_past 0 ≡ Ok (record { start = 0; whole = 0; point = 8; fraction = 9; mark = 18; exponent = 18; end = 18 })
unfolding scan_number_of places_of no_digit no_exponent_digit end_of exponent_of mark_of fraction_of point_of whole_of past_mark_of past_one past_all scan leading stands among
places = refl

read : number_of far_past 0 ≡ Ok (read_at (of_bits binary32 0x4b80_0001) 18)
unfolding number_of value_of rise_of fall_of falls digits_among val among round size units odd count_trailing_zeros of_bits of_fields
read = ap (read_of far_past) places

bits : to_bits binary32 (of_bits binary32 0x4b80_0001) ≡ 0x4b80_0001
unfolding to_bits of_bits of_fields odd count_trailing_zeros size
bits = refl

pub through-binary64-refused : ValueAt far_past 0 (again (round binary64 false 16777217000000001 (10 ^ 9))) 18 → ⊥
through-binary64-refused a =
    let x = again (round binary64 false 16777217000000001 (10 ^ 9)) in
    let p : number_of far_past 0 ≡ Ok (read_at x 18) = nearest-answered far_past 0 x 18 a in
    let e : x ≡ of_bits binary32 0x4b80_0001 = same-value (sym p ∙ read) in
    let z : ◌≡◌ {A = ℕ} 0x4b80_0000 0x4b80_0001 = sym through-binary64.0 ∙ ap (to_bits binary32) e ∙ bits in
    omega arith
