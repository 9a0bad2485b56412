-- A float without a sign has half its pattern below what it is taken from, and what is left is no NaN's. Assumes nothing.
use Rattle.std.proofs.Common.{ℕ, ◌-◌, ◌*◌, ◌/◌, ◌%◌, ◌^◌, ◌≤◌, ◌<◌, get_or, refl, arith}
use lib.Ieee.{binary64, to_bits}
use Rattle.floats.specs.Patterns.{wide_sign_place, wide_infinity_bits}
use denote.Floats.{passes}
use Rattle.decimal_rounding.proofs.Wide.{no_nan}
use Rattle.root.proofs.Tables.{within-at}
use Rattle.lengths.specs.declared.alone.TheConstants.{START}
use Rattle.lengths.proofs.Upward.{upward-real, upward-bits}
use Rattle.lengths.proofs.alone.guess.Goals as goal

-- what the table has in a cell, for a float's bits

started : (b : ℕ) → (2 ^ 62 ≤ get_or START (b / 70368744177664 % 128) 0) × (get_or START (b / 70368744177664 % 128) 0 < 3 * 2 ^ 61)
started b = within-at (2 ^ 62) (3 * 2 ^ 61) START refl (b / 70368744177664 % 128) (omega arith)

above : (b n : ℕ) → b < wide_sign_place → 2 ^ 62 ≤ n → b / 2 ≤ n
above b n h l = omega arith

less : (b n : ℕ) → n < 3 * 2 ^ 61 → n - b / 2 < wide_infinity_bits
less b n h = omega arith

pub float_to_bits-bits : goal.float_to_bits-bits
float_to_bits-bits c = upward-real _ c.requires

pub overflow_sub-z0 : goal.overflow_sub-z0
overflow_sub-z0 c =
    let b = to_bits binary64 c.args.s in
    above b _ (upward-bits _ (passes _ c.well_formed.0.1) c.requires) (started b).0

pub float_from_bits-z0 : goal.float_from_bits-z0
float_from_bits-z0 c =
    let b = to_bits binary64 c.args.s in
    no_nan _ (less b _ (started b).1)
