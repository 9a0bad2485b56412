-- `decimal::magnitudes::signed` meets its contract. Assumes nothing.
use Prim.Native.Nat.{ℕ, ◌+◌}
use mathlib.Core.Path.{ap, sym, subst}
use mathlib.Core.Bool.{not}
use native.Mathlib.Omega.{arith}
use lib.Dec.{T}
use lib.Ieee.{binary32, of_bits, nan_bits}
use Rattle.decimal.proofs.Valued.{plain-signed, sign_le}
use Rattle.decimal.proofs.magnitudes.signed.Goals as goal

pub overflow_add-result : goal.overflow_add-result
overflow_add-result c = record { fits = omega (arith, c.sign_of.ensures, sign_le c.args.negative, c.requires) }

pub overflow_cast-result : goal.overflow_cast-result
overflow_cast-result c = record { fits = omega (arith, c.sign_of.ensures, sign_le c.args.negative, c.requires) }

pub float_from_bits-result : goal.float_from_bits-result
float_from_bits-result c =
    subst (λ (z : ℕ). T (not (nan_bits binary32 (z + c.args.bits)))) (sym c.sign_of.ensures) (plain-signed c.args.negative c.args.bits c.requires)

pub returns : goal.returns
returns c = ap (λ (z : ℕ). of_bits binary32 (z + c.args.bits)) c.sign_of.ensures
