-- How large a rung and the powers of what turns leave are. Assumes nothing.
use Rattle.std.proofs.Common.{ℕ, ◌+◌, ◌*◌, ◌/◌, ◌^◌, ◌≤◌, ◌<◌, mul-le-mul, mul-le-mul_right, le_of_lt, arith}
use Rattle.trig_rule.specs.Steps.{square_of, fourth_of, risen}

pub risen-le : (a v h : ℕ) → v < 2 ^ 32 → risen a v h ≤ a + h
risen-le a v h k =
    let m : v * h ≤ 2 ^ 32 * h = mul-le-mul_right h (le_of_lt k) in
    omega arith

-- ---- the powers of what turns leave, which has 58 digits
pub square_le : (q : ℕ) → q < 2 ^ 32 → q * q ≤ 4294967295 * 4294967295
square_le q h =
    let a : q ≤ 4294967295 = omega arith in
    mul-le-mul a a

pub fourth-lt : (r : ℕ) → r < 2 ^ 58 → fourth_of r < 2 ^ 32
fourth-lt r h =
    let s : square_of r < 2 ^ 32 = omega (arith, square_le (r / 2 ^ 26) (omega arith)) in
    omega (arith, square_le (square_of r) s)
