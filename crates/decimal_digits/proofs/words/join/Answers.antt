-- `decimal_digits::words::join` meets its contract: neither part is above the mask. Assumes nothing.
use Rattle.std.proofs.Common.{◌/◌, ◌^◌, mul-le-mul_right, arith}
use lib.Bits.{and_le_r}
use Rattle.decimal_digits.proofs.words.join.Goals as goal

pub overflow_mul-result : goal.overflow_mul-result
overflow_mul-result c = record { fits = omega (arith, c.requires.1, mul-le-mul_right c.args.factor (and_le_r c.args.x c.args.mask)) }

pub overflow_add-result : goal.overflow_add-result
overflow_add-result c = record { fits = omega (arith, c.requires.1, mul-le-mul_right c.args.factor (and_le_r c.args.x c.args.mask), and_le_r (c.args.x / 2 ^ c.args.bits) c.args.mask) }
