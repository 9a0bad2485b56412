-- `decimal_tie::scales::times_ten` meets its contract: each word is below 2^50, so that each carry is below 10. Assumes nothing.
use Prim.Native.Nat.{ℕ, ◌+◌, ◌*◌, ◌/◌, ◌<◌}
use native.Mathlib.Omega.{arith}
use Rattle.decimal_tie.proofs.scales.times_ten.Goals as goal

carry : (word digit : ℕ) → word < 1125899906842624 → digit < 10 → (word * 10 + digit) / 1125899906842624 < 10
carry word digit h k = omega arith

pub overflow_add-z : goal.overflow_add-z
overflow_add-z c =
    let x = carry c.args.w.c c.args.digit c.requires.0.c_lt c.requires.1 in
    let y = carry c.args.w.b _ c.requires.0.b_lt x in
    record { fits = omega (arith, y, c.requires.0.a_lt) }

pub returns : goal.returns
returns c =
    let x = (c.args.w.c * 10 + c.args.digit) / 1125899906842624 in
    let y = (c.args.w.b * 10 + x) / 1125899906842624 in
    let xl = carry c.args.w.c c.args.digit c.requires.0.c_lt c.requires.1 in
    let yl = carry c.args.w.b x c.requires.0.b_lt xl in
    let zl = carry c.args.w.a y c.requires.0.a_lt yl in
    record {
      one = x;
      two = y;
      at_c = omega arith;
      at_b = omega arith;
      at_a = omega arith;
      small = record { a_lt = omega arith; b_lt = omega arith; c_lt = omega arith };
      out-lt = zl;
    }
