-- The shift loses no digit: what is below 45 is moved up by 11 places at most. Then `eights-rest`. Assumes nothing.
use borrow.Author.Rules.{rules}
use native.Mathlib.Omega.{arith}
use native.Mathlib.Nat.{mul-le-mul, mod-eq_of_lt, lt_of_le_of_lt}
use mathlib.Core.Path.{ap, ◌∙◌}
use Prim.Native.Nat.{ℕ, ◌*◌, ◌%◌, ◌^◌, ◌≤◌, ◌<◌}
use lib.Dec.{lit<}
use lib.Pow.{pow_mono}
use Rattle.rotation.proofs.Turns.{eights-rest}
use Rattle.rotation.proofs.eights.Goals as goal

shifted : (m k : ℕ) → m % 45 * 2 ^ (k % 12) < 2 ^ 32
shifted m k =
    let d : m % 45 ≤ 44 = omega arith in
    let e : k % 12 ≤ 11 = omega arith in
    lt_of_le_of_lt (mul-le-mul d (pow_mono e)) (lit< tt)

pub returns : goal.returns
returns c = ap (λ (n : ℕ). n % 45) (mod-eq_of_lt (shifted c.args.m c.args.k)) ∙ eights-rest c.args.m c.args.k
