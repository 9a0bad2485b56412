-- `season_length::millimetres` meets its contract: by the bits without the sign. Assumes nothing.
use borrow.Author.Rules.{rules}
use Prim.Native.Nat.{ℕ, ◌+◌, ◌-◌, ◌*◌, ◌/◌, ◌%◌, ◌^◌, ◌≤◌, ◌<◌}
use native.Mathlib.Nat.{mul-pos}
use native.Mathlib.Omega.{arith}
use mathlib.Core.Path.{◌≡◌, sym, ap, ◌∙◌, subst}
use mathlib.Core.Bool.{Bool, true, false, not}
use lib.Dec.{T, lit<}
use lib.Pow.{pow_pos, pow_mono, shl_exact}
use lib.Ieee.{nan}
use lib.Ieee.Compare.{differs_from_itself}
use lib.Ieee.Nearest.{closest}
use Rattle.floats.specs.Patterns.{hidden}
use Rattle.floats.proofs.Order.{same→real}
use Rattle.trig_rule.specs.Steps.{plain}
use Rattle.season_length.specs.Millimetres.{millimetres_of, capped}
use Rattle.season_length.proofs.Patterns.{nan-none, infinite-none, far, tiny, near}
use Rattle.season_length.proofs.millimetres.Goals as goal

held : (b : Bool) → b ≡ true → T b
held b e = subst T (sym e) tt

lacks : (b : Bool) → b ≡ false → T (not b)
lacks b e = subst (λ (a : Bool). T (not a)) (sym e) tt

-- the unit as the shift makes it
shifted : (k : ℕ) → k ≤ 35 → 1 * 2 ^ k % 18446744073709551616 ≡ 2 ^ k
shifted k h = shl_exact 1 k 64 (lit< tt) (omega arith) ∙ (let e : 1 * 2 ^ k ≡ 2 ^ k = omega arith in e)

unit-fits : (k : ℕ) → k ≤ 35 → (0 < 1 * 2 ^ k % 18446744073709551616) × (1 * 2 ^ k % 18446744073709551616 ≤ 34359738368)
unit-fits k h = rw (shifted k h) (pow_pos k, pow_mono h)

pub returns-then-total : goal.returns-then-total
returns-then-total c = let e : c.args.total ≡ nan = differs_from_itself _ (held _ c.if-total.true) in nan-none ∙ sym (ap (λ x. capped (millimetres_of x)) e)

pub float_to_bits-a : goal.float_to_bits-a
float_to_bits-a c = same→real _ (lacks _ c.if-total.false)

pub returns-then-a-ge2139095040 : goal.returns-then-a-ge2139095040
returns-then-a-ge2139095040 c = infinite-none c.args.total (held _ c.well_formed.0.1) c.if-a-ge2139095040.true

pub returns-then-a-gt1232348160 : goal.returns-then-a-gt1232348160
returns-then-a-gt1232348160 c = far c.args.total (held _ c.well_formed.0.1) c.if-a-gt1232348160.true c.if-a-ge2139095040.false

pub returns-then-e-lt115 : goal.returns-then-e-lt115
returns-then-e-lt115 c = tiny c.args.total (held _ c.well_formed.0.1) c.if-e-lt115.true

pub nearest-requires : goal.nearest-requires
nearest-requires c =
    let u = unit-fits (150 - plain c.args.total / hidden) (omega arith) in
    (u.0, u.1, omega arith)

pub returns : goal.returns
returns c =
    let a = plain c.args.total in
    c.nearest.ensures
    ∙ ap (closest ((a % hidden + hidden) * 1000)) (shifted (150 - a / hidden) (omega arith))
    ∙ near c.args.total (held _ c.well_formed.0.1) c.if-e-lt115.false c.if-a-gt1232348160.false
