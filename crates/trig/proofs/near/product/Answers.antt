-- The head and the difference are numbers, and the product's pattern packs the sine away from the middles: `product-stands`. Assumes nothing.
use Rattle.std.proofs.Common.{◌≡◌, ℕ, ◌%◌, sym, subst, arith}
use Rattle.floats.specs.Patterns.{narrow_step, narrow_half}
use Rattle.trig_single.specs.Single.{Stands, sine_from}
use Rattle.trig_single.proofs.Finite.{finite-bits}
use Rattle.trig_single.proofs.Sine.{whole-number, head, product-number, product-stands}
use Rattle.trig.proofs.near.product.Goals as goal

pub float_to_bits-b : goal.float_to_bits-b
float_to_bits-b c = whole-number _

pub float_from_bits-head : goal.float_from_bits-head
float_from_bits-head c =
    let h = head c.args.r c.requires.0 c.requires.1 in
    finite-bits _ (omega (arith, h.finite))

pub float_from_bits-d : goal.float_from_bits-d
float_from_bits-d c = finite-bits _ (omega arith)

pub float_to_bits-head : goal.float_to_bits-head
float_to_bits-head c =
    product-number c.args.r c.args.sides.plus c.args.sides.minus c.requires.0 c.requires.1 c.requires.2 c.requires.3

pub returns : goal.returns
returns c =
    subst (λ (w : ℕ). (w % narrow_step ≡ narrow_half → ⊥) → Stands w (sine_from c.args.turned c.args.r c.args.sides.plus c.args.sides.minus)) (sym c.wrapping_add_u64.ensures.value)
    (product-stands c.args.r c.args.sides.plus c.args.sides.minus c.requires.0 c.requires.1 c.requires.2 c.requires.3 c.args.turned)
