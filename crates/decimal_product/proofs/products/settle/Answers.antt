-- `decimal_product::products::settle` meets its contract: the usual cut, more of a cut below 2^-126, and past both ends of the format no cut at all.
-- Assumes nothing.
use mathlib.Core.Path.{◌≡◌, refl}
use mathlib.Core.Logic.{inl, inr}
use Prim.Native.Nat.{ℕ, ◌+◌, ◌-◌, ◌*◌, ◌/◌, ◌^◌, ◌≤◌, ◌<◌}
use native.Mathlib.Nat.{lt_of_lt_of_le}
use native.Mathlib.Omega.{arith}
use lib.Pow.{pow_pos, pow_mono}
use borrow.Author.Rules.{rules}
use Rattle.decimal_product.proofs.Settling.{units-agree, too_large, too_small}
use Rattle.decimal_product.proofs.products.settle.Goals as goal

pub returns-then-k-gt253 : goal.returns-then-k-gt253
returns-then-k-gt253 c =
    record {
      said = λ s num den D B. too_large s num den c.args.product _ _ D B c.past_24-usual.result c.past_24-usual.ensures.reached (omega arith);
    }

pub cut-requires : goal.cut-requires
cut-requires c =
    (omega arith, omega arith, omega arith, c.past_24-usual.ensures.under, inl c.past_24-usual.ensures.reached)

pub returns-then-depth-height : goal.returns-then-depth-height
returns-then-depth-height c =
    record {
      said = λ s num den D B. c.cut.ensures.said s num den _ _ D (pow_pos _) (units-agree den _ _ _ _ (omega arith)) B;
    }

pub returns-then-dropped-gt61 : goal.returns-then-dropped-gt61
returns-then-dropped-gt61 c =
    record {
      said = λ s num den D B. too_small s num den c.args.product _ _ D B c.requires.1 (omega arith);
    }

pub cut-requires-2 : goal.cut-requires-2
cut-requires-2 c =
    let more : 24 + c.past_24-usual.result ≤ 24 + (c.args.moved + 59 - (6803 * c.args.place + 832) / 2048) = omega arith in
    (omega arith, omega arith, omega arith, lt_of_lt_of_le c.past_24-usual.ensures.under (pow_mono more), inr refl)

pub returns : goal.returns
returns c =
    record {
      said = λ s num den D B. c.cut-2.ensures.said s num den _ _ D (pow_pos _) (units-agree den _ _ 0 _ (omega arith)) B;
    }
