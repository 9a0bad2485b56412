-- `decimal::numbers::value` meets its contract: bits of a division or worked-out bits, and the sign put before either. Assumes nothing.
use mathlib.Core.Path.{ap, sym, ◌∙◌, subst}
use mathlib.Core.Bool.{true, false}
use Prim.Native.Nat.{ℕ, ◌^◌}
use native.Mathlib.Nat.{add_comm, zero-add, le_of_lt, pow-le-pow_right, zero-lt-suc}
use native.Mathlib.Omega.{arith}
use lib.Dec.{eqb}
use lib.Ieee.{binary32, of_bits}
use borrow.Author.Tests.{leb-true, ltb-true, eqb-true, eq-eqb, ne_eqb}
use Rattle.floats.specs.Patterns.{sign_place}
use Rattle.decimal_rounding.proofs.Wide.{no-nan-single}
use Rattle.decimal_digits.proofs.Values.{ten-pos}
use Rattle.decimal.specs.Decimal.{minus, numerator, denominator, places_of}
use Rattle.decimal.specs.Bits.{Nearest}
use Rattle.decimal.proofs.Ranged.{quotient-tells, quotient-bits}
use Rattle.decimal.proofs.Valued.{all-four, plain-negative, one_way, gathered, short-is, value-signed}
use Rattle.decimal.proofs.numbers.value.Goals as goal

pub pattern-b-requires : goal.pattern-b-requires
pattern-b-requires c =
    let t = all-four _ _ _ _ c.if-w-rise.true in
    (le_of_lt (ltb-true _ _ t.0), leb-true _ _ t.3)

pub narrow-requires : goal.narrow-requires
narrow-requires c some =
    let t = all-four _ _ _ _ c.if-w-rise.true in
    quotient-tells _ _ some (ltb-true _ _ t.0) (ten-pos _) (pow-le-pow_right (zero-lt-suc 9) (leb-true _ _ t.3)) _ c.pattern-b.ensures (c.tells.ensures c.if-tells.true)

pub signed-requires : goal.signed-requires
signed-requires c = ((let short_near_here : Nearest c.args.parts.w (10 ^ places_of c.args.parts.places) c.narrow.result = subst (λ (n : ℕ). Nearest c.args.parts.w (10 ^ places_of c.args.parts.places) n)
    (sym c.narrow.ensures)
    (let t = all-four _ _ _ _ c.if-w-rise.true in
    quotient-bits _ _ (ten-pos _) (pow-le-pow_right (zero-lt-suc 9) (leb-true _ _ t.3)) (c.tells.ensures c.if-tells.true) _ (ltb-true _ _ t.0) c.pattern-b.ensures) in short_near_here)).finite_or_infinite

pub returns-then-tells : goal.returns-then-tells
returns-then-tells c =
    let t = all-four _ _ _ _ c.if-w-rise.true in
    value-signed _ _ _ _ _ _ c.requires _ _ (ap (λ (n : ℕ). eqb n minus) c.byte_at-negative.ensures)
    (c.signed.ensures ∙ sym (((let short_near_here : Nearest c.args.parts.w (10 ^ places_of c.args.parts.places) c.narrow.result = subst (λ (n : ℕ). Nearest c.args.parts.w (10 ^ places_of c.args.parts.places) n)
    (sym c.narrow.ensures)
    (let t = all-four _ _ _ _ c.if-w-rise.true in
    quotient-bits _ _ (ten-pos _) (pow-le-pow_right (zero-lt-suc 9) (leb-true _ _ t.3)) (c.tells.ensures c.if-tells.true) _ (ltb-true _ _ t.0) c.pattern-b.ensures) in short_near_here)).is _) ∙ short-is _ _ _ _ _ _ c.requires (le_of_lt (ltb-true _ _ t.0)) (eqb-true _ _ t.1) (eqb-true _ _ t.2) _)

pub magnitude-bits-requires : goal.magnitude-bits-requires
magnitude-bits-requires c = gathered _ _ _ _ _ _ c.requires (omega (arith, c.well_formed))

pub overflow_add-result : goal.overflow_add-result
overflow_add-result c = let m = (let nearest_here : Nearest (numerator c.args.text.now c.args.parts.places) (denominator c.args.text.now c.args.parts.places) c.magnitude-bits.result = c.magnitude-bits.ensures.bits _ _ c.requires.rises c.requires.drops (one_way _ _) in nearest_here) in record { fits = omega (arith, m.finite_or_infinite) }

pub overflow_cast-result : goal.overflow_cast-result
overflow_cast-result c = let m = (let nearest_here : Nearest (numerator c.args.text.now c.args.parts.places) (denominator c.args.text.now c.args.parts.places) c.magnitude-bits.result = c.magnitude-bits.ensures.bits _ _ c.requires.rises c.requires.drops (one_way _ _) in nearest_here) in record { fits = omega (arith, m.finite_or_infinite) }

pub float_from_bits-result : goal.float_from_bits-result
float_from_bits-result c = plain-negative _ ((let nearest_here : Nearest (numerator c.args.text.now c.args.parts.places) (denominator c.args.text.now c.args.parts.places) c.magnitude-bits.result = c.magnitude-bits.ensures.bits _ _ c.requires.rises c.requires.drops (one_way _ _) in nearest_here)).finite_or_infinite

pub overflow_cast-result-else-negative : goal.overflow_cast-result-else-negative
overflow_cast-result-else-negative c = let m = (let nearest_here : Nearest (numerator c.args.text.now c.args.parts.places) (denominator c.args.text.now c.args.parts.places) c.magnitude-bits.result = c.magnitude-bits.ensures.bits _ _ c.requires.rises c.requires.drops (one_way _ _) in nearest_here) in record { fits = omega (arith, m.finite_or_infinite) }

pub float_from_bits-result-else-negative : goal.float_from_bits-result-else-negative
float_from_bits-result-else-negative c = no-nan-single _ ((let nearest_here : Nearest (numerator c.args.text.now c.args.parts.places) (denominator c.args.text.now c.args.parts.places) c.magnitude-bits.result = c.magnitude-bits.ensures.bits _ _ c.requires.rises c.requires.drops (one_way _ _) in nearest_here)).finite_or_infinite

pub returns-then-negative : goal.returns-then-negative
returns-then-negative c =
    value-signed _ _ _ _ _ _ c.requires _ true (sym (eq-eqb _ _ (sym c.byte_at-negative.ensures ∙ c.if-negative.true)))
    (ap (λ (n : ℕ). of_bits binary32 n) (add_comm c.magnitude-bits.result sign_place) ∙ sym (((let nearest_here : Nearest (numerator c.args.text.now c.args.parts.places) (denominator c.args.text.now c.args.parts.places) c.magnitude-bits.result = c.magnitude-bits.ensures.bits _ _ c.requires.rises c.requires.drops (one_way _ _) in nearest_here)).is true))

pub returns-else-negative : goal.returns-else-negative
returns-else-negative c =
    value-signed _ _ _ _ _ _ c.requires _ false (sym (ne_eqb _ _ (λ e. c.if-negative.false (c.byte_at-negative.ensures ∙ e))))
    (ap (λ (n : ℕ). of_bits binary32 n) (sym (zero-add c.magnitude-bits.result)) ∙ sym (((let nearest_here : Nearest (numerator c.args.text.now c.args.parts.places) (denominator c.args.text.now c.args.parts.places) c.magnitude-bits.result = c.magnitude-bits.ensures.bits _ _ c.requires.rises c.requires.drops (one_way _ _) in nearest_here)).is false))
