-- `decimal::quick::lead` meets its contract. Assumes nothing.
use mathlib.Core.Path.{◌≡◌, refl, ap, sym, ◌∙◌}
use mathlib.Core.Bool.{true, false}
use Prim.Native.Nat.{ℕ, ◌<◌}
use native.Mathlib.Omega.{arith}
use lib.ListN.{length, get_or}
use Rattle.scan.specs.Bytes.{among, signs}
use Rattle.scan.proofs.RunLaws.{byte_inside, one_byte, one_none}
use Rattle.decimal.proofs.quick.lead.Goals as goal

no_zero : among 0 signs ≡ false
unfolding among
no_zero = refl

pub overflow_add-result : goal.overflow_add-result
overflow_add-result c = record { fits = omega (arith, (let inside_here : c.args.at < length c.args.text.now = byte_inside signs c.args.text.now _ no_zero ((let is_one_here : among (get_or c.args.text.now c.args.at 0) signs ≡ true = ap (λ (b : ℕ). among b signs) (sym c.byte_at-byte.ensures) ∙ sym c.is_sign.ensures ∙ c.if-is_sign.true in is_one_here)) in inside_here), c.well_formed) }

pub overflow_add-at : goal.overflow_add-at
overflow_add-at c = record { fits = omega (arith, (let inside_here : c.args.at < length c.args.text.now = byte_inside signs c.args.text.now _ no_zero ((let is_one_here : among (get_or c.args.text.now c.args.at 0) signs ≡ true = ap (λ (b : ℕ). among b signs) (sym c.byte_at-byte.ensures) ∙ sym c.is_sign.ensures ∙ c.if-is_sign.true in is_one_here)) in inside_here), c.well_formed) }

pub returns-then-is_sign : goal.returns-then-is_sign
returns-then-is_sign c =
    (one_byte signs c.args.text.now _ no_zero ((let is_one_here : among (get_or c.args.text.now c.args.at 0) signs ≡ true = ap (λ (b : ℕ). among b signs) (sym c.byte_at-byte.ensures) ∙ sym c.is_sign.ensures ∙ c.if-is_sign.true in is_one_here)), c.byte_at.ensures)

pub returns : goal.returns
returns c =
    let isnt = ap (λ (b : ℕ). among b signs) (sym c.byte_at-byte.ensures) ∙ sym c.is_sign.ensures ∙ c.if-is_sign.false in
    (one_none signs c.args.text.now _ isnt, c.byte_at-byte.ensures)
