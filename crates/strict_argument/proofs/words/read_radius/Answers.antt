-- `strict_argument::read_radius` meets its contract: where a sign stands there is no radius, and elsewhere it is the number. Assumes nothing.
use Prim.Native.Nat.{ℕ}
use mathlib.Core.Path.{sym, ◌∙◌, ap}
use Rattle.scan.specs.Bytes.{among, signs}
use Rattle.strict_argument.proofs.Steps.{radius-left, radius-taken}
use Rattle.strict_argument.proofs.words.read_radius.Goals as goal

pub returns-then-is_sign : goal.returns-then-is_sign
returns-then-is_sign c =
    let a = c.args in
    radius-left a.text.bytes.now _ a.text.edition (sym (ap (λ (b : ℕ). among b signs) c.byte_at-first.ensures) ∙ (sym c.is_sign.ensures ∙ c.if-is_sign.true))

pub returns : goal.returns
returns c =
    let a = c.args in
    radius-taken a.text.bytes.now _ a.text.edition _
    (sym (ap (λ (b : ℕ). among b signs) c.byte_at-first.ensures) ∙ (sym c.is_sign.ensures ∙ c.if-is_sign.false))
    c.read_number.ensures
