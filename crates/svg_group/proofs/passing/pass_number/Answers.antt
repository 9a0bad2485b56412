-- `svg_group::pass_number` meets its contract: what has a digit and no exponent ends past its digits. Assumes nothing.
use mathlib.Core.Path.{sym, ap, ◌∙◌}
use Prim.Native.Nat.{ℕ}
use borrow.Author.Tests.{lt-ltb}
use Rattle.scan.specs.Bytes.{among, exponent_marks}
use Rattle.svg_group.specs.Passing.{pass_number_of}
use Rattle.svg_group.proofs.Ends.{plain-number}
use Rattle.svg_group.proofs.passing.pass_number.Goals as goal

pub returns : goal.returns
unfolding pass_number_of
returns c =
    let none = ap (λ (x : ℕ). among x exponent_marks) (sym c.byte_at.ensures) ∙ sym c.is_exponent_mark.ensures ∙ c.if-is_exponent_mark.false in
    simp (sym c.past_separators-start.ensures, lt-ltb _ _ c.if-text-start.false)
    (plain-number c.args.text.now _ _ _ _ _ c.past_sign-whole.ensures c.past_digits-point.ensures c.past_point-fraction.ensures c.past_digits-mark.ensures c.if-whole-point.false none)
