-- Where a number without an exponent ends: past its digits. Assumes nothing.
use Prim.Native.Nat.{ℕ}
use mathlib.Core.Path.{◌≡◌, ap, sym, ◌∙◌}
use mathlib.Core.Bool.{false, ◌&&◌}
use mathlib.Core.List.{List}
use native.Mathlib.Nat.{le_refl}
use lib.Dec.{eqb}
use borrow.Author.Tests.{le-ltb}
use lib.ListN.{get_or}
use Rattle.std.specs.Prelude.{Ok}
use Rattle.scan.specs.Bytes.{among, digits, exponent_marks}
use Rattle.scan.specs.Runs.{past_digits_of, past_sign_of, past_point_of}
use Rattle.scan.specs.Numbers.{scan_number_of}
use Rattle.scan.proofs.RunLaws.{all-again}
use Rattle.scan.proofs.NumberLaws.{number-found}
use Rattle.decimal.proofs.Found.{mark-none}
use Rattle.svg_group.specs.Passing.{ended}

pub plain-number :
    (text : List ℕ) (at whole point fraction mark : ℕ)
    → whole ≡ past_sign_of text at
    → point ≡ past_digits_of text whole
    → fraction ≡ past_point_of text point
    → mark ≡ past_digits_of text fraction
    → (eqb whole point && eqb fraction mark) ≡ false
    → among (get_or text mark 0) exponent_marks ≡ false
    → Ok mark ≡ ended (scan_number_of text at)
plain-number text at whole point fraction mark w p f m some none =
    let end : mark ≡ past_digits_of text mark = m ∙ sym (all-again digits text fraction) ∙ ap (past_digits_of text) (sym m) in
    ap ended (number-found text at whole point fraction mark w p f m mark mark (mark-none text mark none) end some (rw (le-ltb mark mark (le_refl mark))))
