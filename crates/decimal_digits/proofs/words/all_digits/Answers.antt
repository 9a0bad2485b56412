-- `decimal_digits::words::all_digits` meets its contract: no lane is marked. Assumes nothing.
use Rattle.std.proofs.Common.{◌≡◌, ℕ, sym, refl, ap, ◌∙◌, arith, eqb-true}
use lib.Bits.{bit_xor}
use Rattle.decimal_digits.specs.Words.{laid, eight_of, each, Below}
use Rattle.decimal_digits.proofs.Lanes.{eight-below, none_other}
use Rattle.decimal_digits.proofs.words.all_digits.Goals as goal

pub returns : goal.returns
returns c = λ t. none_other _ refl ((let bytes_here : Below 256 (eight_of c.args.text.now c.args.at) = eight-below c.args.text.now c.args.at (λ i. omega (arith, c.shared_slice_known-1.given i)) in bytes_here)) _ ((let lanes_are_here : c.values.result ≡ bit_xor (laid 8 (eight_of c.args.text.now c.args.at)) (each 48 8) = c.values.ensures ∙ ap (λ (z : ℕ). bit_xor z (each 48 8)) c.word_at.ensures in lanes_are_here)) (sym c.others.ensures ∙ eqb-true _ _ t)
