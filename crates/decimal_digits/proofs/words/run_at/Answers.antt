-- `decimal_digits::words::run_at` meets its contract: the lowest mark tells the first lane that is no digit, and what is below it is moved up. Assumes nothing.
use Rattle.std.proofs.Common.{◌≡◌, ℕ, ◌+◌, ◌-◌, ◌*◌, ◌/◌, ◌<◌, length, sym, refl, ap, ◌∙◌, le_of_lt, arith}
use lib.Bits.{bit_xor}
use lib.Count.{count_trailing_zeros, trailing_le}
use Rattle.decimal_digits.specs.Words.{laid, eight_of, begun, each, Below}
use Rattle.decimal_digits.proofs.Lanes.{eight-below, none_other, some-other, whole-value, part-value}
use Rattle.decimal_digits.proofs.words.run_at.Goals as goal

pub returns-then-marks-eq0 : goal.returns-then-marks-eq0
returns-then-marks-eq0 c =
    let all = none_other _ refl ((let bytes_here : Below 256 (eight_of c.args.text.now c.args.at) = eight-below c.args.text.now c.args.at (λ i. omega (arith, c.shared_slice_known-1.given i)) in bytes_here)) _ ((let lanes_are_here : c.values-x.result ≡ bit_xor (laid 8 (eight_of c.args.text.now c.args.at)) (each 48 8) = c.values-x.ensures ∙ ap (λ (z : ℕ). bit_xor z (each 48 8)) c.word_at.ensures in lanes_are_here)) (sym c.others-marks.ensures ∙ c.if-marks-eq0.true) in
    record { count = sym all; value = whole-value _ refl ((let bytes_here : Below 256 (eight_of c.args.text.now c.args.at) = eight-below c.args.text.now c.args.at (λ i. omega (arith, c.shared_slice_known-1.given i)) in bytes_here)) _ ((let lanes_are_here : c.values-x.result ≡ bit_xor (laid 8 (eight_of c.args.text.now c.args.at)) (each 48 8) = c.values-x.ensures ∙ ap (λ (z : ℕ). bit_xor z (each 48 8)) c.word_at.ensures in lanes_are_here)) _ all c.eight.ensures }

pub overflow_cast-count : goal.overflow_cast-count
overflow_cast-count c = record { fits = omega (arith, trailing_le 64 c.others-marks.result) }

pub overflow_sub-up : goal.overflow_sub-up
overflow_sub-up c = omega (arith, trailing_le 64 c.others-marks.result)

pub returns : goal.returns
returns c =
    let s = (let first_here : (count_trailing_zeros 64 c.others-marks.result ≡ 8 * (length (begun (eight_of c.args.text.now c.args.at))) + 7) × ((length (begun (eight_of c.args.text.now c.args.at))) < 8) = let s = some-other _ refl ((let bytes_here : Below 256 (eight_of c.args.text.now c.args.at) = eight-below c.args.text.now c.args.at (λ i. omega (arith, c.shared_slice_known-1.given i)) in bytes_here)) _ ((let lanes_are_here : c.values-x.result ≡ bit_xor (laid 8 (eight_of c.args.text.now c.args.at)) (each 48 8) = c.values-x.ensures ∙ ap (λ (z : ℕ). bit_xor z (each 48 8)) c.word_at.ensures in lanes_are_here)) (λ z. c.if-marks-eq0.false (c.others-marks.ensures ∙ z)) in
    (ap (count_trailing_zeros 64) c.others-marks.ensures ∙ s.0, s.1) in first_here) in
    let up = 4 * (8 - count_trailing_zeros 64 c.others-marks.result / 8) in
    let moved : up ≡ 4 * (8 - (length (begun (eight_of c.args.text.now c.args.at)))) = omega (arith, s.0) in
    record {
      count = omega (arith, s.0);
      value = part-value (eight_of c.args.text.now c.args.at) refl ((let bytes_here : Below 256 (eight_of c.args.text.now c.args.at) = eight-below c.args.text.now c.args.at (λ i. omega (arith, c.shared_slice_known-1.given i)) in bytes_here)) _ ((let lanes_are_here : c.values-x.result ≡ bit_xor (laid 8 (eight_of c.args.text.now c.args.at)) (each 48 8) = c.values-x.ensures ∙ ap (λ (z : ℕ). bit_xor z (each 48 8)) c.word_at.ensures in lanes_are_here)) _ _ up (le_of_lt s.1) moved refl c.eight-2.ensures;
    }
