-- `decimal_tie::scales::weigh` meets its contract: the middle in six words, against digits with a point among them or zeros before them. Assumes nothing.
use mathlib.Core.Path.{◌≡◌, ap, sym, ◌∙◌}
use mathlib.Core.Logic.{⊎_elim}
use Prim.Native.Nat.{ℕ, ◌*◌, ◌^◌}
use native.Mathlib.Omega.{arith}
use Rattle.decimal_digits.specs.Digits.{digits_among}
use Rattle.decimal_tie.specs.Weighing.{weigh_of}
use Rattle.decimal_tie.proofs.scales.weigh.Goals as goal

pub returns-then-zeros-gt0 : goal.returns-then-zeros-gt0
returns-then-zeros-gt0 c =
    let none : 0 ≡ c.args.count = ⊎_elim (λ (e : c.args.count ≡ 0). sym e) (λ (e : c.args.zeros ≡ 0). absurd (omega (arith, c.if-zeros-gt0.true))) c.requires.2 in
    c.weigh_small.ensures
    ∙ ap (λ (s : ℕ). weigh_of (digits_among c.args.part.now) 0 c.args.zeros s) (sym c.in_six_words-s.ensures.is)
    ∙ ap (λ (n : ℕ). weigh_of (digits_among c.args.part.now) n c.args.zeros (c.args.odd * 2 ^ c.args.k)) none

pub returns : goal.returns
returns c =
    let none : 0 ≡ c.args.zeros = omega (arith, c.if-zeros-gt0.false) in
    c.weigh_large.ensures
    ∙ ap (λ (s : ℕ). weigh_of (digits_among c.args.part.now) c.args.count 0 s) (sym c.in_six_words-s.ensures.is)
    ∙ ap (λ (n : ℕ). weigh_of (digits_among c.args.part.now) c.args.count n (c.args.odd * 2 ^ c.args.k)) none
