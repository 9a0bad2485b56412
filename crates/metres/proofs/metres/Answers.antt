-- `metres::metres` meets its contract: the count is moved up until its leading digit is the 34th (`raised`), and one less where the quotient by 1,000 would have 25 digits. Assumes nothing.
use borrow.Author.Rules.{rules}
use native.Mathlib.Omega.{arith}
use Prim.Native.Nat.{ℕ, ◌+◌, ◌-◌, ◌*◌, ◌/◌, ◌%◌, ◌^◌}
use mathlib.Core.Path.{◌≡◌, refl, sym, ap, ◌∙◌}
use native.Mathlib.Nat.{mod-eq_of_lt}
use lib.Count.{count_leading_zeros}
use mathlib.Core.Bool.{false}
use lib.Ieee.{binary32, round, of_bits}
use Rattle.metres.specs.Metres.{metres_of}
use Rattle.metres.proofs.Quotients.{Raised, raised, no_nan, scaled-up, halved}
use Rattle.metres.proofs.metres.Goals as goal

none : round binary32 false 0 1000 ≡ of_bits binary32 0
unfolding round of_bits
none = refl

pub returns-then-millimetres-eq0 : goal.returns-then-millimetres-eq0
unfolding metres_of
returns-then-millimetres-eq0 c = sym (ap (λ (n : ℕ). round binary32 false n 1000) c.if-millimetres-eq0.true ∙ none)

-- nothing is lost of the moved count
abbrev moved : goal.Else-millimetres-eq0 → ℕ
moved c = c.args.millimetres * 2 ^ (count_leading_zeros 64 c.args.millimetres - 30)

pub overflow_sub-wide : goal.overflow_sub-wide
overflow_sub-wide c = omega (
  arith,
  ((let lift_here : Raised c.args.millimetres (count_leading_zeros 64 c.args.millimetres) = raised _ (omega (
    arith,
    c.if-millimetres-eq0.false,
  )) (omega arith) in lift_here)).least,
  ((let lift_here : Raised c.args.millimetres (count_leading_zeros 64 c.args.millimetres) = raised _ (omega (arith, c.if-millimetres-eq0.false)) (omega arith) in lift_here)).most,
)

pub overflow_cast-wide : goal.overflow_cast-wide
overflow_cast-wide c = record {
  fits = omega (
    arith,
    ((let lift_here : Raised c.args.millimetres (count_leading_zeros 64 c.args.millimetres) = raised _ (omega (
      arith,
      c.if-millimetres-eq0.false,
    )) (omega arith) in lift_here)).least,
    ((let lift_here : Raised c.args.millimetres (count_leading_zeros 64 c.args.millimetres) = raised _ (omega (arith, c.if-millimetres-eq0.false)) (omega arith) in lift_here)).most,
  );
}

pub overflow_shl-wide : goal.overflow_shl-wide
overflow_shl-wide c = omega (
  arith,
  ((let lift_here : Raised c.args.millimetres (count_leading_zeros 64 c.args.millimetres) = raised _ (omega (
    arith,
    c.if-millimetres-eq0.false,
  )) (omega arith) in lift_here)).least,
  ((let lift_here : Raised c.args.millimetres (count_leading_zeros 64 c.args.millimetres) = raised _ (omega (arith, c.if-millimetres-eq0.false)) (omega arith) in lift_here)).most,
)

pub overflow_cast-k : goal.overflow_cast-k
overflow_cast-k c = record {
  fits = omega (
    arith,
    ((let lift_here : Raised c.args.millimetres (count_leading_zeros 64 c.args.millimetres) = raised _ (omega (
      arith,
      c.if-millimetres-eq0.false,
    )) (omega arith) in lift_here)).least,
    ((let lift_here : Raised c.args.millimetres (count_leading_zeros 64 c.args.millimetres) = raised _ (omega (arith, c.if-millimetres-eq0.false)) (omega arith) in lift_here)).most,
  );
}

pub overflow_sub-k : goal.overflow_sub-k
overflow_sub-k c = omega (
  arith,
  ((let lift_here : Raised c.args.millimetres (count_leading_zeros 64 c.args.millimetres) = raised _ (omega (
    arith,
    c.if-millimetres-eq0.false,
  )) (omega arith) in lift_here)).least,
  ((let lift_here : Raised c.args.millimetres (count_leading_zeros 64 c.args.millimetres) = raised _ (omega (arith, c.if-millimetres-eq0.false)) (omega arith) in lift_here)).most,
)

pub pattern-requires : goal.pattern-requires
pattern-requires c = let r = (let lift_here : Raised c.args.millimetres (count_leading_zeros 64 c.args.millimetres) = raised _ (omega (
  arith,
  c.if-millimetres-eq0.false,
)) (omega arith) in lift_here) in let w = (let whole_here : (c.args.millimetres * 2 ^ (count_leading_zeros 64 c.args.millimetres - 30)) %
    18446744073709551616 ≡ (c.args.millimetres * 2 ^ (count_leading_zeros 64 c.args.millimetres - 30)) = mod-eq_of_lt (let h = ((let lift_here : Raised
    c.args.millimetres (count_leading_zeros 64 c.args.millimetres) = raised _ (omega (arith, c.if-millimetres-eq0.false)) (omega arith) in lift_here)).fits in
    omega arith) in whole_here) in (omega (arith, r.full, w), c.if-wide-lt16777216000.true, omega (arith, r.least))

pub float_from_bits-result : goal.float_from_bits-result
float_from_bits-result c = no_nan _ c.pattern.ensures.1

pub returns-then-wide-lt16777216000 : goal.returns-then-wide-lt16777216000
unfolding metres_of
returns-then-wide-lt16777216000 c =
    let z = count_leading_zeros 64 c.args.millimetres in
    let r = (let lift_here : Raised c.args.millimetres (count_leading_zeros 64 c.args.millimetres) = raised _ (omega (arith, c.if-millimetres-eq0.false)) (omega arith) in lift_here) in
    let sum : z - 30 + (179 - z) ≡ 149 = omega (arith, r.least, r.most) in
    c.pattern.ensures.0 c.args.millimetres (scaled-up c.args.millimetres (z - 30) (179 - z) sum
    ∙ ap (λ (x : ℕ). x * 2 ^ (179 - z)) (sym ((let whole_here : (c.args.millimetres * 2 ^ (count_leading_zeros 64 c.args.millimetres - 30)) % 18446744073709551616 ≡
    (c.args.millimetres * 2 ^ (count_leading_zeros 64 c.args.millimetres - 30)) = mod-eq_of_lt (let h = ((let lift_here : Raised c.args.millimetres
    (count_leading_zeros 64 c.args.millimetres) = raised _ (omega (arith, c.if-millimetres-eq0.false)) (omega arith) in lift_here)).fits in omega arith) in whole_here))))

pub pattern-requires-2 : goal.pattern-requires-2
pattern-requires-2 c = let r = (let lift_here : Raised c.args.millimetres (count_leading_zeros 64 c.args.millimetres) = raised _ (omega (
  arith,
  c.if-millimetres-eq0.false,
)) (omega arith) in lift_here) in let w = (let whole_here : (c.args.millimetres * 2 ^ (count_leading_zeros 64 c.args.millimetres - 30)) %
    18446744073709551616 ≡ (c.args.millimetres * 2 ^ (count_leading_zeros 64 c.args.millimetres - 30)) = mod-eq_of_lt (let h = ((let lift_here : Raised
    c.args.millimetres (count_leading_zeros 64 c.args.millimetres) = raised _ (omega (arith, c.if-millimetres-eq0.false)) (omega arith) in lift_here)).fits in
    omega arith) in whole_here) in (omega (arith, r.full, w, c.if-wide-lt16777216000.false), omega (arith, r.fits, w), omega (arith, r.least))

pub float_from_bits-result-2 : goal.float_from_bits-result-2
float_from_bits-result-2 c = no_nan _ c.pattern-2.ensures.1

pub returns : goal.returns
unfolding metres_of
returns c =
    let z = count_leading_zeros 64 c.args.millimetres in
    let r = (let lift_here : Raised c.args.millimetres (count_leading_zeros 64 c.args.millimetres) = raised _ (omega (arith, c.if-millimetres-eq0.false)) (omega arith) in lift_here) in
    let sum : z - 30 - 1 + (179 - z + 1) ≡ 149 = omega (arith, r.least, r.most) in
    let half : (c.args.millimetres * 2 ^ (count_leading_zeros 64 c.args.millimetres - 30)) % 18446744073709551616 / 2 ≡ c.args.millimetres * 2 ^ (z - 30 - 1) = ap (λ (x
    : ℕ). x / 2) ((let whole_here : (c.args.millimetres * 2 ^ (count_leading_zeros 64 c.args.millimetres - 30)) % 18446744073709551616 ≡ (c.args.millimetres * 2 ^
    (count_leading_zeros 64 c.args.millimetres - 30)) = mod-eq_of_lt (let h = ((let lift_here : Raised c.args.millimetres (count_leading_zeros 64 c.args.millimetres)
    = raised _ (omega (arith, c.if-millimetres-eq0.false)) (omega arith) in lift_here)).fits in omega arith) in whole_here)) ∙ halved c.args.millimetres (z - 30) (omega (arith, r.least)) in
    c.pattern-2.ensures.0 c.args.millimetres (scaled-up c.args.millimetres (z - 30 - 1) (179 - z + 1) sum ∙ ap (λ (x : ℕ). x * 2 ^ (179 - z + 1)) (sym half))
