-- Each test picks a case of the definition; in the last one the difference is of numbers that are far enough apart. Assumes nothing.
use borrow.Author.Tests.{lt-ltb, le-ltb}
use native.Mathlib.Omega.{arith}
use mathlib.Core.Path.{◌≡◌, sym, ap, subst}
use mathlib.Core.Bool.{Bool, true, false, not, cond}
use lib.Dec.{T}
use lib.Ieee.{Float, binary64, is_nan, ne, to_bits}
use lib.Ieee.Compare.{differs_from_itself}
use Rattle.atan2_rule.specs.Steps.{pi_bits, narrowed, near_of}
use Rattle.atan2.proofs.Numbers.{is_number}
use Rattle.atan2.proofs.guess.near_bits.Goals as goal

not-nan : (x : Float) → ne x x ≡ true → is_nan x ≡ true
unfolding is_nan
not-nan x h = ap is_nan (differs_from_itself x (subst T (sym h) tt))

at-nan : (g : Float) → is_nan g ≡ true → pi_bits ≡ near_of g
unfolding near_of
at-nan g h = sym (ap (λ (t : Bool). cond t pi_bits (narrowed (to_bits binary64 g))) h)

at-number : (g : Float) → is_nan g ≡ false → narrowed (to_bits binary64 g) ≡ near_of g
unfolding near_of
at-number g h = sym (ap (λ (t : Bool). cond t pi_bits (narrowed (to_bits binary64 g))) h)

pub returns-then-g : goal.returns-then-g
returns-then-g c = (at-nan _ (not-nan _ c.if-g.true), omega arith, omega arith)

pub float_to_bits-b : goal.float_to_bits-b
float_to_bits-b c = subst (λ (b : Bool). T (not b)) (sym (is_number _ c.if-g.false)) tt

pub returns-then-b-lt4544132024016830464 : goal.returns-then-b-lt4544132024016830464
returns-then-b-lt4544132024016830464 c = (simp (lt-ltb _ _ c.if-b-lt4544132024016830464.true) at (at-number _ (is_number _ c.if-g.false)), omega arith, omega arith)

pub returns-then-b-gt4614256656748904448 : goal.returns-then-b-gt4614256656748904448
returns-then-b-gt4614256656748904448 c = (simp (le-ltb _ _ c.if-b-lt4544132024016830464.false, lt-ltb _ _ c.if-b-gt4614256656748904448.true) at (at-number _ (is_number _ c.if-g.false)), omega arith, omega arith)

pub returns : goal.returns
returns c = (simp (le-ltb _ _ c.if-b-lt4544132024016830464.false, le-ltb _ _ c.if-b-gt4614256656748904448.false) at (at-number _ (is_number _ c.if-g.false)), omega arith, omega arith)
