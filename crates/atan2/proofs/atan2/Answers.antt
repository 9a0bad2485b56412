-- Each test picks a case of the definition. Assumes nothing.
use borrow.Author.Tests.{not-true, not-false, eq-eqb, ne_eqb}
use Prim.Native.Nat.{ℕ, ◌/◌, ◌%◌}
use mathlib.Core.Path.{◌≡◌, refl, sym, ap, ◌∙◌}
use mathlib.Core.Bool.{not, Bool, true, false, cond, ◌&&◌}
use lib.Dec.{eqb}
use lib.Ieee.{Float, nan, binary32, binary64, to_bits, of_bits, div}
use lib.Ieee.Scale.{finite}
use Rattle.floats.specs.Patterns.{wide_sign_place}
use Rattle.atan2_rule.specs.Steps.{plain, sign_bit, level, slanted, atan2_of}
use Rattle.atan2.proofs.atan2.Goals as goal

none : div binary32 (of_bits binary32 0) (of_bits binary32 0) ≡ nan
unfolding div of_bits
none = refl

and-off : (a : Bool) → (a && false) ≡ false
and-off true = refl
and-off false = refl

module _ (y x : Float) where
  abbrev inside : Float
  inside = cond (eqb (plain y) 0) (level y (plain x) (sign_bit y) (sign_bit x)) (slanted y x (plain y) (plain x) (sign_bit y) (sign_bit x))

  nan-first : finite y ≡ false → nan ≡ atan2_of y x
  unfolding atan2_of
  nan-first h = sym (ap (λ (t : Bool). cond (t && finite x) (inside) nan) h)

  nan-second : finite x ≡ false → nan ≡ atan2_of y x
  unfolding atan2_of
  nan-second h = sym (ap (λ (t : Bool). cond (finite y && t) (inside) nan) h ∙ ap (λ (t : Bool). cond t (inside) nan) (and-off (finite y)))

  both-finite : finite y ≡ true → finite x ≡ true → inside ≡ atan2_of y x
  unfolding atan2_of
  both-finite h k = sym (ap (λ (t : Bool). cond (t && finite x) (inside) nan) h ∙ ap (λ (t : Bool). cond t (inside) nan) k)

  -- c and d are the bits of y and x
  module _ (c d : ℕ) (ec : c ≡ to_bits binary64 y) (ed : d ≡ to_bits binary64 x) (h : finite y ≡ true) (k : finite x ≡ true) where
    on-axis : c % wide_sign_place ≡ 0 → level y (d % wide_sign_place) (c / wide_sign_place) (d / wide_sign_place) ≡ atan2_of y x
    on-axis z =
        ap (λ (n : ℕ). level y (n % wide_sign_place) (c / wide_sign_place) (n / wide_sign_place)) ed
        ∙ ap (λ (n : ℕ). level y (plain x) (n / wide_sign_place) (sign_bit x)) ec
        ∙ sym (ap (λ (t : Bool). cond t (level y (plain x) (sign_bit y) (sign_bit x)) (slanted y x (plain y) (plain x) (sign_bit y) (sign_bit x))) (eq-eqb (plain y) 0 (sym (ap (λ (n : ℕ). n % wide_sign_place) ec) ∙ z)))
        ∙ both-finite h k

    off-axis : (c % wide_sign_place ≡ 0 → ⊥)
        → slanted y x (c % wide_sign_place) (d % wide_sign_place) (c / wide_sign_place) (d / wide_sign_place) ≡ atan2_of y x
    off-axis z =
        ap (λ (n : ℕ). slanted y x (c % wide_sign_place) (n % wide_sign_place) (c / wide_sign_place) (n / wide_sign_place)) ed
        ∙ ap (λ (n : ℕ). slanted y x (n % wide_sign_place) (plain x) (n / wide_sign_place) (sign_bit x)) ec
        ∙ sym (ap (λ (t : Bool). cond t (level y (plain x) (sign_bit y) (sign_bit x)) (slanted y x (plain y) (plain x) (sign_bit y) (sign_bit x))) (ne_eqb (plain y) 0 (λ (e : plain y ≡ 0). z (ap (λ (n : ℕ). n % wide_sign_place) ec ∙ e))))
        ∙ both-finite h k

pub returns-then-not-is_finite : goal.returns-then-not-is_finite
returns-then-not-is_finite c = none ∙ nan-first _ _ (sym c.is_finite.ensures ∙ not-true _ (ap not c.if-not-is_finite.true))

pub returns-then-not-is_finite-2 : goal.returns-then-not-is_finite-2
returns-then-not-is_finite-2 c = none ∙ nan-second _ _ (sym c.is_finite-2.ensures ∙ not-true _ (ap not c.if-not-is_finite-2.true))

pub returns-then-a-eq0 : goal.returns-then-a-eq0
returns-then-a-eq0 c =
    let fy = sym c.is_finite.ensures ∙ not-false _ (ap not c.if-not-is_finite.false) in
    let fx = sym c.is_finite-2.ensures ∙ not-false _ (ap not c.if-not-is_finite-2.false) in
    c.axis.ensures ∙ on-axis c.args.y c.args.x _ _ c.wide-c.ensures.0 c.wide-d.ensures.0 fy fx c.if-a-eq0.true

pub returns : goal.returns
returns c =
    let fy = sym c.is_finite.ensures ∙ not-false _ (ap not c.if-not-is_finite.false) in
    let fx = sym c.is_finite-2.ensures ∙ not-false _ (ap not c.if-not-is_finite-2.false) in
    c.slant.ensures ∙ off-axis c.args.y c.args.x _ _ c.wide-c.ensures.0 c.wide-d.ensures.0 fy fx c.if-a-eq0.false
