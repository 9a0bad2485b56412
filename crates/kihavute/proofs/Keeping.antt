-- The laws of the crates below, of an answer that equals its definition: the f32 values that they ask for are those of the call. Assumes nothing.
use Prim.Native.Nat.{ℕ, suc}
use mathlib.Core.Path.{◌≡◌, refl, sym, ap, ◌∙◌, subst}
use mathlib.Core.Bool.{true, false}
use lib.Dec.{T, eqb, eqb-suc-zero}
use lib.IntN.{ℤ}
use lib.Ieee.{Float, nan, inf, fin, binary32, fits}
use lib.Ieee.Scale.{finite}
use Rattle.floats.specs.Floats.{zero_f, bits_of}
use Rattle.floats.specs.Kinds.{is_zero}
use Rattle.floats.proofs.Tests.{cond_yes}
use Rattle.root.specs.Root.{sqrt_of, NearestRoot}
use Rattle.root.proofs.Laws.{sqrt-nearest}
use Rattle.trig_rule.specs.Rule.{Is, SineRule, CosineRule}
use Rattle.trig_rule.specs.Steps.{sine_of, cosine_of}
use Rattle.trig_rule.proofs.Ruled.{sine-far, cosine-far, sine-keeps-rule, cosine-keeps-rule}
use Rattle.atan2_rule.specs.Rule.{pi_units, Atan2Rule}
use Rattle.atan2_rule.specs.Steps.{atan2_of}
use Rattle.atan2_rule.proofs.Meets.{atan2-meets-rule, atan2-both-zero, atan2-zero-right, atan2-zero-left, atan2-not-finite}
use Rattle.lengths.specs.Length.{length_of as length_by}
use Rattle.lengths_nearest.proofs.Kept.{length-kept}
use Rattle.math.specs.Math.{point_of, length_of}
use Rattle.kihavute.specs.Kept.{RootKept, RootSettled, LengthBits, SineKept, CosineKept, Atan2Kept, Atan2Settled}

root-of-zero : (x : Float) → T (is_zero x) → sqrt_of x ≡ x
unfolding sqrt_of
root-of-zero nan z = absurd z
root-of-zero (inf s) z = absurd z
root-of-zero (fin s m e) z = cond_yes (eqb m 0) _ _ z

root_below : (m : ℕ) (e : ℤ) → sqrt_of (fin true (suc m) e) ≡ nan
unfolding sqrt_of
root_below m e = simp eqb-suc-zero

root-of-nan : sqrt_of nan ≡ nan
unfolding sqrt_of
root-of-nan = refl

root-endless : sqrt_of (inf false) ≡ inf false
unfolding sqrt_of
root-endless = refl

root-below-all : sqrt_of (inf true) ≡ nan
unfolding sqrt_of
root-below-all = refl

module _ (x : Float) (held : T (fits binary32 x)) {r : Float} where
  pub root-settled : r ≡ sqrt_of x → RootSettled x r
  root-settled e =
      record {
        near = λ above. subst (NearestRoot binary32 x) (sym e) (sqrt-nearest x held above);
        zero = λ z. e ∙ root-of-zero x z;
        endless = λ z. e ∙ ap sqrt_of z ∙ root-endless ∙ sym z;
        none = λ z. e ∙ ap sqrt_of z ∙ root-of-nan;
        below = λ m d z. e ∙ ap sqrt_of z ∙ root_below m d;
        below_all = λ z. e ∙ ap sqrt_of z ∙ root-below-all;
      }

  pub root_kept : r ≡ sqrt_of x → RootKept x r
  root_kept e = (root-settled e).near

  pub sine-kept : r ≡ sine_of x → SineKept x r
  sine-kept e = record { near = λ reach. subst (SineRule x) (sym e) (sine-keeps-rule x held reach); far = λ beyond. e ∙ sine-far x beyond }

  pub cosine-kept : r ≡ cosine_of x → CosineKept x r
  cosine-kept e = record { near = λ reach. subst (CosineRule x) (sym e) (cosine-keeps-rule x held reach); far = λ beyond. e ∙ cosine-far x beyond }

zero-finite : (x : Float) → T (is_zero x) → T (finite x)
zero-finite nan z = z
zero-finite (inf s) z = z
zero-finite (fin s m e) z = tt

pub atan2-kept : (y x : Float) → T (fits binary32 y) → T (fits binary32 x) → {r : Float} → r ≡ atan2_of y x → Atan2Kept y x r
unfolding zero_f
atan2-kept y x rise run e =
    record {
      rule = λ upper lower some. subst (Atan2Rule y x) (sym e) (atan2-meets-rule y x rise run upper lower some);
      nowhere = λ level still. e ∙ atan2-both-zero y x rise run (zero-finite y level) (zero-finite x still) level still;
      endless = λ other. e ∙ atan2-not-finite y x other;
    }

pub atan2-settled : (y x : Float) → T (fits binary32 x) → {r : Float} → r ≡ atan2_of y x → Atan2Settled y x r
atan2-settled y x run e =
    record {
      level-right = λ p X level right some. e ∙ atan2-zero-right y x p X level run some right;
      level-left = λ p X level left some. subst (λ (a : Float). Is a p pi_units) (sym e) (atan2-zero-left y x p X level run some left);
    }

-- the length of a vector
pub length-bits : (x y : Float) {bits : ℕ} → bits ≡ bits_of (length_of (point_of x y)) → LengthBits x y bits
unfolding length_of
length-bits x y e = (length_by x y, e, length-kept x y)
