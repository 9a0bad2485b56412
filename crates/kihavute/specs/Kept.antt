-- What the documents promise of the root, a length, sine, cosine and atan2, of the floats of one call and its answer: nothing is asked of them, since a float that is passed is an f32 value.
-- Definitions only.
use Rattle.std.specs.Prelude.{ℕ, suc, ◌<◌, ◌≡◌, Bool, true, false, not, ◌&&◌, T, ℤ, Float}
use Rattle.std.specs.Float.{nan, inf, fin, binary32}
use Rattle.std.specs.Float.Ieee.Positive.{positive}
use Rattle.std.specs.Float.Ieee.Scale.{finite}
use Rattle.floats.specs.Floats.{zero_f, bits_of}
use Rattle.floats.specs.Kinds.{is_zero}
use Rattle.root.specs.Root.{NearestRoot}
use Rattle.lengths_nearest.specs.Kept.{LengthKept}
use Rattle.trig_rule.specs.Rule.{Is, in_the_reach, SineRule, CosineRule}
use Rattle.atan2_rule.specs.Rule.{pi_units, Atan2Rule}

-- "The root is the nearest value to the exact root, ties to even, judged by squares of whole numbers"
abbrev pub RootKept : Float → Float → Type 0
RootKept x r = T (positive x) → NearestRoot binary32 x r

-- and the rest of that sentence: "-0 and infinity give themselves, NaN and below zero NaN."
pub record RootSettled (x r : Float) : Type 0 where
  pub near : RootKept x r
  pub zero : T (is_zero x) → r ≡ x
  pub endless : x ≡ inf false → r ≡ x
  pub none : x ≡ nan → r ≡ nan
  pub below : (m : ℕ) (e : ℤ) → x ≡ fin true (suc m) e → r ≡ nan
  pub below_all : x ≡ inf true → r ≡ nan

-- "square and add in f64, take the f64 root correctly rounded, then round to f32" (document 02, L9): the bits of that length
abbrev pub LengthBits : Float → Float → ℕ → Type 0
LengthBits x y bits = (length : Float) × (bits ≡ bits_of length) × LengthKept x y length

-- "Sine and cosine take angles of at most 64 radians in size, else NaN."
pub record SineKept (angle r : Float) : Type 0 where
  pub near : T (in_the_reach angle) → SineRule angle r
  pub far : in_the_reach angle ≡ false → r ≡ nan

pub record CosineKept (angle r : Float) : Type 0 where
  pub near : T (in_the_reach angle) → CosineRule angle r
  pub far : in_the_reach angle ≡ false → r ≡ nan

-- "Atan2 of finite y, x, not both 0, is an a in [-PI, PI] ..", "Both zero: 0.", "Not finite: NaN."
pub record Atan2Kept (y x r : Float) : Type 0 where
  pub rule : T (finite y) → T (finite x) → T (not (is_zero y && is_zero x)) → Atan2Rule y x r
  pub nowhere : T (is_zero y) → T (is_zero x) → r ≡ zero_f
  pub endless : T (not (finite y && finite x)) → r ≡ nan

-- "for y zero it is zero with x above 0 and PI in size with x below." A y zero has no units, an x that is not has X; the zero is y itself, and PI has its sign.
pub record Atan2Settled (y x r : Float) : Type 0 where
  pub level-right : (p : Bool) (X : ℕ) → Is y p 0 → Is x false X → 0 < X → r ≡ y
  pub level-left : (p : Bool) (X : ℕ) → Is y p 0 → Is x true X → 0 < X → Is r p pi_units
