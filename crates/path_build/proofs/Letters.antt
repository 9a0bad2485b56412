-- One command of a list by its letter. Assumes nothing.
use Prim.Native.Nat.{ℕ, ◌+◌, ◌≤◌}
use mathlib.Core.Path.{◌≡◌, refl, sym, ap, subst, ◌∙◌}
use mathlib.Core.Bool.{Bool, true, false, ◌&&◌, cond}
use mathlib.Core.List.{List}
use native.Mathlib.Nat.{add-zero}
use native.Mathlib.Omega.{arith}
use lib.Dec.{ltb, eqb}
use lib.Ieee.{Float}
use lib.ListN.{length, drop, length-drop}
use Rattle.std.specs.Prelude.{Option, Some, None}
use Rattle.math.specs.declared.points.Point.{Point}
use Rattle.floats.specs.Floats.{bits_of}
use Rattle.commands.specs.Stored.{arguments_of}
use Rattle.commands.specs.Listed.{number_at, point_at, is_flag, is_set, arc_of, enough, command_of}
use Rattle.commands.specs.declared.command.PathCommand.{PathCommand}
use Rattle.commands.specs.declared.command.PathCommand.TheVariants.{MoveTo, LineTo, QuadTo, CubicTo, ArcTo, ClosePath}
use Rattle.commands.proofs.Decoding.{point-from, is-line, is-quad, is-cubic}
use Rattle.path_drawing.specs.Drawing.{draw_of}
use Rattle.path_drawing.specs.declared.pens.Pen.{Pen}
use Rattle.path_build.specs.Letters.{stride_of, drawn_at}

-- ---- a letter takes the numbers of its command

abbrev Strides : ℕ → Option PathCommand → Type 0
Strides width (Some command) = width ≡ length (arguments_of command)
Strides width None = Unit {0}

module _ (numbers : List Float) where
  enough-strides : (width : ℕ) (short : Bool) (decoded : Option PathCommand) → Strides width decoded → Strides width (cond short None decoded)
  enough-strides width true decoded s = tt
  enough-strides width false decoded s = s

  arc-strides : Strides 7 (arc_of numbers)
  unfolding arc_of
  arc-strides = by (is_flag (bits_of (number_at numbers 3)) && is_flag (bits_of (number_at numbers 4)))
    where
      by :
          (b : Bool)
          → Strides 7 (cond b (Some (ArcTo (point_at numbers 0) (number_at numbers 2) (is_set (bits_of (number_at numbers 3))) (is_set (bits_of (number_at numbers 4))) (point_at numbers 5))) None)
      by true = refl
      by false = tt

  stride-told : (letter : ℕ) → Strides (stride_of letter) (command_of letter numbers)
  unfolding stride_of command_of
  stride-told letter = by (eqb letter 77) (eqb letter 76) (eqb letter 81) (eqb letter 67) (eqb letter 65) (eqb letter 90)
    where
      by :
          (m l q c a z : Bool)
          → Strides (cond m 2 (cond l 2 (cond q 4 (cond c 6 (cond a 7 0)))))
          (cond m (enough 2 numbers (Some (MoveTo (point_at numbers 0))))
          (cond l (enough 2 numbers (Some (LineTo (point_at numbers 0))))
          (cond q (enough 4 numbers (Some (QuadTo (point_at numbers 0) (point_at numbers 2))))
          (cond c (enough 6 numbers (Some (CubicTo (point_at numbers 0) (point_at numbers 2) (point_at numbers 4))))
          (cond a (enough 7 numbers (arc_of numbers))
          (cond z (Some ClosePath)
          None))))))
      by true l q c a z = enough-strides 2 (ltb (length numbers) 2) (Some (MoveTo (point_at numbers 0))) refl
      by false true q c a z = enough-strides 2 (ltb (length numbers) 2) (Some (LineTo (point_at numbers 0))) refl
      by false false true c a z = enough-strides 4 (ltb (length numbers) 4) (Some (QuadTo (point_at numbers 0) (point_at numbers 2))) refl
      by false false false true a z = enough-strides 6 (ltb (length numbers) 6) (Some (CubicTo (point_at numbers 0) (point_at numbers 2) (point_at numbers 4))) refl
      by false false false false true z = enough-strides 7 (ltb (length numbers) 7) (arc_of numbers) arc-strides
      by false false false false false true = refl
      by false false false false false false = tt

  pub stride-is : (letter : ℕ) (command : PathCommand) → command_of letter numbers ≡ Some command → stride_of letter ≡ length (arguments_of command)
  stride-is letter command e = subst (Strides (stride_of letter)) e (stride-told letter)

-- ---- what a letter draws

pub drawn-command : (pen : Pen) {decoded : Option PathCommand} {command : PathCommand} → decoded ≡ Some command → drawn_at pen decoded ≡ draw_of pen command
unfolding drawn_at
drawn-command pen e = ap (drawn_at pen) e

pub drawn-bad : (pen : Pen) {decoded : Option PathCommand} → decoded ≡ None → drawn_at pen decoded ≡ None
unfolding drawn_at
drawn-bad pen e = ap (drawn_at pen) e

module _ (letter : ℕ) (numbers : List Float) (at : ℕ) (fits : at + stride_of letter ≤ length numbers) where
  left : (width : ℕ) → stride_of letter ≡ width → width ≤ length (drop at numbers)
  left width e = omega (arith, length-drop at numbers)

  first : (p : Point) → p ≡ point_at numbers at → p ≡ point_at (drop at numbers) 0
  first p e = e ∙ point-from numbers at 0 at (sym (add-zero at))

  later : (p : Point) (i : ℕ) → p ≡ point_at numbers (at + i) → p ≡ point_at (drop at numbers) i
  later p i e = e ∙ point-from numbers at i (at + i) refl

  pub line-wide : letter ≡ 76 → at + 2 ≤ length numbers
  unfolding stride_of
  line-wide e = let w : stride_of letter ≡ 2 = ap stride_of e in omega arith

  pub quad-wide : letter ≡ 81 → at + 4 ≤ length numbers
  unfolding stride_of
  quad-wide e = let w : stride_of letter ≡ 4 = ap stride_of e in omega arith

  pub cubic-wide : letter ≡ 67 → at + 6 ≤ length numbers
  unfolding stride_of
  cubic-wide e = let w : stride_of letter ≡ 6 = ap stride_of e in omega arith

  pub line_at : (pen : Pen) → letter ≡ 76 → (end : Point) → end ≡ point_at numbers at → drawn_at pen (command_of letter (drop at numbers)) ≡ draw_of pen (LineTo end)
  unfolding stride_of
  line_at pen e end p = drawn-command pen (sym (is-line letter (drop at numbers) end (first end p) e (left 2 (ap stride_of e))))

  pub quad_at : (pen : Pen) → letter ≡ 81 → (control end : Point) → control ≡ point_at numbers at → end ≡ point_at numbers (at + 2)
      → drawn_at pen (command_of letter (drop at numbers)) ≡ draw_of pen (QuadTo control end)
  unfolding stride_of
  quad_at pen e control end p q = drawn-command pen (sym (is-quad letter (drop at numbers) control end (first control p) (later end 2 q) e (left 4 (ap stride_of e))))

  pub cubic-at : (pen : Pen) → letter ≡ 67 → (control1 control2 end : Point) → control1 ≡ point_at numbers at → control2 ≡ point_at numbers (at + 2) → end ≡ point_at numbers (at + 4)
      → drawn_at pen (command_of letter (drop at numbers)) ≡ draw_of pen (CubicTo control1 control2 end)
  unfolding stride_of
  cubic-at pen e control1 control2 end p q r =
      drawn-command pen (sym (is-cubic letter (drop at numbers) control1 control2 end (first control1 p) (later control2 2 q) (later end 4 r) e (left 6 (ap stride_of e))))
