-- A command is read back case by case: each letter with enough numbers, with too few, and the letters that are none. Assumes nothing.
use Prim.Native.Nat.{ℕ, ◌+◌, ◌≤◌, ◌<◌}
use mathlib.Core.Path.{◌≡◌, refl, sym, ap, ◌∙◌}
use mathlib.Core.Bool.{Bool, true, false}
use mathlib.Core.List.{List}
use Rattle.std.specs.Prelude.{Some, None}
use native.Mathlib.Nat.{add_assoc, add-zero}
use borrow.Author.Tests.{lt-ltb, le-ltb, ne_eqb}
use lib.Ieee.{Float, nan}
use lib.ListN.{length, drop}
use lib.Seq.{get_or-drop}
use Rattle.math.specs.declared.points.Point.{Point}
use Rattle.floats.specs.Floats.{bits_of}
use Rattle.commands.specs.Listed.{number_at, point_at, is_flag, is_set, arc_of, command_of}
use Rattle.commands.specs.declared.command.PathCommand.TheVariants.{MoveTo, LineTo, QuadTo, CubicTo, ArcTo, ClosePath}

-- ---- numbers from one on

module _ (numbers : List Float) (at i j : ℕ) (e : j ≡ at + i) where
  pub number-from : number_at numbers j ≡ number_at (drop at numbers) i
  number-from = rw e (sym (get_or-drop at numbers i nan))

  pub point-from : point_at numbers j ≡ point_at (drop at numbers) i
  point-from =
      let x = number-from in
      let y : number_at numbers (j + 1) ≡ number_at (drop at numbers) (i + 1) = rw (e, add_assoc at i 1) (sym (get_or-drop at numbers (i + 1) nan)) in
      cc

module _ (numbers : List Float) (at : ℕ) {p : Point} where
  pub point-first : p ≡ point_at numbers at → p ≡ point_at (drop at numbers) 0
  point-first e = e ∙ point-from numbers at 0 at (sym (add-zero at))

  pub point-later : (i : ℕ) → p ≡ point_at numbers (at + i) → p ≡ point_at (drop at numbers) i
  point-later i e = e ∙ point-from numbers at i (at + i) refl

-- ---- an arc's flags

module _ (numbers : List Float) (at : ℕ) {large sweep : ℕ} (el : large ≡ bits_of (number_at numbers (at + 3))) (es : sweep ≡ bits_of (number_at numbers (at + 4))) where
  large_is : bits_of (number_at (drop at numbers) 3) ≡ large
  large_is = sym (el ∙ ap bits_of (number-from numbers at 3 (at + 3) refl))

  sweep-is : bits_of (number_at (drop at numbers) 4) ≡ sweep
  sweep-is = sym (es ∙ ap bits_of (number-from numbers at 4 (at + 4) refl))

  pub arc-flagged :
      {radii end : Point} {l s : Bool} → is_flag large ≡ true → is_flag sweep ≡ true
      → radii ≡ point_at numbers at → l ≡ is_set large → s ≡ is_set sweep → end ≡ point_at numbers (at + 5)
      → Some (ArcTo radii (number_at numbers (at + 2)) l s end) ≡ arc_of (drop at numbers)
  unfolding arc_of
  arc-flagged f g er el es ee =
      simp (point-first numbers at er, number-from numbers at 2 (at + 2) refl, el, es, point-later numbers at 5 ee, large_is, sweep-is, f, g)

  pub arc-large : is_flag large ≡ false → None ≡ arc_of (drop at numbers)
  unfolding arc_of
  arc-large f = simp (large_is, f)

  pub arc-sweep : is_flag large ≡ true → is_flag sweep ≡ false → None ≡ arc_of (drop at numbers)
  unfolding arc_of
  arc-sweep f g = simp (large_is, sweep-is, f, g)

-- ---- the letters

module _ (letter : ℕ) (numbers : List Float) where
  pub is_move : (end : Point) → end ≡ point_at numbers 0 → letter ≡ 77 → 2 ≤ length numbers → Some (MoveTo end) ≡ command_of letter numbers
  unfolding command_of
  is_move end p e h = rw (p, e, le-ltb (length numbers) 2 h)

  pub is-line : (end : Point) → end ≡ point_at numbers 0 → letter ≡ 76 → 2 ≤ length numbers → Some (LineTo end) ≡ command_of letter numbers
  unfolding command_of
  is-line end p e h = rw (p, e, le-ltb (length numbers) 2 h)

  pub is-quad :
      (control end : Point) → control ≡ point_at numbers 0 → end ≡ point_at numbers 2 → letter ≡ 81 → 4 ≤ length numbers
      → Some (QuadTo control end) ≡ command_of letter numbers
  unfolding command_of
  is-quad control end p q e h = rw (p, q, e, le-ltb (length numbers) 4 h)

  pub is-cubic :
      (control1 control2 end : Point) → control1 ≡ point_at numbers 0 → control2 ≡ point_at numbers 2 → end ≡ point_at numbers 4 → letter ≡ 67 → 6 ≤ length numbers
      → Some (CubicTo control1 control2 end) ≡ command_of letter numbers
  unfolding command_of
  is-cubic control1 control2 end p q r e h = rw (p, q, r, e, le-ltb (length numbers) 6 h)

  pub is-arc : letter ≡ 65 → 7 ≤ length numbers → arc_of numbers ≡ command_of letter numbers
  unfolding command_of
  is-arc e h = rw (e, le-ltb (length numbers) 7 h)

  pub is-close : letter ≡ 90 → Some ClosePath ≡ command_of letter numbers
  unfolding command_of
  is-close e = rw e

  pub short-move : letter ≡ 77 → length numbers < 2 → None ≡ command_of letter numbers
  unfolding command_of
  short-move e h = rw (e, lt-ltb (length numbers) 2 h)

  pub short-line : letter ≡ 76 → length numbers < 2 → None ≡ command_of letter numbers
  unfolding command_of
  short-line e h = rw (e, lt-ltb (length numbers) 2 h)

  pub short-quad : letter ≡ 81 → length numbers < 4 → None ≡ command_of letter numbers
  unfolding command_of
  short-quad e h = rw (e, lt-ltb (length numbers) 4 h)

  pub short-cubic : letter ≡ 67 → length numbers < 6 → None ≡ command_of letter numbers
  unfolding command_of
  short-cubic e h = rw (e, lt-ltb (length numbers) 6 h)

  pub short-arc : letter ≡ 65 → length numbers < 7 → None ≡ command_of letter numbers
  unfolding command_of
  short-arc e h = rw (e, lt-ltb (length numbers) 7 h)

  pub unknown :
      (letter ≡ 77 → ⊥) → (letter ≡ 76 → ⊥) → (letter ≡ 81 → ⊥) → (letter ≡ 67 → ⊥) → (letter ≡ 65 → ⊥) → (letter ≡ 90 → ⊥)
      → None ≡ command_of letter numbers
  unfolding command_of
  unknown m l q c a z = simp (ne_eqb letter 77 m, ne_eqb letter 76 l, ne_eqb letter 81 q, ne_eqb letter 67 c, ne_eqb letter 65 a, ne_eqb letter 90 z)
