-- Every argument starts as a number does, and has a byte. Assumes nothing.
use Prim.Native.Nat.{ℕ, ◌<◌}
use mathlib.Core.List.{List}
use native.Mathlib.Omega.{arith}
use Rattle.scan.specs.Bytes.{among, flags, number_starts}
use Rattle.strict_grammar.specs.Spans.{Span, ◌·◌, opt}
use Rattle.strict_grammar.specs.Grammar.{nonnegative-number, number, flag, comma-wsp, coordinate-pair, smooth-curveto-argument, elliptical-arc-argument}
use Rattle.strict_grammar.specs.declared.Edition.{Edition}
use Rattle.strict_grammar.proofs.SpanLaws.{wider}
use Rattle.strict_grammar.proofs.Numbers.{number-starts, number-grows, nonnegative-is}
use Rattle.strict_grammar.proofs.Separators.{comma-grows, separator-le}
use Rattle.strict_grammar.proofs.Theorems.{rotation-is}
use Rattle.strict_argument.specs.Reading.{arc-from-radius, arc-from-rotation, arc-from-large-flag, arc-from-sweep-flag, argument_of}
use Rattle.strict_argument.specs.declared.groups.Kind.{Kind}
use Rattle.strict_argument.specs.declared.groups.Kind.TheVariants.{Coordinate, Pair, TwoPairs, ThreePairs, Arc}
use Rattle.strict_argument.proofs.Steps.{Starts}

-- every word of P has a byte
abbrev pub Grows : Span → Type 0
Grows P = (i j : ℕ) → P i j → i < j

module _ (edition : Edition) (text : List ℕ) where
  -- ---- what a word starts with

  pub flag-starts : Starts text (flag edition text)
  unfolding among
  flag-starts i j b = (wider {l = flags} {m = number_starts} tt b).there

  radius-starts : Starts text (nonnegative-number edition text)
  radius-starts i j n = number-starts edition text i j (nonnegative-is edition text i j n)

  pub pair-starts : Starts text (coordinate-pair edition text)
  unfolding coordinate-pair
  pair-starts i j w = number-starts edition text i w.0 w.1

  pub two-pairs-starts : Starts text (smooth-curveto-argument edition text)
  two-pairs-starts i j w = pair-starts i w.0 w.1

  pub sweep-flag-starts : Starts text (arc-from-sweep-flag edition text)
  unfolding arc-from-sweep-flag
  sweep-flag-starts i j w = flag-starts i w.0 w.1

  pub large-flag-starts : Starts text (arc-from-large-flag edition text)
  unfolding arc-from-large-flag
  large-flag-starts i j w = flag-starts i w.0 w.1

  pub rotation-starts : Starts text (arc-from-rotation edition text)
  unfolding arc-from-rotation
  rotation-starts i j w = number-starts edition text i w.0 (rotation-is edition text i w.0 w.1)

  pub second-radius-starts : Starts text (arc-from-radius edition text)
  unfolding arc-from-radius
  second-radius-starts i j w = radius-starts i w.0 w.1

  pub argument-starts : (kind : Kind) → Starts text (argument_of edition text kind)
  unfolding elliptical-arc-argument
  argument-starts Coordinate i j w = number-starts edition text i j w
  argument-starts Pair i j w = pair-starts i j w
  argument-starts TwoPairs i j w = pair-starts i w.0 w.1
  argument-starts ThreePairs i j w = pair-starts i w.0 w.1
  argument-starts Arc i j w = radius-starts i w.0 w.1

  -- ---- that it has a byte

  step-grows : (P Q : Span) → Grows P → Grows Q → Grows (P · opt (comma-wsp edition text) · Q)
  step-grows P Q f g i j (k, p, (m, o, q)) = let x = f i k p in let y = separator-le edition text k m o in let z = g m j q in omega arith

  radius-grows : Grows (nonnegative-number edition text)
  radius-grows i j n = number-grows edition text i j (nonnegative-is edition text i j n)

  flag-grows : Grows (flag edition text)
  flag-grows i j b = let x = b.next in omega arith

  pair-grows : Grows (coordinate-pair edition text)
  unfolding coordinate-pair
  pair-grows = step-grows (number edition text) (number edition text) (number-grows edition text) (number-grows edition text)

  two-pairs-grows : Grows (smooth-curveto-argument edition text)
  two-pairs-grows = step-grows (coordinate-pair edition text) (coordinate-pair edition text) pair-grows pair-grows

  sweep-flag-grows : Grows (arc-from-sweep-flag edition text)
  unfolding arc-from-sweep-flag
  sweep-flag-grows = step-grows (flag edition text) (coordinate-pair edition text) flag-grows pair-grows

  large-flag-grows : Grows (arc-from-large-flag edition text)
  unfolding arc-from-large-flag
  large-flag-grows = step-grows (flag edition text) (arc-from-sweep-flag edition text) flag-grows sweep-flag-grows

  rotation-grows : Grows (arc-from-rotation edition text)
  unfolding arc-from-rotation
  rotation-grows i j (k, n, (m, c, w)) = let x = number-grows edition text i k (rotation-is edition text i k n) in let y = comma-grows edition text k m c in let z = large-flag-grows m j w in omega arith

  second-radius-grows : Grows (arc-from-radius edition text)
  unfolding arc-from-radius
  second-radius-grows = step-grows (nonnegative-number edition text) (arc-from-rotation edition text) radius-grows rotation-grows

  pub argument-grows : (kind : Kind) → Grows (argument_of edition text kind)
  unfolding elliptical-arc-argument arc-from-radius arc-from-rotation arc-from-large-flag arc-from-sweep-flag
  argument-grows Coordinate = number-grows edition text
  argument-grows Pair = pair-grows
  argument-grows TwoPairs = two-pairs-grows
  argument-grows ThreePairs = step-grows (coordinate-pair edition text) (smooth-curveto-argument edition text) pair-grows two-pairs-grows
  argument-grows Arc = step-grows (nonnegative-number edition text) (arc-from-radius edition text) radius-grows second-radius-grows
