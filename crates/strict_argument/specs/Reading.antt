-- The answer of a reader of one production, and the productions of the arguments by kind. Definitions only.
use Rattle.std.specs.Prelude.{ℕ, List, Option, Some, None}
use Rattle.strict_grammar.specs.Spans.{Span, ◌·◌, opt}
use Rattle.strict_grammar.specs.Grammar.{nonnegative-number, rotation, flag, comma-wsp, coordinate, coordinate-pair, smooth-curveto-argument, curveto-argument, elliptical-arc-argument}
use Rattle.strict_grammar.specs.Words.{Only, Lacks}
use Rattle.strict_grammar.specs.declared.Edition.{Edition}
use Rattle.strict_argument.specs.declared.groups.Kind.{Kind}
use Rattle.strict_argument.specs.declared.groups.Kind.TheVariants.{Coordinate, Pair, TwoPairs, ThreePairs, Arc}

-- an answer is right for a production at a place: the only place where a word of it ends, or none where it has none
abbrev pub Reads : Span → ℕ → Option ℕ → Type 0
Reads P i (Some end) = Only P i end
Reads P i None = Lacks P i

module _ (edition : Edition) (text : List ℕ) where
  -- the ends of an arc's argument, from its second flag, its first flag, its rotation and its second radius
  unfoldable pub arc-from-sweep-flag : Span
  arc-from-sweep-flag = flag edition text · opt (comma-wsp edition text) · coordinate-pair edition text

  unfoldable pub arc-from-large-flag : Span
  unfolding arc-from-sweep-flag
  arc-from-large-flag = flag edition text · opt (comma-wsp edition text) · arc-from-sweep-flag

  unfoldable pub arc-from-rotation : Span
  unfolding arc-from-large-flag
  arc-from-rotation = rotation edition text · comma-wsp edition text · arc-from-large-flag

  unfoldable pub arc-from-radius : Span
  unfolding arc-from-rotation
  arc-from-radius = nonnegative-number edition text · opt (comma-wsp edition text) · arc-from-rotation

  -- the argument of each kind of sequence; that of a quadratic curve is that of a smooth one
  abbrev pub argument_of : Kind → Span
  argument_of Coordinate = coordinate edition text
  argument_of Pair = coordinate-pair edition text
  argument_of TwoPairs = smooth-curveto-argument edition text
  argument_of ThreePairs = curveto-argument edition text
  argument_of Arc = elliptical-arc-argument edition text
