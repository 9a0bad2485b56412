-- The grammar of path data, SVG 1.1 Second Edition, 8.3.9, and SVG 2, 9.3.9: a definition for each production under its name in 1.1, with its
-- alternatives in the published order, and its text above it. What a production uses stands above it, so the whole path comes last. SVG 2 has the
-- same productions, with _ for - in the names, but where a text of its own stands after the semicolon; there the definition parts by the edition,
-- at one place for each difference. Definitions only.
use Rattle.std.specs.Prelude.{ℕ, List, [], ◌∷◌, length}
use Rattle.scan.specs.Bytes.{digits, signs, points, exponent_marks, commas, white_space, flags}
use Rattle.strict_grammar.specs.Spans.{Span, Byte, ◌·◌, ◌∥◌, opt, star, plus, sequence, longest, empty, never, editions}
use Rattle.strict_grammar.specs.declared.Edition.{Edition}
use Rattle.strict_grammar.specs.declared.Edition.TheVariants.{Svg11, Svg2}

-- the bytes of white space; in SVG 2 a form feed is one
abbrev pub white_of : Edition → List ℕ
white_of Svg11 = white_space
white_of Svg2 = 9 ∷ 32 ∷ 10 ∷ 12 ∷ 13 ∷ []

module _ (edition : Edition) (text : List ℕ) where
  -- a letter in either case: ( "M" | "m" )
  abbrev pub letter : ℕ → ℕ → Span
  letter upper lower = Byte text (upper ∷ lower ∷ [])

  -- P in 1.1, and nothing in SVG 2
  abbrev pub in11 : Span → Span
  in11 P = editions edition P never

  -- ---- bytes

  -- (#x20 | #x9 | #x_d | #x_a); SVG 2: #x9 | #x20 | #x_a | #x_c | #x_d
  abbrev pub wsp : Span
  wsp = Byte text (white_of edition)

  -- ","
  abbrev pub comma : Span
  comma = Byte text commas

  -- "0" | "1" | "2" | "3" | "4" | "5" | "6" | "7" | "8" | "9"
  abbrev pub digit : Span
  digit = Byte text digits

  -- "+" | "-"
  abbrev pub sign : Span
  sign = Byte text signs

  -- "0" | "1"
  abbrev pub flag : Span
  flag = Byte text flags

  -- ---- numbers

  -- digit | digit digit-sequence
  unfoldable pub digit-sequence : Span
  digit-sequence = plus digit

  -- ( "e" | "E" ) sign? digit-sequence; in SVG 2 it is defined and no production uses it
  unfoldable pub exponent : Span
  exponent = Byte text exponent_marks · opt sign · digit-sequence

  -- digit-sequence? "." digit-sequence | digit-sequence "."; SVG 2, within number: ([0-9])* "." ([0-9])+, so that a digit stands after the point
  unfoldable pub fractional-constant : Span
  fractional-constant = opt digit-sequence · Byte text points · digit-sequence ∥ in11 (digit-sequence · Byte text points)

  -- fractional-constant exponent? | digit-sequence exponent; SVG 2: without an exponent
  unfoldable pub floating-point-constant : Span
  floating-point-constant = fractional-constant · opt (in11 exponent) ∥ digit-sequence · in11 exponent

  -- digit-sequence
  abbrev pub integer-constant : Span
  integer-constant = digit-sequence

  -- integer-constant | floating-point-constant; a radius, which takes the longest text like every number. SVG 2 calls it number:
  -- ([0-9])+ | ([0-9])* "." ([0-9])+
  unfoldable pub nonnegative-number : Span
  nonnegative-number = longest (integer-constant ∥ floating-point-constant)

  -- sign? integer-constant | sign? floating-point-constant; "each number taking the longest text". SVG 2 calls it coordinate: sign? number
  unfoldable pub number : Span
  number = longest (opt sign · integer-constant ∥ opt sign · floating-point-constant)

  -- ---- arguments

  -- (wsp+ comma? wsp*) | (comma wsp*)
  unfoldable pub comma-wsp : Span
  comma-wsp = plus wsp · opt comma · star wsp ∥ comma · star wsp

  -- number; SVG 2: sign? number
  abbrev pub coordinate : Span
  coordinate = number

  -- coordinate comma-wsp? coordinate
  unfoldable pub coordinate-pair : Span
  coordinate-pair = coordinate · opt comma-wsp · coordinate

  -- an arc's rotation: a number with a sign or none; SVG 2: number, which has none
  unfoldable pub rotation : Span
  rotation = editions edition number nonnegative-number

  -- nonnegative-number comma-wsp? nonnegative-number comma-wsp? number comma-wsp flag comma-wsp? flag comma-wsp? coordinate-pair; SVG 2 has its
  -- number three times: number comma_wsp? number comma_wsp? number comma_wsp flag comma_wsp? flag comma_wsp? coordinate_pair
  unfoldable pub elliptical-arc-argument : Span
  elliptical-arc-argument =
      nonnegative-number · opt comma-wsp · nonnegative-number · opt comma-wsp · rotation · comma-wsp · flag · opt comma-wsp · flag
      · opt comma-wsp · coordinate-pair

  -- elliptical-arc-argument | elliptical-arc-argument comma-wsp? elliptical-arc-argument-sequence
  abbrev pub elliptical-arc-argument-sequence : Span
  elliptical-arc-argument-sequence = sequence elliptical-arc-argument (opt comma-wsp)

  -- coordinate-pair | coordinate-pair comma-wsp? smooth-quadratic-bezier-curveto-argument-sequence
  abbrev pub smooth-quadratic-bezier-curveto-argument-sequence : Span
  smooth-quadratic-bezier-curveto-argument-sequence = sequence coordinate-pair (opt comma-wsp)

  -- coordinate-pair comma-wsp? coordinate-pair; SVG 2 calls it coordinate_pair_double
  abbrev pub quadratic-bezier-curveto-argument : Span
  quadratic-bezier-curveto-argument = coordinate-pair · opt comma-wsp · coordinate-pair

  -- quadratic-bezier-curveto-argument | quadratic-bezier-curveto-argument comma-wsp? quadratic-bezier-curveto-argument-sequence
  abbrev pub quadratic-bezier-curveto-argument-sequence : Span
  quadratic-bezier-curveto-argument-sequence = sequence quadratic-bezier-curveto-argument (opt comma-wsp)

  -- coordinate-pair comma-wsp? coordinate-pair; SVG 2 calls it coordinate_pair_double
  abbrev pub smooth-curveto-argument : Span
  smooth-curveto-argument = coordinate-pair · opt comma-wsp · coordinate-pair

  -- smooth-curveto-argument | smooth-curveto-argument comma-wsp? smooth-curveto-argument-sequence
  abbrev pub smooth-curveto-argument-sequence : Span
  smooth-curveto-argument-sequence = sequence smooth-curveto-argument (opt comma-wsp)

  -- coordinate-pair comma-wsp? coordinate-pair comma-wsp? coordinate-pair; SVG 2 calls it coordinate_pair_triplet
  abbrev pub curveto-argument : Span
  curveto-argument = coordinate-pair · opt comma-wsp · coordinate-pair · opt comma-wsp · coordinate-pair

  -- curveto-argument | curveto-argument comma-wsp? curveto-argument-sequence
  abbrev pub curveto-argument-sequence : Span
  curveto-argument-sequence = sequence curveto-argument (opt comma-wsp)

  -- coordinate | coordinate comma-wsp? vertical-lineto-argument-sequence; SVG 2 calls it coordinate_sequence, and the next one too
  abbrev pub vertical-lineto-argument-sequence : Span
  vertical-lineto-argument-sequence = sequence coordinate (opt comma-wsp)

  -- coordinate | coordinate comma-wsp? horizontal-lineto-argument-sequence
  abbrev pub horizontal-lineto-argument-sequence : Span
  horizontal-lineto-argument-sequence = sequence coordinate (opt comma-wsp)

  -- coordinate-pair | coordinate-pair comma-wsp? lineto-argument-sequence; SVG 2 calls it coordinate_pair_sequence, and the next one too
  abbrev pub lineto-argument-sequence : Span
  lineto-argument-sequence = sequence coordinate-pair (opt comma-wsp)

  -- coordinate-pair | coordinate-pair comma-wsp? lineto-argument-sequence
  unfoldable pub moveto-argument-sequence : Span
  moveto-argument-sequence = coordinate-pair ∥ coordinate-pair · opt comma-wsp · lineto-argument-sequence

  -- ---- commands

  -- ( "A" | "a" ) wsp* elliptical-arc-argument-sequence
  unfoldable pub elliptical-arc : Span
  elliptical-arc = letter 65 97 · star wsp · elliptical-arc-argument-sequence

  -- ( "T" | "t" ) wsp* smooth-quadratic-bezier-curveto-argument-sequence
  unfoldable pub smooth-quadratic-bezier-curveto : Span
  smooth-quadratic-bezier-curveto = letter 84 116 · star wsp · smooth-quadratic-bezier-curveto-argument-sequence

  -- ( "Q" | "q" ) wsp* quadratic-bezier-curveto-argument-sequence
  unfoldable pub quadratic-bezier-curveto : Span
  quadratic-bezier-curveto = letter 81 113 · star wsp · quadratic-bezier-curveto-argument-sequence

  -- ( "S" | "s" ) wsp* smooth-curveto-argument-sequence
  unfoldable pub smooth-curveto : Span
  smooth-curveto = letter 83 115 · star wsp · smooth-curveto-argument-sequence

  -- ( "C" | "c" ) wsp* curveto-argument-sequence
  unfoldable pub curveto : Span
  curveto = letter 67 99 · star wsp · curveto-argument-sequence

  -- ( "V" | "v" ) wsp* vertical-lineto-argument-sequence
  unfoldable pub vertical-lineto : Span
  vertical-lineto = letter 86 118 · star wsp · vertical-lineto-argument-sequence

  -- ( "H" | "h" ) wsp* horizontal-lineto-argument-sequence
  unfoldable pub horizontal-lineto : Span
  horizontal-lineto = letter 72 104 · star wsp · horizontal-lineto-argument-sequence

  -- ( "L" | "l" ) wsp* lineto-argument-sequence
  unfoldable pub lineto : Span
  lineto = letter 76 108 · star wsp · lineto-argument-sequence

  -- ("Z" | "z")
  unfoldable pub closepath : Span
  closepath = letter 90 122

  -- ( "M" | "m" ) wsp* moveto-argument-sequence
  unfoldable pub moveto : Span
  moveto = letter 77 109 · star wsp · moveto-argument-sequence

  -- closepath | lineto | horizontal-lineto | vertical-lineto | curveto | smooth-curveto | quadratic-bezier-curveto
  -- | smooth-quadratic-bezier-curveto | elliptical-arc
  unfoldable pub drawto-command : Span
  drawto-command =
      closepath ∥ lineto ∥ horizontal-lineto ∥ vertical-lineto ∥ curveto ∥ smooth-curveto ∥ quadratic-bezier-curveto
      ∥ smooth-quadratic-bezier-curveto ∥ elliptical-arc

  -- what may stand between two commands: wsp*; SVG 2 writes nothing there
  abbrev pub gap : Span
  gap = editions edition (star wsp) empty

  -- drawto-command | drawto-command wsp* drawto-commands
  unfoldable pub drawto-commands : Span
  drawto-commands = sequence drawto-command gap

  -- moveto wsp* drawto-commands?
  unfoldable pub moveto-drawto-command-group : Span
  moveto-drawto-command-group = moveto · gap · opt drawto-commands

  -- moveto-drawto-command-group | moveto-drawto-command-group wsp* moveto-drawto-command-groups; SVG 2 has no groups, and moveto is its first
  -- drawto_command: moveto drawto_command*
  unfoldable pub moveto-drawto-command-groups : Span
  moveto-drawto-command-groups = sequence moveto-drawto-command-group gap

  -- wsp* moveto-drawto-command-groups? wsp*; SVG 2: wsp* moveto? | (moveto drawto_command*)?
  unfoldable pub svg-path : Span
  svg-path = editions edition (star wsp · opt moveto-drawto-command-groups · star wsp) (star wsp · opt moveto ∥ opt moveto-drawto-command-groups)

  -- "the text matches the 1.1 grammar", or SVG 2's: the whole of it is a word of svg-path
  unfoldable pub Matches : Type 0
  Matches = svg-path 0 (length text)
