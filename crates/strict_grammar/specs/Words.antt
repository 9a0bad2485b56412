-- What a reader of words promises, over the places that crate `scan` finds. Definitions only.
use Rattle.std.specs.Prelude.{ℕ, ◌≡◌, true, cond, List, ◌⊎◌, ltb}
use Rattle.scan.specs.Bytes.{number_starts}
use Rattle.scan.specs.Runs.{stands, past_all, past_comma_of}
use Rattle.scan.specs.Numbers.{no_exponent_digit, point_of, fraction_of, mark_of, end_of}
use Rattle.strict_grammar.specs.Spans.{Span, opt}
use Rattle.strict_grammar.specs.Grammar.{white_of, comma-wsp}
use Rattle.strict_grammar.specs.declared.Edition.{Edition}
use Rattle.strict_grammar.specs.declared.Edition.TheVariants.{Svg11, Svg2}

-- from i there is a word of P, and it ends at j and nowhere else
abbrev pub Only : Span → ℕ → ℕ → Type 0
Only P i j = P i j × ((q : ℕ) → P i q → q ≡ j)

-- from i there is no word of P
abbrev pub Lacks : Span → ℕ → Type 0
Lacks P i = (q : ℕ) → P i q → ⊥

-- from i there is a word of P that ends at j, and where another one ends C holds
abbrev pub Past : Span → (ℕ → Type 0) → ℕ → ℕ → Type 0
Past P C i j = P i j × ((q : ℕ) → P i q → (q ≡ j) ⊎ C q)

-- from q, after a separator or none, a number may start
abbrev pub Goes : Edition → List ℕ → ℕ → Type 0
Goes edition text q = (m : ℕ) × opt (comma-wsp edition text) q m × (stands text m number_starts ≡ true)

-- where the number that starts at a place ends: before an e that no digit follows; in SVG 2 before any e, and before a point that no digit follows
unfoldable pub number_end : Edition → List ℕ → ℕ → ℕ
number_end Svg11 text at = cond (no_exponent_digit text at) (mark_of text at) (end_of text at)
number_end Svg2 text at = cond (ltb (fraction_of text at) (mark_of text at)) (mark_of text at) (point_of text at)

-- the place past white space
abbrev pub past_white_in : Edition → List ℕ → ℕ → ℕ
past_white_in edition text at = past_all (white_of edition) text at

-- the place past white space, a comma if one stands there, and white space
unfoldable pub past_separator_of : Edition → List ℕ → ℕ → ℕ
past_separator_of edition text at = past_white_in edition text (past_comma_of text (past_white_in edition text at))

-- the place past what may stand between two commands
unfoldable pub past_gap_of : Edition → List ℕ → ℕ → ℕ
past_gap_of Svg11 text at = past_white_in Svg11 text at
past_gap_of Svg2 text at = at
