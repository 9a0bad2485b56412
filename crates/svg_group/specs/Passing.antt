-- A group of each kind passed without its values. What the first pass computes; that it is where a group is read to is a law, and no promise of
-- an entry rests on these. Definitions only.
use Rattle.std.specs.Prelude.{ℕ, zero, suc, cond, List, Result, Ok, Err, ltb, length}
use Rattle.answers.specs.declared.refusals.Refusal.{Refusal}
use Rattle.answers.specs.declared.refusals.Refusal.TheVariants.{UnexpectedEnd, ExpectedNumber, InvalidNumber}
use Rattle.scan.specs.Runs.{past_separators_of}
use Rattle.scan.specs.Numbers.{scan_number_of}
use Rattle.scan.specs.declared.numbers.Places.{Places}
use Rattle.scan.specs.declared.numbers.NumberError.{NumberError}
use Rattle.scan.specs.declared.numbers.NumberError.TheVariants.{NoDigit, NoExponentDigit}
use Rattle.svg_group.specs.Numbers.{and_then, read_flags_of}
use Rattle.svg_group.specs.declared.letters.Kind.{Kind}
use Rattle.svg_group.specs.declared.letters.Kind.TheVariants.{Move, Line, Horizontal, Vertical, Cubic, SmoothCubic, Quad, SmoothQuad, Arc}

abbrev pub ended : Result Places NumberError → Result ℕ Refusal
ended (Ok places) = Ok places.end
ended (Err (NoDigit at)) = Err (ExpectedNumber at)
ended (Err (NoExponentDigit at)) = Err (InvalidNumber at)

unfoldable pub pass_number_of : List ℕ → ℕ → Result ℕ Refusal
pass_number_of text at =
    let start = past_separators_of text at in
    cond (ltb start (length text)) (ended (scan_number_of text start)) (Err (UnexpectedEnd (length text)))

-- so many numbers, one after the other
unfoldable pub pass_numbers_of : List ℕ → ℕ → ℕ → Result ℕ Refusal
pass_numbers_of text zero at = Ok at
pass_numbers_of text (suc count) at = and_then (pass_number_of text at) (pass_numbers_of text count)

unfoldable pub pass_pair_of : List ℕ → ℕ → Result ℕ Refusal
pass_pair_of text at = and_then (pass_number_of text at) (pass_number_of text)

unfoldable pub pass_quad_of : List ℕ → ℕ → Result ℕ Refusal
pass_quad_of text at = and_then (pass_pair_of text at) (pass_pair_of text)

unfoldable pub pass_cubic_of : List ℕ → ℕ → Result ℕ Refusal
pass_cubic_of text at = and_then (pass_quad_of text at) (pass_pair_of text)

unfoldable pub pass_arc_of : List ℕ → ℕ → Result ℕ Refusal
pass_arc_of text at =
    and_then (pass_pair_of text at) (λ second.
    and_then (pass_number_of text second) (λ third.
    and_then (read_flags_of text third) (λ flags.
    pass_pair_of text flags.next)))

unfoldable pub pass_group_of : List ℕ → ℕ → Kind → Result ℕ Refusal
pass_group_of text at Move = pass_pair_of text at
pass_group_of text at Line = pass_pair_of text at
pass_group_of text at Horizontal = pass_number_of text at
pass_group_of text at Vertical = pass_number_of text at
pass_group_of text at Cubic = pass_cubic_of text at
pass_group_of text at SmoothCubic = pass_quad_of text at
pass_group_of text at Quad = pass_quad_of text at
pass_group_of text at SmoothQuad = pass_pair_of text at
pass_group_of text at Arc = pass_arc_of text at
