-- The parts of a number and their places (document 01, "Permissive reading"). Definitions only.
-- "A number: optional sign, digits, optional point and digits, at least one digit in all (else 3 at its start), optional exponent. It takes the
-- longest text."
use Rattle.std.specs.Prelude.{ℕ, ◌+◌, ◌≤◌, ◌<◌, ◌≡◌, Bool, true, ◌&&◌, cond, ◌⊎◌, List, ltb, eqb, length, get_or, Result, Ok, Err}
use Rattle.scan.specs.Bytes.{among, digits}
use Rattle.scan.specs.Runs.{past_digits_of, past_sign_of, past_point_of, past_mark_of}
use Rattle.scan.specs.declared.numbers.Places.{Places}
use Rattle.scan.specs.declared.numbers.NumberError.{NumberError}
use Rattle.scan.specs.declared.numbers.NumberError.TheVariants.{NoDigit, NoExponentDigit}

-- of the number that starts at a place: where its digits start, past the sign
unfoldable pub whole_of : List ℕ → ℕ → ℕ
whole_of text at = past_sign_of text at

-- where the point stands, or would stand: past the digits
unfoldable pub point_of : List ℕ → ℕ → ℕ
point_of text at = past_digits_of text (whole_of text at)

-- where the digits after the point start
unfoldable pub fraction_of : List ℕ → ℕ → ℕ
fraction_of text at = past_point_of text (point_of text at)

-- where the e stands, or would stand: past the digits after the point. Without a point no digit stands there, and the place is the same.
unfoldable pub mark_of : List ℕ → ℕ → ℕ
mark_of text at = past_digits_of text (fraction_of text at)

-- where the exponent's digits start: past the e and its sign
unfoldable pub exponent_of : List ℕ → ℕ → ℕ
exponent_of text at = past_mark_of text (mark_of text at)

-- where the number ends. Without an e no digit stands there, and the place is the same.
unfoldable pub end_of : List ℕ → ℕ → ℕ
end_of text at = past_digits_of text (exponent_of text at)

-- its places together
unfoldable pub places_of : List ℕ → ℕ → Places
places_of text at =
    record {
      start = at;
      whole = whole_of text at;
      point = point_of text at;
      fraction = fraction_of text at;
      mark = mark_of text at;
      exponent = exponent_of text at;
      end = end_of text at;
    }

-- no digit before the point and none after it: "at least one digit in all (else 3 at its start)"
unfoldable pub no_digit : List ℕ → ℕ → Bool
no_digit text at = eqb (whole_of text at) (point_of text at) && eqb (fraction_of text at) (mark_of text at)

-- an e and no digit after it: "exponent without digit (offset of the e)"
unfoldable pub no_exponent_digit : List ℕ → ℕ → Bool
no_exponent_digit text at = ltb (mark_of text at) (exponent_of text at) && eqb (exponent_of text at) (end_of text at)

-- the number that starts at a place, or why there is none and where
unfoldable pub scan_number_of : List ℕ → ℕ → Result Places NumberError
scan_number_of text at =
    cond (no_digit text at) (Err (NoDigit at)) (cond (no_exponent_digit text at) (Err (NoExponentDigit (mark_of text at))) (Ok (places_of text at)))

-- what a converter may rely on: the places lie in the text in their order, with digits where digits are due, "at least one digit in all", and
-- an exponent with a digit or none
pub record NumberAt (text : List ℕ) (p : Places) : Type 0 where
  pub start-le : p.start ≤ p.whole
  pub whole_le : p.whole ≤ p.point
  pub point-le : p.point ≤ p.fraction
  pub fraction-le : p.fraction ≤ p.mark
  pub mark-le : p.mark ≤ p.exponent
  pub exponent-le : p.exponent ≤ p.end
  pub end-within : p.end ≤ length text
  pub whole-digits : (k : ℕ) → p.whole ≤ k → k < p.point → among (get_or text k 0) digits ≡ true
  pub fraction-digits : (k : ℕ) → p.fraction ≤ k → k < p.mark → among (get_or text k 0) digits ≡ true
  pub exponent-digits : (k : ℕ) → p.exponent ≤ k → k < p.end → among (get_or text k 0) digits ≡ true
  pub some-digit : p.whole + p.fraction < p.point + p.mark
  pub exponent-or-none : ((p.mark < p.exponent) × (p.exponent < p.end)) ⊎ (p.mark ≡ p.end)
