-- What a decimal number gives through C. Definitions only.
use Rattle.std.specs.Prelude.{ℕ, ◌≡◌, cond, List, [], ◌∷◌, ltb, Float, Result, Ok, Err, length, get_or}
use Rattle.answers.specs.declared.refusals.Refusal.{Refusal}
use Rattle.answers.specs.declared.refusals.Refusal.TheVariants.{TooLong}
use Rattle.answers.specs.Answers.{Answer, accepted, refused}
use Rattle.floats.specs.Floats.{bits_of}
use Rattle.decimal.specs.declared.numbers.Read.{Read}
use Rattle.decimal.specs.Decimal.{numerator, denominator, number_of}
use Rattle.decimal_nearest.specs.Nearest.{ValueAt}
use Rattle.decimal_nearest.specs.Parts.{Exact}

-- the bits of the value, and the place after the number: how many bytes it takes from the text's start
abbrev pub read_given : Result Read Refusal → Answer
read_given (Ok read) = accepted (bits_of read.value ∷ read.end ∷ [])
read_given (Err refusal) = refused refusal

-- "text above 65,536 bytes" is refused first
abbrev pub number_given : List ℕ → Answer
number_given text = cond (ltb 65536 (length text)) (refused (TooLong (length text))) (read_given (number_of text 0))

-- "the nearest binary32 to the exact fraction, ties to even, for any count of digits": the bits at the answer's first place are those of the value that is nearest to what the text stands for, by the
-- digits of its parts, and at the second place is where its number ends
pub record NumberKept (text after : List ℕ) : Type 0 where
  pub value : Float
  pub bits : get_or after 0 0 ≡ bits_of value
  pub nearest : ValueAt text 0 value (get_or after 1 0)
  pub exact : Exact text nearest.places (numerator text nearest.places) (denominator text nearest.places)

-- of a call that returns 0
abbrev pub NumberKeptBy : List ℕ → ℕ → List ℕ → Type 0
NumberKeptBy text returned after = returned ≡ 0 → NumberKept text after
