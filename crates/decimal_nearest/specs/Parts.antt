-- The exact value of a number's text by the digits of its parts (document 01, "Decimal value"): (whole + fraction / 10^places) · 10^exponent, the sign apart. Nothing of how `decimal` gathers its
-- digits is cited. Definitions only.
use Rattle.std.specs.Prelude.{ℕ, zero, suc, ◌+◌, ◌-◌, ◌*◌, ◌^◌, ◌<◌, ◌≡◌, List, get_or}
use Rattle.scan.specs.declared.numbers.Places.{Places}

-- the number that so many digits from a place on stand for: one digit more makes each of those before it count ten times as much
unfoldable pub figure : List ℕ → ℕ → ℕ → ℕ
figure text from zero = 0
figure text from (suc count) = figure text from count * 10 + (get_or text (from + count) 0 - 48)

-- the digits before the point, those after it, how many these are, and those after the e
abbrev pub whole_in : List ℕ → Places → ℕ
whole_in text p = figure text p.whole (p.point - p.whole)

abbrev pub fraction_in : List ℕ → Places → ℕ
fraction_in text p = figure text p.fraction (p.mark - p.fraction)

abbrev pub places_in : Places → ℕ
places_in p = p.mark - p.fraction

abbrev pub exponent_in : List ℕ → Places → ℕ
exponent_in text p = figure text p.exponent (p.end - p.exponent)

-- there is an e, and a minus after it
abbrev pub Lowers : List ℕ → Places → Type 0
Lowers text p = (p.mark < p.exponent) × (get_or text (p.mark + 1) 0 ≡ 45)

-- num / den is whole + fraction / 10^places, times 10^exponent, or divided by it
pub record Exact (text : List ℕ) (p : Places) (num den : ℕ) : Type 0 where
  pub some : 0 < den
  pub raised : (Lowers text p → ⊥) → num * 10 ^ places_in p ≡ (whole_in text p * 10 ^ places_in p + fraction_in text p) * 10 ^ exponent_in text p * den
  pub lowered : Lowers text p → num * 10 ^ places_in p * 10 ^ exponent_in text p ≡ (whole_in text p * 10 ^ places_in p + fraction_in text p) * den
