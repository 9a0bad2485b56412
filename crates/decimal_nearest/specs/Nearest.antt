-- The nearest binary32 value of an exact fraction (document 01, "Decimal value"; IEEE 754, 4.3.1, round_ties_to_even). Sizes are counted in units,
-- the smallest value above 0: a unit is 2 ^ -149. Nothing here rounds: values are compared. Definitions only.
use Rattle.std.specs.Prelude.{ℕ, ◌+◌, ◌-◌, ◌*◌, ◌/◌, ◌%◌, ◌^◌, ◌≤◌, ◌≡◌, Bool, List, pos, T, Float, Ok}
use Rattle.std.specs.Float.{nan, inf, fin, binary32}
use Rattle.std.specs.Float.Ieee.{size, fits}
use Rattle.std.specs.Float.Ieee.Scale.{finite}
use Rattle.root.specs.Root.{units_of}
use Rattle.scan.specs.Numbers.{scan_number_of}
use Rattle.scan.specs.declared.numbers.Places.{Places}
use Rattle.decimal.specs.Decimal.{numerator, denominator, negative}

-- how far two numbers lie from each other
abbrev pub apart : ℕ → ℕ → ℕ
apart a b = a - b + (b - a)

-- How far a finite value's size is from num / den, as a whole number: in units the fraction is num * 2 ^ 149 / den, and both sides are taken
-- den times.
abbrev pub distance : ℕ → ℕ → Float → ℕ
distance num den x = apart (num * 2 ^ 149) (units_of binary32 x * den)

-- the significand of so many units: the 24 leading binary digits, or all where there are fewer
abbrev pub significand_of : ℕ → ℕ
significand_of units = units / 2 ^ (size units - 24)

-- a zero, a number or an infinity with this sign; a NaN has none
abbrev pub HasSign : Bool → Float → Type 0
HasSign s nan = ⊥
HasSign s (inf t) = t ≡ s
HasSign s (fin t m e) = t ≡ s

-- r is the value of num / den with a sign. y stands for any finite value: y's sign does not matter, since a value with the other sign is no
-- nearer than the zero.
pub record NearestTo (negative : Bool) (num den : ℕ) (r : Float) : Type 0 where
  -- "binary32 [..] the sign is kept"
  pub held : T (fits binary32 r)
  pub signed : HasSign negative r
  -- "2^128 - 2^103 and above is infinite", and nothing below is
  pub infinite-from : (2 ^ 128 - 2 ^ 103) * den ≤ num → r ≡ inf negative
  pub infinite-only : r ≡ inf negative → (2 ^ 128 - 2 ^ 103) * den ≤ num
  -- "2^-150 and below is zero", and nothing above is
  pub zero-to : num * 2 ^ 150 ≤ den → r ≡ fin negative 0 (pos 0)
  pub zero-only : r ≡ fin negative 0 (pos 0) → num * 2 ^ 150 ≤ den
  -- "the nearest binary32 to the exact fraction": no finite value is nearer
  pub nearest : T (finite r) → (y : Float) → T (fits binary32 y) → T (finite y) → distance num den r ≤ distance num den y
  -- "ties to even": where a value of another size is as near, the last digit of r's significand is 0
  pub even : T (finite r) → (y : Float) → T (fits binary32 y) → T (finite y) → (units_of binary32 y ≡ units_of binary32 r → ⊥)
      → distance num den y ≡ distance num den r → significand_of (units_of binary32 r) % 2 ≡ 0

-- x is the value of the number that starts at a place of a text and ends before another: nearest to the number of its digits times the power
-- of ten that its point and its exponent make
pub record ValueAt (text : List ℕ) (at : ℕ) (x : Float) (next : ℕ) : Type 0 where
  pub places : Places
  pub scanned : scan_number_of text at ≡ Ok places
  pub ends : places.end ≡ next
  pub value : NearestTo (negative text places) (numerator text places) (denominator text places) x
