-- Worked examples that hold the definitions of `specs/` to document 01: antt computes each side. Assumes nothing.
use mathlib.Core.Path.{◌≡◌, refl}
use mathlib.Core.Bool.{true, false}
use mathlib.Core.List.{[], ◌∷◌}
use Rattle.std.specs.Prelude.{Ok, Err}
use Rattle.scan.specs.Scan.{leading, scan}
use Rattle.scan.specs.Bytes.{among, white_space, separators}
use Rattle.scan.specs.Runs.{stands, past_one, past_all, past_separators_of, past_mark_of}
use Rattle.scan.specs.Numbers.{whole_of, point_of, fraction_of, mark_of, exponent_of, end_of, places_of, no_digit, no_exponent_digit, scan_number_of}
use Rattle.scan.specs.declared.numbers.NumberError.TheVariants.{NoDigit, NoExponentDigit}

-- a form feed separates and is no white space of strict reading; a vertical tab is neither
pub form-feed-reads : (among 12 separators ≡ true) × (among 12 white_space ≡ false) × (among 11 separators ≡ false)
unfolding among
form-feed-reads = (refl, refl, refl)

-- `, 1` has two separators, and past the text a run stays where it is
pub separators-read : (past_separators_of (44 ∷ 32 ∷ 49 ∷ []) 0 ≡ 2) × (past_separators_of (44 ∷ 32 ∷ []) 1 ≡ 2) × (past_separators_of (44 ∷ []) 7 ≡ 7)
unfolding past_all scan leading among
separators-read = (refl, refl, refl)

-- `-.5-.5` is two numbers, and the first one ends at the second one's sign
pub two-numbers-read :
    scan_number_of (45 ∷ 46 ∷ 53 ∷ 45 ∷ 46 ∷ 53 ∷ []) 0
    ≡ Ok (record { start = 0; whole = 1; point = 1; fraction = 2; mark = 3; exponent = 3; end = 3 })
unfolding scan_number_of places_of no_digit no_exponent_digit end_of exponent_of mark_of fraction_of point_of whole_of past_mark_of past_one past_all scan leading stands among
two-numbers-read = refl

-- `1.5.5` is 1.5 and then .5: a second point ends the number
pub second-point-reads :
    scan_number_of (49 ∷ 46 ∷ 53 ∷ 46 ∷ 53 ∷ []) 0
    ≡ Ok (record { start = 0; whole = 0; point = 1; fraction = 2; mark = 3; exponent = 3; end = 3 })
unfolding scan_number_of places_of no_digit no_exponent_digit end_of exponent_of mark_of fraction_of point_of whole_of past_mark_of past_one past_all scan leading stands among
second-point-reads = refl

-- `1.E+07e` is a number up to its second e, with a point that no digit follows
pub exponent-reads :
    scan_number_of (49 ∷ 46 ∷ 69 ∷ 43 ∷ 48 ∷ 55 ∷ 101 ∷ []) 0
    ≡ Ok (record { start = 0; whole = 0; point = 1; fraction = 2; mark = 2; exponent = 4; end = 6 })
unfolding scan_number_of places_of no_digit no_exponent_digit end_of exponent_of mark_of fraction_of point_of whole_of past_mark_of past_one past_all scan leading stands among
exponent-reads = refl

-- `M1e 2` is 4 at 2 although a shorter number could be taken; a sign and a point alone are 3 at the sign; so is the end of the text
pub refused-numbers-read :
    (scan_number_of (77 ∷ 49 ∷ 101 ∷ 32 ∷ 50 ∷ []) 1 ≡ Err (NoExponentDigit 2))
    × (scan_number_of (77 ∷ 43 ∷ 46 ∷ 101 ∷ 49 ∷ []) 1 ≡ Err (NoDigit 1))
    × (scan_number_of (77 ∷ []) 1 ≡ Err (NoDigit 1))
unfolding scan_number_of places_of no_digit no_exponent_digit end_of exponent_of mark_of fraction_of point_of whole_of past_mark_of past_one past_all scan leading stands among
refused-numbers-read = (refl, refl, refl)
