-- The digits of a part from a place on: the first of them, one that is passed over, and none. Assumes nothing.
use Prim.Native.Nat.{ℕ, ◌+◌, ◌-◌, ◌≤◌, ◌<◌}
use mathlib.Core.Path.{◌≡◌, ap}
use mathlib.Core.List.{List, [], ◌∷◌}
use mathlib.Core.Bool.{true, false}
use native.Mathlib.Numerals.{add-one}
use lib.ListN.{length, get_or, drop, drop_of_length-le}
use lib.Seq.{drop-cons}
use Rattle.scan.specs.Bytes.{among, digits}
use Rattle.decimal_digits.specs.Digits.{digits_among}

module _ (part : List ℕ) (i : ℕ) where
  pub digit-first : i < length part → among (get_or part i 0) digits ≡ true → digits_among (drop i part) ≡ (get_or part i 0 - 48) ∷ digits_among (drop (i + 1) part)
  unfolding digits_among
  digit-first h e = rw (add-one, drop-cons part i 0, e)

  pub other-first : i < length part → among (get_or part i 0) digits ≡ false → digits_among (drop i part) ≡ digits_among (drop (i + 1) part)
  unfolding digits_among
  other-first h e = rw (add-one, drop-cons part i 0, e)

  pub none_first : length part ≤ i → digits_among (drop i part) ≡ []
  unfolding digits_among
  none_first h = ap digits_among (drop_of_length-le part h)
