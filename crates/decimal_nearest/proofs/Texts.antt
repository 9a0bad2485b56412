-- What `decimal::number` answers is the nearest value of the text's fraction, for every text and every place, and no other value is. Assumes nothing.
use Prim.Native.Nat.{ℕ}
use mathlib.Core.Path.{◌≡◌, refl, sym, ap, ◌∙◌, subst}
use mathlib.Core.List.{List}
use native.Mathlib.Omega.{arith}
use lib.Ieee.{Float}
use Rattle.std.specs.Prelude.{Result, Ok, Err}
use Rattle.scan.specs.Numbers.{scan_number_of}
use Rattle.scan.specs.declared.numbers.Places.{Places}
use Rattle.scan.specs.declared.numbers.NumberError.{NumberError}
use Rattle.scan.specs.declared.numbers.NumberError.TheVariants.{NoDigit, NoExponentDigit}
use Rattle.decimal_digits.proofs.Values.{ten-pos}
use Rattle.decimal.specs.Decimal.{numerator, denominator, negative, value_of, read_at, read_of, number_of}
use Rattle.decimal.proofs.Answered.{same-value, same-end}
use Rattle.decimal_nearest.specs.Nearest.{NearestTo, ValueAt}
use Rattle.decimal_nearest.proofs.Rounded.{round-nearest, nearest-is}

module _ (text : List ℕ) (p : Places) where
  -- "the nearest binary32 to the exact fraction, ties to even, for any count of digits"
  pub value-is-nearest : NearestTo (negative text p) (numerator text p) (denominator text p) (value_of text p)
  unfolding value_of
  value-is-nearest = round-nearest (negative text p) (numerator text p) (denominator text p) (ten-pos _)

  pub nearest-is-value : (x : Float) → NearestTo (negative text p) (numerator text p) (denominator text p) x → x ≡ value_of text p
  unfolding value_of
  nearest-is-value x = nearest-is (negative text p) (numerator text p) (denominator text p) (ten-pos _) x

module _ (text : List ℕ) (at : ℕ) where
  -- what is answered is the nearest value
  pub number-nearest : (x : Float) (next : ℕ) → number_of text at ≡ Ok (read_at x next) → ValueAt text at x next
  unfolding number_of
  number-nearest x next q = go (scan_number_of text at) refl q
    where
      go : (n : Result Places NumberError) → scan_number_of text at ≡ n → read_of text n ≡ Ok (read_at x next) → ValueAt text at x next
      go (Ok p) e q =
          let v : value_of text p ≡ x = same-value q in
          let z : p.end ≡ next = same-end q in
          record { places = p; scanned = e; ends = z; value = subst (NearestTo (negative text p) (numerator text p) (denominator text p)) v (value-is-nearest text p) }
      go (Err (NoDigit k)) e q = let z : ◌≡◌ {A = ℕ} 0 1 = cc in absurd (omega arith)
      go (Err (NoExponentDigit k)) e q = let z : ◌≡◌ {A = ℕ} 0 1 = cc in absurd (omega arith)

  -- and the nearest value is what is answered
  pub nearest-answered : (x : Float) (next : ℕ) → ValueAt text at x next → number_of text at ≡ Ok (read_at x next)
  unfolding number_of
  nearest-answered x next a =
      ap (read_of text) a.scanned ∙ ap (λ (z : Float). Ok (read_at z a.places.end)) (sym (nearest-is-value text a.places x a.value)) ∙ ap (λ (n : ℕ). Ok (read_at x n)) a.ends

  -- any two values of the number that starts at a place are equal, and end at one place
  pub value-unique : (x y : Float) (next end : ℕ) → ValueAt text at x next → ValueAt text at y end → (x ≡ y) × (next ≡ end)
  value-unique x y next end a b =
      let p : number_of text at ≡ Ok (read_at x next) = nearest-answered x next a in
      let q : number_of text at ≡ Ok (read_at y end) = nearest-answered y end b in
      let e = sym p ∙ q in
      (same-value e, same-end e)
