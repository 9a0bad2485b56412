-- A capped number, a digit more of it, and an exponent's size by its digits. Assumes nothing.
use Rattle.std.proofs.Common.{◌≡◌, ℕ, ◌+◌, ◌-◌, ◌*◌, ◌<◌, ◌≤◌, Bool, true, false, ltb, ◌⊎◌, List, [], ◌∷◌, ◌++◌, length, get_or, sym, refl, ap, ◌∙◌, inl, inr, arith, ltb-false, ltb-true, le-ltb, lt-ltb}
use Rattle.scan.specs.Bytes.{among, digits}
use Rattle.scan.specs.Runs.{past_digits_of}
use Rattle.decimal_digits.specs.Digits.{digits_in, val}
use Rattle.decimal_digits.specs.Exponent.{most, capped, exponent_of}
use Rattle.decimal_digits.proofs.Values.{val-append, val-one}
use Rattle.decimal_digits.proofs.Places.{none_in, join-in, digit-in}

pub capped_small : (n : ℕ) → n < most → capped n ≡ n
unfolding capped
capped_small n h = rw (lt-ltb n most h)

pub capped-large : (n : ℕ) → most ≤ n → capped n ≡ most
unfolding capped
capped-large n h = rw (le-ltb n most h)

-- a capped number is the number, or is `most` and the number is no less
pub capped-either : (n : ℕ) → ((capped n ≡ n) × (n < most)) ⊎ ((capped n ≡ most) × (most ≤ n))
capped-either n = go (ltb n most) refl
  where
    go : (b : Bool) → ltb n most ≡ b → ((capped n ≡ n) × (n < most)) ⊎ ((capped n ≡ most) × (most ≤ n))
    go true e = let h = ltb-true n most e in inl (capped_small n h, h)
    go false e = let h = ltb-false n most e in inr (capped-large n h, h)

pub longer-exact : (size digit n : ℕ) → digit < 10 → size ≡ capped n → size < 930000000000000000 → size * 10 + digit ≡ capped (n * 10 + digit)
longer-exact size digit n d e h = go (capped-either n)
  where
    go : ((capped n ≡ n) × (n < most)) ⊎ ((capped n ≡ most) × (most ≤ n)) → size * 10 + digit ≡ capped (n * 10 + digit)
    go (inl x) = let f : size ≡ n = e ∙ x.0 in ap (λ (z : ℕ). z * 10 + digit) f ∙ sym (capped_small (n * 10 + digit) (omega arith))
    go (inr x) = let f : size ≡ most = e ∙ x.0 in absurd (omega arith)

pub longer-capped : (size digit n : ℕ) → size ≡ capped n → 930000000000000000 ≤ size → most ≡ capped (n * 10 + digit)
longer-capped size digit n e h = go (capped-either n)
  where
    go : ((capped n ≡ n) × (n < most)) ⊎ ((capped n ≡ most) × (most ≤ n)) → most ≡ capped (n * 10 + digit)
    go (inl x) = let f : size ≡ n = e ∙ x.0 in sym (capped-large (n * 10 + digit) (omega arith))
    go (inr x) = sym (capped-large (n * 10 + digit) (omega arith))

-- ---- the size of an exponent

pub size-start : (text : List ℕ) (at : ℕ) → 0 ≡ capped (val (digits_in text at at))
unfolding capped val
size-start text at = rw (none_in text at)

module _ (text : List ℕ) (from at : ℕ) (past : from ≤ at) where
  -- a digit more of the run
  pub size-digit : at < length text → among (get_or text at 0) digits ≡ true → val (digits_in text from at) * 10 + (get_or text at 0 - 48) ≡ val (digits_in text from (at + 1))
  size-digit h e =
      sym
      (ap val (join-in text from at (at + 1) past (omega arith) ∙ ap (λ (ds : List ℕ). digits_in text from at ++ ds) (digit-in text at h e))
      ∙ val-append (digits_in text from at) ((get_or text at 0 - 48) ∷ [])
      ∙ ap (λ (z : ℕ). val (digits_in text from at) * 10 + z) (val-one (get_or text at 0 - 48)))

  -- the run ends here
  pub power-is : (size : ℕ) → past_digits_of text at ≡ past_digits_of text from → past_digits_of text at ≡ at → size ≡ capped (val (digits_in text from at)) → record { at = at; size = size } ≡ exponent_of text from
  unfolding exponent_of
  power-is size e f g = let h : at ≡ past_digits_of text from = sym f ∙ e in rw (← h, g)
