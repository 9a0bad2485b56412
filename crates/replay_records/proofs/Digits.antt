-- What a digit of either base, a pattern and its float are, case by case as the code tests. Assumes nothing.
use Rattle.std.proofs.Common.{◌≡◌, ℕ, ◌+◌, ◌-◌, ◌*◌, ◌%◌, ◌<◌, ◌≤◌, List, length, get_or, refl, arith, le-ltb, lt-ltb, le-leb}
use borrow.Author.Tests.{lt-leb}
use lib.Ieee.{binary32, nan, of_bits}
use Rattle.floats.specs.Patterns.{sign_place, infinity_bits}
use Rattle.replay_records.specs.Records.{digit_of, half_of, pattern_of, float_of}
use Rattle.replay_records.specs.Decimals.{decimal_of}

-- ---- a digit

module _ (byte : ℕ) where
  pub below-0 : byte < 48 → 0 ≡ digit_of byte
  unfolding digit_of
  below-0 h = simp (lt-ltb byte 48 h)

  pub from-0 : 48 ≤ byte → byte ≤ 57 → byte - 48 ≡ digit_of byte
  unfolding digit_of
  from-0 low high = simp (le-ltb byte 48 low, le-leb byte 57 high)

  pub below-A : 57 < byte → byte < 65 → 0 ≡ digit_of byte
  unfolding digit_of
  below-A low high = simp (le-ltb byte 48 (omega arith), lt-leb byte 57 low, lt-ltb byte 65 high)

  pub from-A : 65 ≤ byte → byte ≤ 70 → byte - 65 + 10 ≡ digit_of byte
  unfolding digit_of
  from-A low high = simp (le-ltb byte 48 (omega arith), lt-leb byte 57 (omega arith), le-ltb byte 65 low, le-leb byte 70 high) (omega arith)

  pub past-F : 70 < byte → 0 ≡ digit_of byte
  unfolding digit_of
  past-F h = simp (le-ltb byte 48 (omega arith), lt-leb byte 57 (omega arith), le-ltb byte 65 (omega arith), lt-leb byte 70 h)

-- ---- a decimal digit

module _ (byte : ℕ) where
  pub decimal-below : byte < 48 → 9 ≡ decimal_of byte
  unfolding decimal_of
  decimal-below h = simp (lt-ltb byte 48 h)

  pub decimal-within : 48 ≤ byte → byte ≤ 57 → byte - 48 ≡ decimal_of byte
  unfolding decimal_of
  decimal-within low high = simp (le-ltb byte 48 low, le-leb byte 57 high)

  pub decimal-above : 57 < byte → 9 ≡ decimal_of byte
  unfolding decimal_of
  decimal-above h = simp (le-ltb byte 48 (omega arith), lt-leb byte 57 h)

-- ---- a pattern

pub four-digits : (a b c d p q r s : ℕ) → p ≡ digit_of a → q ≡ digit_of b → r ≡ digit_of c → s ≡ digit_of d → p * 4096 + q * 256 + r * 16 + s ≡ half_of a b c d
unfolding half_of
four-digits a b c d p q r s at_a at_b at_c at-d = rw (at_a, at_b, at_c, at-d) refl

module _ (text : List ℕ) (at : ℕ) where
  pub text-ends : length text < at + 8 → 0 ≡ pattern_of text at
  unfolding pattern_of
  text-ends h = simp (lt-ltb (length text) (at + 8) h)

  pub text-goes-on :
      (high low : ℕ)
      → at + 8 ≤ length text
      → high ≡ half_of (get_or text at 0) (get_or text (at + 1) 0) (get_or text (at + 2) 0) (get_or text (at + 3) 0)
      → low ≡ half_of (get_or text (at + 4) 0) (get_or text (at + 5) 0) (get_or text (at + 6) 0) (get_or text (at + 7) 0)
      → high * 65536 + low ≡ pattern_of text at
  unfolding pattern_of
  text-goes-on high low h first second = rw (le-ltb (length text) (at + 8) h, first, second) refl

-- ---- its float

pub float-nan : (bits : ℕ) → infinity_bits < bits % sign_place → nan ≡ float_of bits
unfolding float_of
float-nan bits h = simp (lt-ltb infinity_bits (bits % sign_place) h)

pub float-number : (bits : ℕ) → bits % sign_place ≤ infinity_bits → of_bits binary32 bits ≡ float_of bits
unfolding float_of
float-number bits h = simp (le-ltb infinity_bits (bits % sign_place) h)
