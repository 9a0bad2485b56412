-- What the steps on the way to a value know and tell. Definitions only.
use Prim.Native.Nat.{ℕ, ◌+◌, ◌-◌, ◌*◌, ◌%◌, ◌^◌, ◌≤◌, ◌<◌, compare}
use Rattle.std.specs.Prelude.{◌≡◌, ◌⊎◌, List, [], ◌∷◌, Bool, cond, length, Float, Result, Ok, Err}
use Rattle.std.specs.Float.{binary32}
use Rattle.std.specs.Float.Ieee.{round, of_bits}
use Rattle.floats.specs.Patterns.{sign_place, infinity_bits, narrow_step, narrow_half}
use Rattle.scan.specs.Numbers.{scan_number_of}
use Rattle.scan.specs.declared.numbers.Places.{Places}
use Rattle.decimal_digits.specs.Digits.{val}
use Rattle.decimal_digits.specs.Leading.{Leads}
use Rattle.decimal_digits.specs.Exponent.{most, capped}
use Rattle.decimal_product.specs.Near.{Cell}
use Rattle.decimal_tie.specs.Weighing.{order_of}
use Rattle.std.specs.declared.cmp.Ordering.{Ordering as Order}
use Rattle.answers.specs.declared.refusals.Refusal.{Refusal}
use Rattle.decimal.specs.Decimal.{digits_of, places_of, rise_of, fall_of, read_at, number_of}
use Rattle.decimal.specs.declared.numbers.Read.{Read}
use Rattle.decimal.specs.declared.numbers.Parts.{Parts}

-- the bits b of the nearest f32, but for the sign s
pub record Nearest (num den b : ℕ) : Type 0 where
  pub finite_or_infinite : b ≤ infinity_bits
  pub is : (s : Bool) → round binary32 s num den ≡ of_bits binary32 (cond s sign_place 0 + b)

-- an f64's bits that tell the nearest f32, `narrowed_of`: it lies from 2 ^ -31 to 2 ^ 65, and its last 29 digits are no half
pub record Tells (b : ℕ) : Type 0 where
  pub low : 0x3E00000000000000 ≤ b
  pub high : b < 0x4400000000000000
  pub no_tie : b % narrow_step ≡ narrow_half → ⊥

-- what is gathered of a number: its digits, of which count stand before the point and places after it, and capped exponents
pub record Gathered (ds : List ℕ) (count places w dropped rise fall : ℕ) : Type 0 where
  pub leads : Leads ds w dropped
  pub in_all : length ds ≡ count + places
  pub few : count + places < 2 ^ 63
  pub few-dropped : dropped < 2 ^ 63
  pub rise-le : rise ≤ most
  pub fall-le : fall ≤ most
  pub one_way : (rise ≡ 0) ⊎ (fall ≡ 0)

-- rise and fall are capped exponents of which one is 0 at least: the bits of any fraction that they stand for
pub record Rounds (ds : List ℕ) (places rise fall b : ℕ) : Type 0 where
  pub bits : (up down : ℕ) → rise ≡ capped up → fall ≡ capped down → (up ≡ 0) ⊎ (down ≡ 0) → Nearest (val ds * 10 ^ up) (10 ^ (places + down)) b

-- the order of the fraction and the middle of the cell
pub record Sides (ds : List ℕ) (count rise fall m k : ℕ) (r : Order) : Type 0 where
  pub order : (places : ℕ) → length ds ≡ count + places → order_of r ≡ compare (val ds * 10 ^ rise * 2 ^ 150) ((2 * m + 1) * 2 ^ k * 10 ^ (places + fall))

-- the same where the fraction lies in a cell of the floats, and rise and fall are the exponents themselves
pub record Settles (ds : List ℕ) (count rise fall m k b : ℕ) : Type 0 where
  pub bits : (places : ℕ) → length ds ≡ count + places → Cell m k (val ds * 10 ^ rise) (10 ^ (places + fall)) → Nearest (val ds * 10 ^ rise) (10 ^ (places + fall)) b

-- what is gathered of a number's digits and exponent
pub record Held (text : List ℕ) (p : Places) (w dropped rise fall : ℕ) : Type 0 where
  pub whole_le : p.whole ≤ p.point
  pub fraction-le : p.fraction ≤ p.mark
  pub between : p.point ≤ p.fraction
  pub inside : p.mark ≤ length text
  pub few : dropped ≤ p.mark
  pub leads : Leads (digits_of text p) w dropped
  pub count : length (digits_of text p) ≡ (p.point - p.whole) + places_of p
  pub rises : rise ≡ capped (rise_of text p)
  pub drops : fall ≡ capped (fall_of text p)

-- what is found where a number is due: a scanned number with all that its value needs, or the refusal
abbrev pub SaysFound : Result Parts Refusal → List ℕ → ℕ → Type 0
SaysFound (Ok q) text at = (Ok q.places ≡ scan_number_of text at) × Held text q.places q.w q.dropped q.rise q.fall
SaysFound (Err refusal) text at = Err refusal ≡ number_of text at

pub record Finds (text : List ℕ) (at : ℕ) (r : Result Parts Refusal) : Type 0 where
  pub said : SaysFound r text at

-- w / 10 ^ places in out, where a quick way ends at r
pub record Settled (w places : ℕ) (s : Bool) (end r : ℕ) (out : List Float) : Type 0 where
  pub few : w < 2 ^ 53
  pub ends : r ≡ end
  pub stored : out ≡ round binary32 s w (10 ^ places) ∷ []

-- what a quick way has read where it tells anything: the value in out, and where the number ends
pub record Quick (read : Result Read Refusal) (r : ℕ) (out : List Float) : Type 0 where
  pub value : Float
  pub stored : out ≡ value ∷ []
  pub is : read ≡ Ok (read_at value r)
