-- The digits of a number: one at a time, and how many there are. Assumes nothing.
use Prim.Native.Nat.{ℕ, zero, suc, ◌+◌, ◌-◌, ◌/◌, ◌%◌, ◌^◌, ◌≤◌, ◌<◌}
use mathlib.Core.Path.{◌≡◌, refl, sym, ap, ◌∙◌}
use mathlib.Core.Bool.{true, false}
use mathlib.Core.Logic.{⊎_elim}
use mathlib.Core.List.{List, [], ◌∷◌, ◌++◌}
use native.Mathlib.Nat.{pow-suc}
use native.Mathlib.Omega.{arith}
use borrow.Author.Tests.{lt-ltb, le-ltb, ltb-true, ltb-false}
use lib.Dec.{ltb}
use lib.ListN.{length, length-append}
use Rattle.scan.proofs.ByteLaws.{either_way}
use Rattle.station_lines.specs.Numbers.{hex_digit, hex_digits, decimal_from, decimal_of}

-- ---- to the base 16

pub hex-step : (count value : ℕ) → (count ≡ 0 → ⊥) → hex_digits (count - 1) (value / 16) ++ (hex_digit (value % 16) ∷ []) ≡ hex_digits count value
unfolding hex_digits
hex-step zero value h = absurd (h refl)
hex-step (suc count) value h = let e : suc count - 1 ≡ count = omega arith in ap (λ (k : ℕ). hex_digits k (value / 16) ++ (hex_digit (value % 16) ∷ [])) e

pub hex-none : (count value : ℕ) → count ≡ 0 → [] ≡ hex_digits count value
unfolding hex_digits
hex-none count value h = rw h

pub hex-length : (count value : ℕ) → length (hex_digits count value) ≡ count
unfolding hex_digits
hex-length zero value = refl
hex-length (suc count) value =
    length-append (hex_digits count (value / 16)) (hex_digit (value % 16) ∷ []) ∙ (let e = hex-length count (value / 16) in omega arith)

-- ---- to the base 10

-- the last digit of a number of one digit
low_digit : (value : ℕ) → value < 10 → value % 10 ≡ value
low_digit value h = omega arith

from_low : (more value : ℕ) → value < 10 → decimal_from more value ≡ (48 + value) ∷ []
unfolding decimal_from
from_low zero value h = ap (λ (k : ℕ). (48 + k) ∷ []) (low_digit value h)
from_low (suc more) value h = rw (lt-ltb value 10 h)

from-high : (more value : ℕ) → 10 ≤ value → decimal_from (suc more) value ≡ decimal_from more (value / 10) ++ ((48 + value % 10) ∷ [])
unfolding decimal_from
from-high more value h = rw (le-ltb value 10 h)

fewer : (more value : ℕ) → value < 10 ^ suc (suc more) → value / 10 < 10 ^ suc more
fewer more value h = let e = pow-suc 10 (suc more) in omega arith

-- room for a digit more changes nothing
from-same : (more value : ℕ) → value < 10 ^ suc more → decimal_from (suc more) value ≡ decimal_from more value
from-same zero value h = from_low 1 value (omega arith) ∙ sym (from_low 0 value (omega arith))
from-same (suc k) value h =
    ⊎_elim
    (λ (e : ltb value 10 ≡ true). from_low (suc (suc k)) value (ltb-true value 10 e) ∙ sym (from_low (suc k) value (ltb-true value 10 e)))
    (λ (e : ltb value 10 ≡ false).
    let t = ltb-false value 10 e in
    from-high (suc k) value t
    ∙ ap (λ (l : List ℕ). l ++ ((48 + value % 10) ∷ [])) (from-same k (value / 10) (fewer k value h))
    ∙ sym (from-high k value t))
    (either_way (ltb value 10))

pub decimal-low : (value : ℕ) → value < 10 → (48 + value) ∷ [] ≡ decimal_of value
unfolding decimal_of
decimal-low value h = sym (from_low 20 value h)

pub decimal-high : (value : ℕ) → 10 ≤ value → value < 2 ^ 64 → decimal_of (value / 10) ++ ((48 + value % 10) ∷ []) ≡ decimal_of value
unfolding decimal_of
decimal-high value h fits =
    ap (λ (l : List ℕ). l ++ ((48 + value % 10) ∷ [])) (from-same 19 (value / 10) (omega arith)) ∙ sym (from-high 19 value h)

from-short : (more k value : ℕ) → value < 10 ^ suc k → length (decimal_from more value) ≤ suc k
unfolding decimal_from
from-short zero k value h = omega arith
from-short (suc more) zero value h = let l = ap length (from_low (suc more) value (omega arith)) in omega arith
from-short (suc more) (suc k) value h =
    ⊎_elim (λ (e : ltb value 10 ≡ true). let l = ap length (from_low (suc more) value (ltb-true value 10 e)) in omega arith)
    (λ (e : ltb value 10 ≡ false).
    let i = from-short more k (value / 10) (fewer k value h) in
    let l = ap length (from-high more value (ltb-false value 10 e)) ∙ length-append (decimal_from more (value / 10)) ((48 + value % 10) ∷ []) in
    omega arith)
    (either_way (ltb value 10))

-- a number below a power of ten has at most so many digits
pub decimal-short : (k value : ℕ) → value < 10 ^ suc k → length (decimal_of value) ≤ suc k
unfolding decimal_of
decimal-short k value h = from-short 20 k value h

-- one digit has room where the number has
pub low-room : (value at size : ℕ) → value < 10 → at + length (decimal_of value) ≤ size → at < size
low-room value at size h fits = let l = ap length (decimal-low value h) in omega arith

-- the digits before the last have room, and so has the last
pub high-room : (value at size : ℕ) → 10 ≤ value → value < 2 ^ 64 → at + length (decimal_of value) ≤ size → at + length (decimal_of (value / 10)) + 1 ≤ size
high-room value at size h w fits =
    let l = ap length (decimal-high value h w) in
    let a = length-append (decimal_of (value / 10)) ((48 + value % 10) ∷ []) in
    omega arith
