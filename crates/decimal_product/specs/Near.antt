-- What a product of leading digits says of a number, and when it settles the nearest f32. A number is a fraction num / den with den above 0. Definitions only.
use Rattle.std.specs.Prelude.{ℕ, suc, ◌+◌, ◌*◌, ◌^◌, ◌≤◌, ◌<◌, ◌≡◌, ◌⊎◌, Bool, cond}
use Rattle.std.specs.Float.{binary32}
use Rattle.std.specs.Float.Ieee.{round, of_bits}
use Rattle.floats.specs.Patterns.{sign_place, infinity_bits}
use Rattle.decimal_tens.specs.Tens.{height}
use Rattle.decimal_product.specs.declared.products.Near.{Near}
use Rattle.decimal_product.specs.declared.products.Near.TheVariants.{Bits, Between}

-- num / den has the leading digits w before 10 ^ (place - 64): it is that many, or, where w has all the digits that it can have, up to one more
pub record Leading (w place num den : ℕ) : Type 0 where
  pub more : ℕ
  pub at_least : w * (10 ^ place * den) ≤ num * 10 ^ 64
  pub at_most : num * 10 ^ 64 ≤ (w + more) * (10 ^ place * den)
  pub cut_off : (more ≡ 0) ⊎ ((more ≡ 1) × (2 ^ 59 ≤ w))

-- num / den lies from m to below m + 1 steps of 2 ^ k smallest values, which are neighbours
pub record Cell (m k num den : ℕ) : Type 0 where
  pub few : m < 2 ^ 24
  pub full : (2 ^ 23 ≤ m) ⊎ (k ≡ 0)
  pub low : k ≤ 253
  pub at_least : m * (den * 2 ^ k) ≤ num * 2 ^ 149
  pub below_next : num * 2 ^ 149 < m * (den * 2 ^ k) + den * 2 ^ k

-- what an answer says of num / den with the sign s
abbrev pub Says : Near → Bool → ℕ → ℕ → Type 0
Says (Bits b) s num den = (b ≤ infinity_bits) × (round binary32 s num den ≡ of_bits binary32 (cond s sign_place 0 + b))
Says (Between m k) s num den = Cell m k num den

-- ---- the steps on the way there

pub record High (x p r : ℕ) : Type 0 where
  pub full : 2 ^ 63 ≤ x → 2 ^ 59 ≤ p → 2 ^ 58 ≤ r
  pub at_most : r * 2 ^ 64 ≤ x * p
  pub near : x * p < (r + 3) * 2 ^ 64

pub record Kept (product r : ℕ) : Type 0 where
  pub least : 35 ≤ r
  pub most : r ≤ 36
  pub reached : 2 ^ (23 + r) ≤ product
  pub under : product < 2 ^ (24 + r)

-- in units of u the number, g times larger, lies from the product to less than 5 above it
pub record Bracket (product u g num : ℕ) : Type 0 where
  pub at_least : product * u ≤ num * 2 ^ 149 * g
  pub below : num * 2 ^ 149 * g < (product + 5) * u

pub record Cuts (product dropped k : ℕ) (r : Near) : Type 0 where
  pub said : (s : Bool) (num den u g : ℕ) → 0 < den → 0 < g → 2 ^ dropped * u ≡ den * 2 ^ k * g → Bracket product u g num → Says r s num den

pub record Settles (product moved place : ℕ) (r : Near) : Type 0 where
  pub said : (s : Bool) (num den : ℕ) → 0 < den → Bracket product (2 ^ height place * den) (2 ^ (moved + 59)) num → Says r s num den

pub record Nearest (w place : ℕ) (r : Near) : Type 0 where
  pub said : (s : Bool) (num den : ℕ) → 0 < den → Leading w place num den → Says r s num den
