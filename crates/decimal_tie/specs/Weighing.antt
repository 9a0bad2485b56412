-- The digits of a number against another number: digits ds with a point before them are 0.ds, that is val ds / 10 ^ length ds. Definitions only.
use Prim.Native.Nat.{ℕ, ◌+◌, ◌*◌, ◌^◌, ◌<◌, compare, Ordering}
use Rattle.std.specs.Prelude.{◌≡◌, List, [], ◌∷◌, length, drop, Option, Some, None}
use Rattle.std.specs.declared.cmp.Ordering.{Ordering as Order}
use Rattle.std.specs.declared.cmp.Ordering.TheVariants.{Less, Equal, Greater}
use Rattle.decimal_digits.specs.Digits.{digits_among, val}
use Rattle.decimal_tie.specs.Words.{wide_of, Small}
use Rattle.decimal_tie.specs.declared.scales.Wide.{Wide}
use Rattle.decimal_tie.specs.declared.scales.Taken.{Taken}
use Rattle.decimal_tie.specs.declared.scales.Whole.{Whole}

-- an answer as antt's own ordering
abbrev pub order_of : Order → Ordering
order_of Less = Ordering.lt
order_of Equal = Ordering.eq
order_of Greater = Ordering.gt

-- 0.ds against f / 2 ^ 150
unfoldable pub against : List ℕ → ℕ → Ordering
against ds f = compare (val ds * 2 ^ 150) (f * 10 ^ length ds)

-- the digits with the point moved: count to the right, or zeros to the left, against s / 2 ^ 150
unfoldable pub weigh_of : List ℕ → ℕ → ℕ → ℕ → Ordering
weigh_of ds count zeros s = compare (val ds * 10 ^ count * 2 ^ 150) (s * (10 ^ zeros * 10 ^ length ds))

-- ---- the steps on the way there

-- the first digit, and the others; without one, 0 and none
abbrev pub first : List ℕ → ℕ
first [] = 0
first (digit ∷ rest) = digit

abbrev pub others : List ℕ → List ℕ
others [] = []
others (digit ∷ rest) = rest

pub record Takes (part : List ℕ) (from : ℕ) (r : Taken) : Type 0 where
  pub digit-is : r.digit ≡ first (digits_among (drop from part))
  pub rest-is : digits_among (drop r.at part) ≡ others (digits_among (drop from part))
  pub small : r.digit < 10

-- whole digits, gathered in w, and those still to come, the first count of which are whole too, against s / 2 ^ 150
unfoldable pub partly : ℕ → List ℕ → ℕ → ℕ → Ordering
partly w ds count s = compare ((w * 10 ^ length ds + val ds) * 10 ^ count * 2 ^ 150) (s * 10 ^ length ds)

-- what the whole digits say of any s / 2 ^ 150 below 2 ^ 150
abbrev pub SaysWhole : Option Whole → List ℕ → ℕ → ℕ → Type 0
SaysWhole None part count s = partly 0 (digits_among part) count s ≡ Ordering.gt
SaysWhole (Some w) part count s = Small w.number × (partly 0 (digits_among part) count s ≡ partly (wide_of w.number) (digits_among (drop w.at part)) 0 s)

pub record Wholes (part : List ℕ) (count : ℕ) (r : Option Whole) : Type 0 where
  pub said : (s : ℕ) → s < 2 ^ 300 → SaysWhole r part count s

-- what f times 10 ^ zeros says of any v / l below 1
abbrev pub SaysLowered : Option Wide → Wide → ℕ → ℕ → ℕ → Type 0
SaysLowered None f zeros v l = compare (v * 2 ^ 150) (wide_of f * (10 ^ zeros * l)) ≡ Ordering.lt
SaysLowered (Some w) f zeros v l = Small w × (compare (v * 2 ^ 150) (wide_of f * (10 ^ zeros * l)) ≡ compare (v * 2 ^ 150) (wide_of w * l))

pub record Lowers (f : Wide) (zeros : ℕ) (r : Option Wide) : Type 0 where
  pub said : (v l : ℕ) → v < l → SaysLowered r f zeros v l
