-- `decimal::magnitudes::ten` meets its contract: each arm's float is computed to have the power at its key. Assumes nothing.
use mathlib.Core.Path.{◌≡◌, refl, sym, subst}
use Prim.Native.Nat.{ℕ, ◌^◌}
use mathlib.Core.Bool.{false}
use lib.Ieee.{Float, binary64, of_bits}
use lib.Ieee.Exact.{HasValue}
use Rattle.decimal_tens.proofs.Matched.{last_of}
use Rattle.decimal.proofs.magnitudes.ten.Goals as goal

at_place : (k places : ℕ) (x : Float) → places ≡ k → HasValue x false (10 ^ k) 1 → HasValue x false (10 ^ places) 1
at_place k places x e h = subst (λ (n : ℕ). HasValue x false (10 ^ n) 1) (sym e) h

pub returns-in-0 : goal.returns-in-0
unfolding of_bits
returns-in-0 c = at_place 0 _ (of_bits binary64 4607182418800017408) c.in-0.is (refl, refl)

pub returns-in-1 : goal.returns-in-1
unfolding of_bits
returns-in-1 c = at_place 1 _ (of_bits binary64 4621819117588971520) c.in-1.is (refl, refl)

pub returns-in-2 : goal.returns-in-2
unfolding of_bits
returns-in-2 c = at_place 2 _ (of_bits binary64 4636737291354636288) c.in-2.is (refl, refl)

pub returns-in-3 : goal.returns-in-3
unfolding of_bits
returns-in-3 c = at_place 3 _ (of_bits binary64 4652007308841189376) c.in-3.is (refl, refl)

pub returns-in-4 : goal.returns-in-4
unfolding of_bits
returns-in-4 c = at_place 4 _ (of_bits binary64 4666723172467343360) c.in-4.is (refl, refl)

pub returns-in-5 : goal.returns-in-5
unfolding of_bits
returns-in-5 c = at_place 5 _ (of_bits binary64 4681608360884174848) c.in-5.is (refl, refl)

pub returns-in-6 : goal.returns-in-6
unfolding of_bits
returns-in-6 c = at_place 6 _ (of_bits binary64 4696837146684686336) c.in-6.is (refl, refl)

pub returns-in-7 : goal.returns-in-7
unfolding of_bits
returns-in-7 c = at_place 7 _ (of_bits binary64 4711630319722168320) c.in-7.is (refl, refl)

pub returns-in_default : goal.returns-in_default
unfolding of_bits
returns-in_default c = at_place 8 _ (of_bits binary64 4726483295884279808) (last_of 8 _ c.in_default.in_default-own.rest c.requires) (refl, refl)
