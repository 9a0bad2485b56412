-- The variants of the lookup that step back, leave the places, or give other bits than the lookup, each with a sound table and progresses small enough to read, and with the bits that come out.
-- oracle/order.rs works the same bits out on the machine, and what lies between them on paper; docs/ORDER.md shows both. Every table here is a few lengths, each repeated. Assumes nothing.
use mathlib.Core.Path.{◌≡◌, refl}
use Prim.Native.Nat.{ℕ, zero, suc, ◌-◌}
use mathlib.Core.Bool.{Bool, not, cond}
use mathlib.Core.List.{List, [], ◌∷◌, ◌++◌}
use lib.ListN.{replicate}
use lib.Dec.{T}
use lib.Ieee.{Float, binary32, of_bits, add, sub, mul, div, neg, lt, le, eq, ne, of_int, sum, round}
use Rattle.floats.specs.Floats.{zero_f, one_f, epsilon_f, max_of, clamp_of, clamp01_of}
use Rattle.table.specs.Lookup.{at, last_of, first_not_below, target_of, share_of, mark_of, raw_in_part, raw_at, raw_of}
use Rattle.table.specs.Sound.{all_finite, climbs, lengths_are_sound, starts_at_zero, table_is_sound}
use Rattle.table.specs.Spots.{before, path_total, spotted, spot_at, spot_of}
use Rattle.table_order.proofs.Fused.{fused_of}
use Rattle.table_order.proofs.Division.{whole, quotient_of}
use Rattle.table_order.proofs.Above.{first_above}
use Rattle.table_order.proofs.Spots.{spot_way}
use Rattle.table_order.proofs.Variants.{inverse, reciprocal_share, fused_share, product_offset, quotient_offset, reciprocal, product_join, fused_share_join, fused_number_join, way_along, way_of}
use Rattle.table_order.proofs.Contraction.{contracted_share, contracted_clamped}

abbrev bits : ℕ → Float
bits n = of_bits binary32 n

-- ---- what a witness is

-- from the entries, the total and the progress to a parameter
abbrev Way : Type 0
Way = List Float → Float → Float → Float

-- a sound table and two progresses p and q: the later one has the smaller parameter, y after x
record StepsBack (way : Way) (xs : List Float) (total p q x y : Float) : Type 0 where
  sound : T (table_is_sound xs total)
  order : T (lt p q)
  first : way xs total p ≡ x
  second : way xs total q ≡ y
  back : T (lt y x)

-- a sound table of 32 entries and a progress past the entry k: the parameter x lies below its place
record OutOfPlace (way : Way) (xs : List Float) (total p x : Float) (k : ℕ) : Type 0 where
  sound : T (table_is_sound xs total)
  entry : first_not_below (target_of total p) xs ≡ suc k
  gives : way xs total p ≡ x
  below : T (lt x (mark_of 31 k))

-- a sound table and a progress at which the lookup gives x, and the way y
record OtherBits (way : Way) (xs : List Float) (total p x y : Float) : Type 0 where
  sound : T (table_is_sound xs total)
  lookup : raw_of xs total p ≡ x
  other : way xs total p ≡ y
  apart : T (not (eq x y))

-- ---- the ways: the lookup with another join, with another share, with a share that reads the progress, or with the other comparison

abbrev by_join : (ℕ → ℕ → Float → Float) → Way
by_join join xs total p = way_of (λ t. first_not_below t xs) share_of (join (last_of xs)) xs total p

abbrev by_share : (Float → Float → Float → Float) → Way
by_share share xs total p = way_of (λ t. first_not_below t xs) share (quotient_of (last_of xs)) xs total p

abbrev by_contraction : (Float → Float → Float → Float → Float) → Way
by_contraction share xs total p = way_along (λ t. first_not_below t xs) (share total) (quotient_of (last_of xs)) xs total p

abbrev by_above : Way
by_above xs total p = way_of (λ t. first_above t xs) share_of (quotient_of (last_of xs)) xs total p

-- ---- the tables

abbrev two : Float
two = bits 0x4000_0000

abbrev three : Float
three = bits 0x4040_0000

-- the half, and the f32 after it
abbrev half : Float
half = bits 0x3f00_0000

abbrev after_half : Float
after_half = bits 0x3f00_0001

-- a curve that stands still up to the entry k - 1, is 1 long at k and 2 long from there on; the half's target is 1
abbrev standing : ℕ → ℕ → List Float
standing k rest = replicate k zero_f ++ (one_f ∷ replicate rest two)

-- lengths 0, a, b and then c
abbrev rising : Float → Float → Float → List Float
rising a b c = zero_f ∷ a ∷ b ∷ replicate 29 c

-- ---- the division by 31 replaced: share * R + lower/31, fused

abbrev fused_division_join : ℕ → ℕ → Float → Float
fused_division_join n k x = fused_of x (reciprocal n) (div binary32 (whole k) (whole n))

-- it steps back on entering the entries 18, 22, 26 and 30,
fused-division-back :
    StepsBack (by_join fused_division_join) (standing 18 13) two half after_half (bits 0x3f14_a52a) (bits 0x3f14_a529)
    × StepsBack (by_join fused_division_join) (standing 22 9) two half after_half (bits 0x3f35_ad6c) (bits 0x3f35_ad6b)
    × StepsBack (by_join fused_division_join) (standing 26 5) two half after_half (bits 0x3f56_b5ae) (bits 0x3f56_b5ad)
    × StepsBack (by_join fused_division_join) (standing 30 1) two half after_half (bits 0x3f77_bdf0) (bits 0x3f77_bdef)
unfolding table_is_sound starts_at_zero lengths_are_sound all_finite climbs fused_of sum round target_of clamp01_of clamp_of zero_f one_f epsilon_f of_bits le lt eq ne mul first_not_below share_of sub max_of div of_int add neg
fused-division-back = (
  record { sound = tt; order = tt; first = refl; second = refl; back = tt },
  record { sound = tt; order = tt; first = refl; second = refl; back = tt },
  record { sound = tt; order = tt; first = refl; second = refl; back = tt },
  record { sound = tt; order = tt; first = refl; second = refl; back = tt },
)

-- and on entering no other: at the other 26 the part before ends no later than the next one starts
abbrev overlaps : ℕ → Bool
overlaps k = not (le (fused_division_join 31 (k - 1) one_f) (fused_division_join 31 k zero_f))

-- the numbers from 1 to n that pass a test, and then `more`
abbrev passing : ℕ → (ℕ → Bool) → List ℕ → List ℕ
passing zero test more = more
passing (suc n) test more = passing n test (cond (test (suc n)) (suc n ∷ more) more)

fused-division-entries : passing 30 overlaps [] ≡ 18 ∷ 22 ∷ 26 ∷ 30 ∷ []
unfolding fused_of sum round zero_f one_f of_bits le lt eq div of_int
fused-division-entries = refl

-- where the lookup itself stays
lookup-stays : (raw_of (standing 18 13) two half ≡ bits 0x3f14_a529) × (raw_of (standing 18 13) two after_half ≡ bits 0x3f14_a529)
unfolding raw_of raw_at raw_in_part sum round target_of clamp01_of clamp_of zero_f one_f epsilon_f of_bits le lt eq ne mul first_not_below share_of sub max_of div of_int add neg
lookup-stays = (refl, refl)

-- ---- the division by n replaced: share * R + lower * R, fused. With 32 entries it does not step back; with the 49 of a spline through four points it does
fused-products-back : StepsBack (by_join fused_share_join) (standing 15 33) two half after_half (bits 0x3ea0_0001) (bits 0x3ea0_0000)
unfolding table_is_sound starts_at_zero lengths_are_sound all_finite climbs fused_of sum round target_of clamp01_of clamp_of zero_f one_f epsilon_f of_bits le lt eq ne mul first_not_below share_of sub max_of div of_int add neg
fused-products-back = record { sound = tt; order = tt; first = refl; second = refl; back = tt }

-- ---- The products with R that do not step back at 32 entries leave the places: past the entry 17 they lie below 17/31 rounded, 3F0C6319. path_place/proofs/Refused.antt refuses each on a whole path.

-- (lower + share) * R, and share * R + lower * R fused
products-out-of-place :
    OutOfPlace (by_join product_join) (standing 17 14) two after_half (bits 0x3f0c_6318) 17
    × OutOfPlace (by_join fused_share_join) (standing 17 14) two after_half (bits 0x3f0c_6318) 17
    × (mark_of 31 17 ≡ bits 0x3f0c_6319)
unfolding table_is_sound starts_at_zero lengths_are_sound all_finite climbs fused_of sum round target_of clamp01_of clamp_of zero_f one_f epsilon_f of_bits le lt eq ne mul first_not_below share_of sub max_of div of_int add neg mark_of
products-out-of-place = (record { sound = tt; entry = refl; gives = refl; below = tt }, record { sound = tt; entry = refl; gives = refl; below = tt }, refl)

-- lower * R + share * R, fused: 17 * R is halfway between two f32 values, so any share lifts it to the place, unless share * R rounds to 0. The curve is 1 long at the entry 17 and 2^127 from there on.
abbrev far : Float
far = bits 0x7f00_0000

fused-number-out-of-place : OutOfPlace (by_join fused_number_join) (replicate 17 zero_f ++ (one_f ∷ replicate 14 far)) far (bits 0x0040_0001) (bits 0x3f0c_6318) 17
unfolding table_is_sound starts_at_zero lengths_are_sound all_finite climbs fused_of sum round target_of clamp01_of clamp_of zero_f one_f epsilon_f of_bits le lt eq ne mul first_not_below share_of sub max_of div of_int add neg mark_of
fused-number-out-of-place = record { sound = tt; entry = refl; gives = refl; below = tt }

-- ---- the division by the span replaced, without the clamp

abbrev bare_fused : (Float → Float → Float) → Float → Float → Float → Float
bare_fused offset a b t = fused_of t (inverse a b) (neg (offset a b))

-- target * inverse - (lower * inverse), fused: lengths 0, 15, 18, 36
bare-fused-product-back :
    StepsBack (by_share (bare_fused product_offset)) (rising (bits 0x4170_0000) (bits 0x4190_0000) (bits 0x4210_0000)) (bits 0x4210_0000) half after_half (bits 0x3d84_2109) (bits 0x3d84_2108)
unfolding table_is_sound starts_at_zero lengths_are_sound all_finite climbs fused_of sum round target_of clamp01_of clamp_of zero_f one_f epsilon_f of_bits le lt eq ne mul first_not_below share_of sub max_of div of_int add neg
bare-fused-product-back = record { sound = tt; order = tt; first = refl; second = refl; back = tt }

-- target * inverse - (lower / span), fused: lengths 0, 7, 10, 20
bare-fused-quotient-back :
    StepsBack (by_share (bare_fused quotient_offset)) (rising (bits 0x40e0_0000) (bits 0x4120_0000) (bits 0x41a0_0000)) (bits 0x41a0_0000) half after_half (bits 0x3d84_2109) (bits 0x3d84_2108)
unfolding table_is_sound starts_at_zero lengths_are_sound all_finite climbs fused_of sum round target_of clamp01_of clamp_of zero_f one_f epsilon_f of_bits le lt eq ne mul first_not_below share_of sub max_of div of_int add neg
bare-fused-quotient-back = record { sound = tt; order = tt; first = refl; second = refl; back = tt }

abbrev bare_reciprocal : Float → Float → Float → Float
bare_reciprocal a b t = mul binary32 (sub binary32 t a) (inverse a b)

-- (target - lower) * inverse: lengths 0, 9.99e37, 3e38, so long that the reciprocal of the first part is subnormal; progress 0.333 and the f32 after it
bare-reciprocal-back :
    StepsBack (by_share bare_reciprocal) (zero_f ∷ bits 0x7e96_5015 ∷ replicate 30 (bits 0x7f61_b1e6)) (bits 0x7f61_b1e6) (bits 0x3eaa_7efa) (bits 0x3eaa_7efb) (bits 0x3d04_2109) (bits 0x3d04_2108)
unfolding table_is_sound starts_at_zero lengths_are_sound all_finite climbs fused_of sum round target_of clamp01_of clamp_of zero_f one_f epsilon_f of_bits le lt eq ne mul first_not_below share_of sub max_of div of_int add neg
bare-reciprocal-back = record { sound = tt; order = tt; first = refl; second = refl; back = tt }

-- the contraction, (total * progress - lower) rounded once, by the span: lengths 0, 1, 1 + 2^-22, 3. It steps back by a quarter of a part.
abbrev short : List Float
short = rising one_f (bits 0x3f80_0002) three

bare-contraction-back : StepsBack (by_contraction contracted_share) short three (bits 0x3eaa_aaae) (bits 0x3eaa_aaaf) (bits 0x3d94_a529) (bits 0x3d84_2108)
unfolding table_is_sound starts_at_zero lengths_are_sound all_finite climbs fused_of sum round target_of clamp01_of clamp_of zero_f one_f epsilon_f of_bits le lt eq ne mul first_not_below share_of sub max_of div of_int add neg
bare-contraction-back = record { sound = tt; order = tt; first = refl; second = refl; back = tt }

-- ---- With the clamp these four do not step back, and keep the places; but they are not the lookup. Lengths 0, 3 and then 5, at the half; and the table above, two floats earlier.

abbrev three_five : List Float
three_five = zero_f ∷ three ∷ replicate 30 (bits 0x40a0_0000)

clamped-other-bits :
    OtherBits (by_share reciprocal_share) three_five (bits 0x40a0_0000) half (bits 0x3cdc_370d) (bits 0x3cdc_370e)
    × OtherBits (by_share (fused_share product_offset)) three_five (bits 0x40a0_0000) half (bits 0x3cdc_370d) (bits 0x3cdc_370e)
    × OtherBits (by_share (fused_share quotient_offset)) three_five (bits 0x40a0_0000) half (bits 0x3cdc_370d) (bits 0x3cdc_370e)
    × OtherBits (by_contraction contracted_clamped) short three (bits 0x3eaa_aaad) (bits 0x3d84_2108) (bits 0x3d77_bdef)
unfolding table_is_sound starts_at_zero lengths_are_sound all_finite climbs fused_of sum round target_of clamp01_of clamp_of zero_f one_f epsilon_f of_bits le lt eq ne
    mul first_not_below share_of sub max_of div of_int add neg raw_of raw_at raw_in_part
clamped-other-bits = (
  record { sound = tt; lookup = refl; other = refl; apart = tt },
  record { sound = tt; lookup = refl; other = refl; apart = tt },
  record { sound = tt; lookup = refl; other = refl; apart = tt },
  record { sound = tt; lookup = refl; other = refl; apart = tt },
)

-- ---- the comparison made non-strict: the first length above the target

-- Lengths 0, 1 and then 2, at the half: the target is 1. The strict search picks the entry 1, and 0 < 1 <= 1; the other picks the entry 2, and the entry before is not below the target.
above-does-not-enclose :
    (first_not_below (target_of two half) (standing 1 30) ≡ 1)
    × (first_above (target_of two half) (standing 1 30) ≡ 2)
    × T (not (lt (at (standing 1 30) (first_above (target_of two half) (standing 1 30) - 1)) (target_of two half)))
unfolding first_not_below first_above round target_of clamp01_of clamp_of zero_f one_f of_bits le lt eq ne mul
above-does-not-enclose = (refl, refl, tt)

-- Lengths 0, 1, 1, 1 and then 2, at the half: the strict search gives 1/31, the other 3/31.
abbrev paused : List Float
paused = zero_f ∷ one_f ∷ one_f ∷ one_f ∷ replicate 28 two

above-skips-equal-lengths : OtherBits by_above paused two half (bits 0x3d04_2108) (bits 0x3dc6_318c) × (mark_of 31 1 ≡ bits 0x3d04_2108) × (mark_of 31 3 ≡ bits 0x3dc6_318c)
unfolding table_is_sound starts_at_zero lengths_are_sound all_finite climbs sum round target_of clamp01_of clamp_of zero_f one_f epsilon_f of_bits le lt eq ne mul
    first_not_below share_of sub max_of div of_int add neg raw_of raw_at raw_in_part first_above mark_of
above-skips-equal-lengths = (record { sound = tt; lookup = refl; other = refl; apart = tt }, refl, refl)

-- Over a path: running lengths 1, 1, 2, so that the middle segment has no length. At the half the target is 1. The strict search gives the end of segment 0, the other the start of segment 2,
-- and the running length before that one, 1, is not below the target.
abbrev trio : List Float
trio = one_f ∷ one_f ∷ two ∷ []

above-changes-segment :
    T (lengths_are_sound trio)
    × (spot_of trio half ≡ spotted 0 one_f)
    × (spot_way (λ t. first_above t trio) share_of trio half ≡ spotted 2 zero_f)
    × T (not (lt (before trio 2) (target_of (path_total trio) half)))
unfolding lengths_are_sound all_finite climbs spot_of spot_at before path_total sum round target_of clamp01_of clamp_of zero_f one_f epsilon_f of_bits le lt eq ne mul first_not_below first_above share_of sub max_of div add neg
above-changes-segment = (tt, refl, refl, tt)
