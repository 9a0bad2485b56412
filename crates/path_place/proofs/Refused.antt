-- What `Demand3` forbids: each wrong lookup that the letter and document 01 name fails it on a small stored path, while the lookup of the code meets it there (`kept`). Every path here is one
-- curve, or two lines of length 1; every table is a few lengths, each repeated. proofs/Allowed.antt has what the demand does not forbid. Assumes nothing.
use Prim.Native.Nat.{ℕ, ◌+◌, ◌-◌}
use mathlib.Core.Bool.{◌&&◌, cond}
use mathlib.Core.List.{List, [], ◌∷◌, ◌++◌}
use lib.Dec.{ltb}
use lib.ListN.{length, replicate}
use lib.Ieee.{Float, binary32, of_bits, sub, div, neg, le, eq}
use Rattle.floats.specs.Floats.{zero_f, one_f, epsilon_f, max_of, clamp01_of}
use Rattle.table.specs.declared.tables.Spot.{Spot}
use Rattle.table.specs.Lookup.{at, last_of, first_not_below, target_of, share_of}
use Rattle.table.specs.Spots.{path_total, spotted, spot_within}
use Rattle.table_order.proofs.Fused.{fused_of}
use Rattle.table_order.proofs.Division.{whole, quotient_of}
use Rattle.table_order.proofs.Above.{first_above}
use Rattle.table_order.proofs.Variants.{reciprocal, product_join, fused_share_join, fused_number_join, way_of}
use Rattle.path_stored.specs.Buffers.{Buffers, buffers}
use Rattle.path_place.specs.Places.{placed, raw_within, place_in, place_of}
use Rattle.path_place.specs.Demand.{target_along}
use Rattle.path_place.proofs.AnyLookup.{with_way}
use Rattle.path_place.proofs.Refuting.{Lookup, Refused, computing, steps_back, strays-refused, misplaces-refused}

-- ---- the paths

abbrev pub bits : ℕ → Float
bits n = of_bits binary32 n

abbrev pub two : Float
two = bits 0x4000_0000

-- the half, and the f32 after it
abbrev pub half : Float
half = bits 0x3f00_0000

abbrev pub after_half : Float
after_half = bits 0x3f00_0001

-- a path of one quad that is 2 long, with this table: the half's target is 1, along the path and in the table
abbrev pub quad_of : List Float → Buffers
quad_of table = buffers (1 ∷ []) (replicate 6 zero_f) table (two ∷ []) (1 ∷ [])

abbrev pub table_from : List Float → List Float
table_from entries = entries ++ (two ∷ [])

-- the table of a curve that stands still up to the entry k - 1, is 1 long at k and 2 long from there on
abbrev pub standing : ℕ → ℕ → List Float
standing k rest = table_from (replicate k zero_f ++ (one_f ∷ replicate rest two))

-- a path of two lines, each 1 long: the half's target is 1, the end of the first
abbrev pub lines : Buffers
lines = buffers (0 ∷ 0 ∷ []) (replicate 8 zero_f) [] (one_f ∷ two ∷ []) (1 ∷ 2 ∷ [])

-- ---- lookups that differ in the curve's table

-- "a lookup that returns its progress unchanged"
abbrev pub unchanged : Lookup
unchanged = with_way (λ entries total along. clamp01_of along)

-- The quad stands still for 18 entries. Half of it lies between the entries 17 and 18, and the half handed on is below 17/31.
pub unchanged-refused : Refused unchanged (quad_of (standing 18 13))
unfolding computing
unchanged-refused = record { path = tt; refused = misplaces-refused unchanged (quad_of (standing 18 13)) half 18 tt }

-- A table of zeros asked in place of the path's own: the same answer, refused by the same path.
abbrev pub zeros : Lookup
zeros b p = place_in b.kinds (replicate 33 zero_f) b.lengths p

pub zeros-refused : Refused zeros (quad_of (standing 18 13))
unfolding computing
zeros-refused = record { path = tt; refused = misplaces-refused zeros (quad_of (standing 18 13)) half 18 tt }

-- "a fused multiply-add in place of the division": share * R + lower/31, rounded once
abbrev pub fused_division : Lookup
fused_division = with_way (λ entries total along. way_of (λ t. first_not_below t entries) share_of (λ k x. fused_of x (reciprocal 31) (div binary32 (whole k) (whole 31))) entries total along)

-- it steps back: 3F14A52A at the half, and 3F14A529 after it
pub fused-refused : Refused fused_division (quad_of (standing 18 13))
unfolding computing
fused-refused = record { path = tt; refused = λ d. steps_back 0 (bits 0x3f14_a52a) (bits 0x3f14_a529) tt (d.order half after_half tt) }

-- and already at the half it lies past the place of the entry 18
pub fused-out-of-place : Refused fused_division (quad_of (standing 18 13))
unfolding computing
fused-out-of-place = record { path = tt; refused = misplaces-refused fused_division (quad_of (standing 18 13)) half 18 tt }

-- The division by 31 replaced by a product with R, 1/31 rounded, in three ways. None steps back with 32 entries (`way-order` of table_order/proofs/Variants.antt), and each leaves the places:
-- just past the entry 17 it lies below 17/31 rounded.
abbrev pub by_join : (ℕ → Float → Float) → Lookup
by_join join = with_way (λ entries total along. way_of (λ t. first_not_below t entries) share_of join entries total along)

-- (lower + share) * R
pub product-refused : Refused (by_join (product_join 31)) (quad_of (standing 17 14))
unfolding computing
product-refused = record { path = tt; refused = misplaces-refused (by_join (product_join 31)) (quad_of (standing 17 14)) after_half 18 tt }

-- share * R + (lower * R), fused
pub fused-share-refused : Refused (by_join (fused_share_join 31)) (quad_of (standing 17 14))
unfolding computing
fused-share-refused = record { path = tt; refused = misplaces-refused (by_join (fused_share_join 31)) (quad_of (standing 17 14)) after_half 18 tt }

-- lower * R + (share * R), fused: 17 * R is halfway between two f32 values, so any share lifts it to the place, unless share * R rounds to 0. The curve is 1 long at the entry 17 and 2^127 long
-- from there on; the target is 1 + 2^-22.
abbrev pub far : Float
far = bits 0x7f00_0000

abbrev pub steep_quad : Buffers
steep_quad = buffers (1 ∷ []) (replicate 6 zero_f) (replicate 17 zero_f ++ (one_f ∷ replicate 15 far)) (far ∷ []) (1 ∷ [])

pub fused-number-refused : Refused (by_join (fused_number_join 31)) steep_quad
unfolding computing
fused-number-refused = record { path = tt; refused = misplaces-refused (by_join (fused_number_join 31)) steep_quad (bits 0x0040_0001) 18 tt }

-- The fusion that a compiler makes by itself, target - lower as total * progress - lower rounded once, and no clamp: the share passes 1, and the raw parameter steps back from 3D94A529 to 3D842108.
-- The table's lengths are 0, 1, 1 + 2^-22 and then 3; the path's running length is 2, so that the local progress is the progress.
abbrev pub fused_target : Lookup
fused_target =
    with_way (λ entries total along.
    let p = clamp01_of along in
    let t = target_of total along in
    let k = first_not_below t entries - 1 in
    let part = div binary32 (fused_of total p (neg (at entries k))) (max_of (sub binary32 (at entries (k + 1)) (at entries k)) epsilon_f) in
    cond (le total epsilon_f) p (cond (le t zero_f) zero_f (cond (le total t) one_f (quotient_of 31 k part))))

abbrev pub three : Float
three = bits 0x4040_0000

pub fused-target-refused : Refused fused_target (quad_of (zero_f ∷ one_f ∷ bits 0x3f80_0002 ∷ replicate 30 three))
unfolding computing
fused-target-refused = record { path = tt; refused = λ d. steps_back 0 (bits 0x3d94_a529) (bits 0x3d84_2108) tt (d.order (bits 0x3eaa_aaae) (bits 0x3eaa_aaaf) tt) }

-- "searching for the first length above the target", in the table
abbrev pub above_in_table : Lookup
above_in_table = with_way (λ entries total along. way_of (λ t. first_above t entries) share_of (quotient_of 31) entries total along)

-- lengths 0, 1, 1, 1 and then 2: at the half the entries 0 and 1 enclose the target 1, and the other search gives 3/31
abbrev pub paused : List Float
paused = zero_f ∷ one_f ∷ one_f ∷ one_f ∷ replicate 29 two

pub above-in-table-refused : Refused above_in_table (quad_of paused)
unfolding computing
above-in-table-refused = record { path = tt; refused = misplaces-refused above_in_table (quad_of paused) half 1 tt }

-- ---- lookups that differ in the segment

-- "searching for the first length above the target", over the path's running lengths
abbrev pub spot_above : List Float → Float → Spot
spot_above lengths t =
    cond (le t zero_f) (spotted 0 zero_f) (cond (le (path_total lengths) t) (spotted (last_of lengths) one_f) (spot_within lengths t (first_above t lengths)))

abbrev pub above_in_path : Lookup
above_in_path b p =
    let spot = cond (le (path_total b.lengths) epsilon_f) (spotted (last_of b.lengths) one_f) (spot_above b.lengths (target_along b.lengths p)) in
    placed spot.segment (raw_within b.kinds b.tables spot.segment spot.progress.value)

-- at the half it gives the second line at 0, before which the running length is 1 and not below the target
pub above-in-path-refused : Refused above_in_path lines
unfolding computing
above-in-path-refused = record { path = tt; refused = strays-refused above_in_path lines half tt }

-- "the next segment's 0" in place of this one's 1
abbrev pub next_start : Lookup
next_start b p =
    let own = place_of b p in
    cond (eq own.raw.value one_f && ltb (own.segment + 1) (length b.kinds)) (placed (own.segment + 1) zero_f) own

pub next-start-refused : Refused next_start lines
unfolding computing
next-start-refused = record { path = tt; refused = strays-refused next_start lines half tt }
