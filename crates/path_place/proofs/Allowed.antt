-- What `Demand3` does not forbid, with the reason. Assumes nothing.
use mathlib.Core.Path.{◌≡◌, refl, ap, ◌∙◌, subst, fun_ext}
use Prim.Native.Nat.{ℕ, ◌<◌}
use native.Mathlib.Omega.{arith}
use mathlib.Core.Bool.{Bool, true, false, not, cond}
use mathlib.Core.List.{List}
use lib.Dec.{T}
use lib.ListN.{length, get_or}
use lib.Ieee.{Float, of_bits, lt, le, eq}
use Rattle.floats.specs.Floats.{zero_f, one_f, epsilon_f, clamp01_of}
use Rattle.table.specs.declared.tables.Spot.{Spot}
use Rattle.table.specs.Lookup.{last_of, first_not_below, raw_of}
use Rattle.table.specs.Spots.{path_total, spot_of}
use Rattle.floats.proofs.Tests.{clashing, cond_yes}
use Rattle.floats.proofs.Order.{le-le-trans}
use Rattle.table_order.specs.Swept.{Steady}
use Rattle.table_order.proofs.Division.{quotient_of}
use Rattle.table_order.proofs.Variants.{way_along}
use Rattle.table_order.proofs.Contraction.{contracted_clamped}
use Rattle.table_order.proofs.Kept.{contracted-steady as by-shares}
use Rattle.table_order.proofs.Theorems.{path-order, path-starts, path-ends, carried}
use Rattle.path_segment.specs.Segments.{has_table}
use Rattle.path_stored.specs.Buffers.{Buffers}
use Rattle.path_place.specs.declared.places.Place.{Place}
use Rattle.path_place.specs.Places.{placed, table_start, raw_in, raw_for, raw_within, place_in, place_of}
use Rattle.path_place.specs.Demand.{Demand3, table_on}
use Rattle.path_place.proofs.AnyLookup.{F32Stored, WaySteady, spot-counts, path-held, with_way, steady-meets}
use Rattle.path_place.proofs.Demand3.{demand-3}
use Rattle.path_place.proofs.Refuting.{Lookup}
use Rattle.path_place.proofs.Refused.{unchanged}

-- Where each table is at most 2^-23 long, as a table of zeros is, the lookup that hands its progress on unchanged is the lookup of the code: "Total at most 2^-23: raw is the clamped progress." A
-- path whose tables are zeros is a stored path; that no builder makes one of a curve with a length is demand 2's, by the sums.
abbrev pub Short : Buffers → Type 0
Short b = (i : ℕ) → T (has_table (get_or b.kinds i 0)) → T (le (table_on b i).total epsilon_f)

pub short-is-unchanged : (b : Buffers) → Short b → (p : Float) → place_of b p ≡ unchanged b p
unfolding place_in raw_within raw_for raw_in raw_of
short-is-unchanged b short p = ap (placed spot.segment) (by_kind (has_table (get_or b.kinds spot.segment 0)) (short spot.segment))
  where
    spot : Spot
    spot = spot_of b.lengths p

    along : Float
    along = spot.progress.value

    own : Float
    own = raw_in b.tables (table_start b.kinds spot.segment) along

    total : Float
    total = (table_on b spot.segment).total

    by_kind : (curve : Bool) → (T curve → T (le total epsilon_f)) → cond curve own (clamp01_of along) ≡ cond curve (clamp01_of along) (clamp01_of along)
    by_kind true small = cond_yes (le total epsilon_f) _ _ (small tt)
    by_kind false small = refl

pub unchanged-kept : {b : Buffers} → F32Stored b → 0 < length b.kinds → T (lt epsilon_f (path_total b.lengths))
    → Short b → Demand3 b (unchanged b)
unchanged-kept {b} f some long short = subst (Demand3 b) (fun_ext (short-is-unchanged b short)) (demand-3 f some long)

-- On a line the demand asks only order, ends and the running lengths: a lookup that jumps from a line's 0 to its 1 meets it on every path without a table. What the raw parameter of a line is,
-- "its clamped local progress", is demand 2's, which the contracts hold to the bit.
abbrev pub jump : ℕ → Float → Float
jump i along = cond (le along zero_f) zero_f one_f

abbrev pub jumping : Lookup
jumping b p = placed (spot_of b.lengths p).segment (jump (spot_of b.lengths p).segment (spot_of b.lengths p).progress.value)

jump_order : (i : ℕ) (x y : Float) → T (le x y) → T (le (jump i x) (jump i y))
jump_order i x y h = by_tests (le x zero_f) (le y zero_f) (λ n. n) (λ n. n)
  where
    by_tests : (a b : Bool) → (T (not a) → T (not (le x zero_f))) → (T b → T (le y zero_f)) → T (le (cond a zero_f one_f) (cond b zero_f one_f))
    by_tests true true m n = unfold zero_f of_bits le lt eq in tt
    by_tests true false m n = unfold zero_f one_f of_bits le lt eq in tt
    by_tests false true m n = absurd (clashing (le x zero_f) (le-le-trans x y zero_f h (n tt)) (m tt))
    by_tests false false m n = unfold one_f of_bits le lt eq in tt

jump-starts : jump 0 zero_f ≡ zero_f
unfolding zero_f of_bits le lt eq
jump-starts = refl

jump-ends : jump 0 one_f ≡ one_f
unfolding zero_f one_f of_bits le lt eq
jump-ends = refl

pub jumping-kept : {b : Buffers} → F32Stored b → 0 < length b.kinds → T (lt epsilon_f (path_total b.lengths))
    → ((i : ℕ) → T (not (has_table (get_or b.kinds i 0)))) → Demand3 b (jumping b)
unfolding place_in
jumping-kept {b} f some long bare =
    let d = demand-3 f some long in
    let path = path-held f some in
    record {
      counts = λ p. ap jumped (spot-counts b.lengths p);
      order = λ p q h. carried jump jump_order _ _ _ _ (path-order path p q h);
      starts = ap jumped (path-starts path long) ∙ ap (placed 0) jump-starts;
      ends = ap jumped (path-ends path) ∙ ap (placed (last_of b.lengths)) jump-ends ∙ ap (λ (i : ℕ). placed i one_f) (let one = f.stored.one in omega arith);
      enclosed = d.enclosed;
      swept = λ p inside has far. absurd (clashing (has_table (get_or b.kinds (spot_of b.lengths p).segment 0)) has (bare (spot_of b.lengths p).segment));
    }
  where
    jumped : Spot → Place
    jumped spot = placed spot.segment (jump spot.segment spot.progress.value)

-- ---- The contraction that a compiler makes by itself, with its clamp: target - lower as total * progress - lower rounded once. It is steady, so that only the comparison with the Rust refuses its bits.

abbrev pub contracted : List Float → Float → Float → Float
contracted xs total p = way_along (λ t. first_not_below t xs) (contracted_clamped total) (quotient_of (last_of xs)) xs total p

pub contracted-steady : WaySteady contracted
contracted-steady xs total f last = subst (λ (n : ℕ). Steady n xs total (contracted xs total)) last (by-shares f)

-- so the letter's sentence allows it
pub contraction-kept : {b : Buffers} → F32Stored b → 0 < length b.kinds → T (lt epsilon_f (path_total b.lengths))
    → Demand3 b (with_way contracted b)
contraction-kept f = steady-meets contracted contracted-steady f
