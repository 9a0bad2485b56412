-- How `Demand3` refuses a lookup: a small stored path and a test that computes to true, that the lookup is wrong there in one of three ways. Assumes nothing.
use mathlib.Core.Path.{◌≡◌, subst}
use Prim.Native.Nat.{ℕ, zero, suc, ◌-◌}
use native.Mathlib.Omega.{arith}
use mathlib.Core.Logic.{inl, inr}
use mathlib.Core.Bool.{Bool, true, ◌&&◌, not}
use mathlib.Core.List.{List, [], ◌∷◌}
use lib.Dec.{T, ltb, leb, eqb, ltb→lt, leb→le, eqb→eq}
use lib.ListN.{length, get_or}
use lib.Ieee.{Float, binary32, of_bits, add, sub, mul, div, neg, lt, le, eq, ne, of_int, sum, round, fits}
use lib.Ieee.Fits.{and_l, and_r, and_i, nan-fits}
use Rattle.floats.specs.Floats.{zero_f, one_f, epsilon_f, max_of, clamp_of, clamp01_of}
use Rattle.table.specs.declared.tables.Table.{Table}
use Rattle.table.specs.Lookup.{at, last_of, first_not_below, target_of, share_of, mark_of, raw_of}
use Rattle.table.specs.Sound.{all_finite, climbs, lengths_are_sound, starts_at_zero, table_is_sound}
use Rattle.table.specs.Spots.{before, path_total, spot_at, spot_of}
use Rattle.table.proofs.Lengths.{Sound, table-sound}
use Rattle.floats.proofs.Tests.{clashing}
use Rattle.table_order.specs.Stated.{NoStepBack}
use Rattle.table_order.proofs.Swept.{enclosed-once}
use Rattle.table_order.proofs.Fused.{fused_of}
use Rattle.table_order.proofs.Above.{first_above}
use Rattle.path_segment.specs.Segments.{width_of, tables_of, has_table}
use Rattle.path_stored.specs.Stored.{are_known, tables_are_sound, never_fall, is_stored}
use Rattle.path_stored.specs.Stored as Stored
use Rattle.path_stored.proofs.Rule.{stored-rule}
use Rattle.path_stored.proofs.Values.{F32s}
use Rattle.path_stored.specs.Buffers.{Buffers}
use Rattle.path_place.specs.declared.places.Place.{Place}
use Rattle.path_place.specs.Places.{table_start, raw_in, raw_for, raw_within, place_in, place_of}
use Rattle.path_place.specs.Demand.{Demand3, table_on, target_along, local_of}
use Rattle.path_place.proofs.Demand3.{demand-3}

-- ---- tests

-- each of them is passed
unfoldable pub all_pass : List Bool → Bool
all_pass [] = true
all_pass (test ∷ tests) = test && all_pass tests

pass : (tests : List Bool) → T (all_pass tests) → (k : ℕ) → T (get_or tests k true)
unfolding all_pass
pass [] h k = tt
pass (test ∷ tests) h zero = and_l test (all_pass tests) h
pass (test ∷ tests) h (suc k) = pass tests (and_r test (all_pass tests) h) k

unfoldable pub all_fit : List Float → Bool
all_fit [] = true
all_fit (x ∷ xs) = fits binary32 x && all_fit xs

all-fit : (xs : List Float) → T (all_fit xs) → F32s xs
unfolding all_fit
all-fit [] h k = nan-fits binary32
all-fit (x ∷ xs) h zero = and_l (fits binary32 x) (all_fit xs) h
all-fit (x ∷ xs) h (suc k) = all-fit xs (and_r (fits binary32 x) (all_fit xs) h) k

-- What a test computes with. To unfold `computing` is to unfold all that these lines name.
unfoldable pub numbers : Type 0
unfolding fits sum round of_bits of_int le lt eq ne mul sub div add neg fused_of zero_f one_f epsilon_f max_of clamp_of clamp01_of
numbers = Unit {0}

unfoldable pub check : Type 0
unfolding all_fit is_stored are_known tables_are_sound never_fall table_start has_table tables_of width_of Stored.before table_is_sound starts_at_zero lengths_are_sound all_finite climbs
check = Unit {0}

unfoldable pub lookups : Type 0
unfolding spot_of spot_at before path_total first_not_below first_above target_of share_of mark_of place_in raw_within raw_for raw_in raw_of
lookups = Unit {0}

unfoldable pub computing : Type 0
unfolding all_pass numbers check lookups
computing = Unit {0}

-- ---- what a refutation is

abbrev pub Lookup : Type 0
Lookup = Buffers → Float → Place

-- a stored path of f32 values with a segment, longer than 2^-23
abbrev pub is_path : Buffers → List Bool
is_path b = is_stored b ∷ all_fit b.tables ∷ all_fit b.lengths ∷ ltb 0 (length b.kinds) ∷ lt epsilon_f (path_total b.lengths) ∷ []

-- on which the lookup does not meet the demand
pub record Refused (lookup : Lookup) (b : Buffers) : Type 0 where
  pub path : T (all_pass (is_path b))
  pub refused : Demand3 b (lookup b) → ⊥

-- the lookup of the code meets it on the same path
pub kept : {lookup : Lookup} {b : Buffers} → Refused lookup b → Demand3 b (place_of b)
kept {lookup} {b} r =
    let test : (k : ℕ) → T (get_or (is_path b) k true) = pass (is_path b) r.path in
    demand-3 (record { stored = stored-rule b (test 0); table_values = all-fit b.tables (test 1); length_values = all-fit b.lengths (test 2) })
    (ltb→lt 0 (length b.kinds) (test 3)) (test 4)

-- Three ways to be wrong.

-- 1. It steps back.
pub steps_back : (i : ℕ) (x y : Float) → T (not (le x y)) → NoStepBack i x i y → ⊥
steps_back i x y n (inl l) = absurd (omega (arith, l))
steps_back i x y n (inr e) = clashing (le x y) e.1 n

module _ (lookup : Lookup) (b : Buffers) (p : Float) where
  abbrev pub pair : Place
  pair = lookup b p

  abbrev pub raw : Float
  raw = (lookup b p).raw.value

  -- 2. The running lengths of the segment given do not enclose the target, which lies inside.
  abbrev pub strays : List Bool
  strays =
      let target = target_along b.lengths p in
      lt zero_f target ∷ lt target (path_total b.lengths) ∷ not (lt (before b.lengths pair.segment) target && not (lt (at b.lengths pair.segment) target)) ∷ []

  pub strays-refused : T (all_pass strays) → Demand3 b (lookup b) → ⊥
  strays-refused h d =
      let test : (k : ℕ) → T (get_or strays k true) = pass strays h in
      let target = target_along b.lengths p in
      let enclosed = d.enclosed p (record { above = test 0; below = test 1 }) in
      let lower = lt (before b.lengths pair.segment) target in
      let upper = not (lt (at b.lengths pair.segment) target) in
      clashing (lower && upper) (and_i lower upper enclosed.lower enclosed.upper) (test 2)

  -- 3. The target lies inside, on the path and in the table of the segment given; the entries k - 1 and k enclose it; and the raw parameter is not between their places.
  abbrev pub table : Table
  table = table_on b pair.segment

  abbrev pub target : Float
  target = target_of table.total (local_of b.lengths p pair.segment)

  abbrev pub between : ℕ → Bool
  between k = le (mark_of 31 (k - 1)) raw && le raw (mark_of 31 k)

  abbrev pub misplaces : ℕ → List Bool
  misplaces k =
      lt zero_f (target_along b.lengths p)
      ∷ lt (target_along b.lengths p) (path_total b.lengths)
      ∷ has_table (get_or b.kinds pair.segment 0)
      ∷ lt epsilon_f table.total
      ∷ lt zero_f target
      ∷ lt target table.total
      ∷ table_is_sound table.entries table.total
      ∷ eqb (last_of table.entries) 31
      ∷ leb k 31
      ∷ lt (at table.entries (k - 1)) target
      ∷ not (lt (at table.entries k) target)
      ∷ not (between k)
      ∷ []

  pub misplaces-refused : (k : ℕ) → T (all_pass (misplaces k)) → Demand3 b (lookup b) → ⊥
  misplaces-refused k h d =
      let test : (i : ℕ) → T (get_or (misplaces k) i true) = pass (misplaces k) h in
      let chosen = (d.swept p (record { above = test 0; below = test 1 }) (test 2) (test 3)).chosen (record { above = test 4; below = test 5 }) in
      let last : last_of table.entries ≡ 31 = eqb→eq (last_of table.entries) 31 (test 7) in
      let sound : Sound 31 table.entries table.total = subst (λ (n : ℕ). Sound n table.entries table.total) last (table-sound table.entries table.total (test 6)) in
      let same = enclosed-once sound chosen.entry k chosen.last (leb→le k 31 (test 8)) chosen.enclose (record { lower = test 9; upper = test 10 }) in
      let from = subst (λ (n : ℕ). T (le (mark_of 31 (n - 1)) raw)) same chosen.from in
      let upto = subst (λ (n : ℕ). T (le raw (mark_of 31 n))) same chosen.upto in
      clashing (between k) (and_i (le (mark_of 31 (k - 1)) raw) (le raw (mark_of 31 k)) from upto) (test 11)
