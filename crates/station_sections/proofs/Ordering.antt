-- The stations of a stored path of f32 values meet demand 3: progress k/(n-1), rounded, rises with k, is at or below 0 for the first and at or above 1 for the last.
use mathlib.Core.Path.{◌≡◌, sym, ap, ◌∙◌, subst}
use Prim.Native.Nat.{ℕ, ◌*◌, ◌-◌, ◌≤◌, ◌<◌}
use native.Mathlib.Nat.{le_of_eq, zero-mul, mul-one, mul_comm, mul-pos}
use native.Mathlib.Omega.{arith}
use mathlib.Core.List.{List}
use lib.Dec.{T}
use lib.IntN.{pos}
use lib.Ieee.{Float, binary32, lt, le, div, of_int}
use lib.Ieee.Bits.{cond_no}
use lib.Ieee.Positive.{num, den, den_pos}
use lib.ListN.{length}
use Rattle.floats.specs.Floats.{zero_f, one_f, epsilon_f}
use Rattle.floats.specs.Kinds.{nonneg}
use Rattle.floats.proofs.Tests.{cond_yes}
use Rattle.floats.proofs.Order.{le-self, le-le-trans, le_lt_trans, lt-le-trans, lt→le, lt→not-le}
use Rattle.floats.proofs.Fractions.{nonneg-real, zero_at_most}
use Rattle.floats.proofs.Whole.{whole-value, whole-mono}
use Rattle.floats.proofs.Rounded.{div-rounds}
use Rattle.floats.proofs.Held.{held-above, held_below}
use Rattle.floats.proofs.Monotone.{div_mono}
use Rattle.floats.proofs.Constants.{zero_held, one-held, one-num, zero-lt-epsilon}
use Rattle.floats.proofs.Clamping.{clamp01-mono}
use Rattle.table.specs.Lookup.{last_of, target_of}
use Rattle.table.specs.Spots.{path_total, spotted, spot_at, spot_of}
use Rattle.table_order.specs.Stated.{F32Path}
use Rattle.table_order.proofs.Targets.{target-mono}
use Rattle.table_order.proofs.Ends.{target-of-zero, target-of-one}
use Rattle.table_order.proofs.Spots.{path-total-held}
use Rattle.table_order.proofs.Theorems.{path-starts, path-ends}
use Rattle.std.specs.Prelude.{Some}
use Rattle.path_stored.specs.Buffers.{Buffers}
use Rattle.path_place.specs.Places.{place_at, place_in, place_of}
use Rattle.path_place.proofs.AnyLookup.{F32Stored, path-held}
use Rattle.path_place.proofs.Demand3.{demand-3}
use Rattle.path_query.specs.Flights.{flown_of, flight_of}
use Rattle.path_query.proofs.Answering.{some-kinds}
use Rattle.station_lines.specs.Lines.{station_line}
use Rattle.station_sections.specs.Sections.{progress_of, station_of}
use Rattle.station_sections.specs.Ordered.{flown_by, OrderedStations, EnclosedStations}

-- ---- the progress of a station

module _ (n : ℕ) (least : 2 ≤ n) (most : n ≤ 1000) where
  abbrev last : Float
  last = of_int binary32 (pos (n - 1))

  whole-nonneg : (k : ℕ) → k < n → T (nonneg (of_int binary32 (pos k)))
  whole-nonneg k inside = (whole-value binary32 k (few k inside)).0
    where
      few : (k : ℕ) → k < n → k ≤ 16777216
      few k inside = omega arith

  last-nonneg : T (nonneg last)
  last-nonneg = whole-nonneg (n - 1) (omega arith)

  last-above : 0 < num last
  last-above = subst (λ (k : ℕ). 0 < k) (sym (sym (mul-one (num last)) ∙ (whole-value binary32 (n - 1) few).1)) (mul-pos some (den_pos last))
    where
      few : n - 1 ≤ 16777216
      few = omega arith

      some : 0 < n - 1
      some = omega arith

  pub progress-mono : (j k : ℕ) → j ≤ k → k < n → T (le (progress_of n j) (progress_of n k))
  unfolding progress_of
  progress-mono j k l inside =
      div_mono binary32 (of_int binary32 (pos j)) (of_int binary32 (pos k)) last last (whole-nonneg j (omega arith)) (whole-nonneg k inside) last-nonneg last-nonneg last-above last-above
      (whole-mono binary32 j k l) (le-self last (nonneg-real last last-nonneg))

  pub progress-first : T (le (progress_of n 0) zero_f)
  unfolding progress_of
  progress-first =
      held-above binary32 zero_f (div binary32 none last) (num none * den last) (num last * den none) zero_held (div-rounds binary32 none last (whole-nonneg 0 (omega arith)) last-nonneg last-above)
      (zero_at_most (num none * den last * den zero_f) (num zero_f * (num last * den none))
      (ap (λ (m : ℕ). m * den last * den zero_f) none-num ∙ ap (λ (m : ℕ). m * den zero_f) (zero-mul (den last)) ∙ zero-mul (den zero_f)))
    where
      none : Float
      none = of_int binary32 (pos 0)

      none-num : num none ≡ 0
      none-num = sym (mul-one (num none)) ∙ (whole-value binary32 0 (omega arith)).1 ∙ zero-mul (den none)

  pub progress-last : T (le one_f (progress_of n (n - 1)))
  unfolding progress_of
  progress-last =
      held_below binary32 one_f (div binary32 last last) size size one-held (div-rounds binary32 last last last-nonneg last-nonneg last-above)
      (le_of_eq (ap (λ (k : ℕ). k * size) one-num ∙ mul_comm (den one_f) size))
    where
      size : ℕ
      size = num last * den last

-- ---- the ends of a path, at any progress at or beyond them

module _ {lengths : List Float} (path : F32Path lengths) (long : T (lt epsilon_f (path_total lengths))) (p : Float) where
  abbrev total : Float
  total = path_total lengths

  abbrev target : Float
  target = target_of (path_total lengths) p

  far : spot_of lengths p ≡ spot_at lengths target
  unfolding spot_of
  far = cond_no (le total epsilon_f) _ _ (lt→not-le total epsilon_f long)

  pub spot-first : T (le p zero_f) → spot_of lengths p ≡ spotted 0 zero_f
  unfolding spot_at
  spot-first low =
      let held = path-total-held path in
      far ∙ cond_yes (le target zero_f) _ _ (le-le-trans target (target_of total zero_f) zero_f (target-mono total held p zero_f (clamp01-mono p zero_f low)) (target-of-zero total held))

  pub spot-last : T (le one_f p) → spot_of lengths p ≡ spotted (last_of lengths) one_f
  unfolding spot_at
  spot-last high =
      let held = path-total-held path in
      let whole : T (le total target) = le-le-trans total (target_of total one_f) target (target-of-one total held) (target-mono total held one_f p (clamp01-mono one_f p high)) in
      let above : T (lt zero_f target) = lt-le-trans zero_f total target (le_lt_trans zero_f epsilon_f total (lt→le zero_f epsilon_f zero-lt-epsilon) long) whole in
      far ∙ cond_no (le target zero_f) _ _ (lt→not-le target zero_f above) ∙ cond_yes (le total target) _ _ whole

-- ---- the stations

-- the line of a station, by its pair
station-line : (b : Buffers) (n k : ℕ) → 0 < length b.kinds → let pair = place_of b (progress_of n k) in
    let there = flown_by b n k pair in
    station_of b n k ≡ station_line k (Some pair.segment) there.position there.tangent
unfolding station_of flight_of flown_of place_in
station-line b n k some = rw (some-kinds some)

module _ {b : Buffers} (f : F32Stored b) (some : 0 < length b.kinds) (long : T (lt epsilon_f (path_total b.lengths))) where
  pub stations-ordered : (n : ℕ) → 2 ≤ n → n ≤ 1000 → OrderedStations b n
  unfolding place_in
  stations-ordered n least most =
      let path = path-held f some in
      let demand = demand-3 f some long in
      let first = progress_of n 0 in
      let last = progress_of n (n - 1) in
      record {
        pair = λ k. place_of b (progress_of n k);
        printed = λ k. station-line b n k some;
        order = λ j k l inside. demand.order (progress_of n j) (progress_of n k) (clamp01-mono (progress_of n j) (progress_of n k) (progress-mono n least most j k l inside));
        starts = ap (place_at b.kinds b.tables) (spot-first path long first (progress-first n least most) ∙ sym (path-starts path long)) ∙ demand.starts;
        ends = ap (place_at b.kinds b.tables) (spot-last path long last (progress-last n least most) ∙ sym (path-ends path)) ∙ demand.ends;
      }

  pub stations-enclosed : (n : ℕ) → 2 ≤ n → n ≤ 1000 → EnclosedStations b n
  unfolding stations-ordered place_in
  stations-enclosed n least most =
      let demand = demand-3 f some long in
      record {
        stations = stations-ordered n least most;
        enclosed = λ k. demand.enclosed (progress_of n k);
        swept = λ k. demand.swept (progress_of n k);
      }
