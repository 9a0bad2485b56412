-- The outputs of a batch, filled progress by progress, and the cursor that is kept from one to the next. Assumes nothing.
use mathlib.Core.Path.{◌≡◌, refl, sym, ap, ap₂, ◌∙◌}
use Prim.Native.Nat.{ℕ, zero, suc, ◌+◌, ◌*◌, ◌≤◌, ◌<◌}
use native.Mathlib.Numerals.{add-one}
use native.Mathlib.Omega.{arith}
use mathlib.Core.List.{List, [], ◌∷◌, ◌++◌}
use lib.ListN.{length, get_or, take, set, replicate}
use lib.Seq.{sets, length-take-le}
use lib.Ieee.{Float, nan}
use Rattle.answers.specs.Report.{written}
use Rattle.answers.proofs.Writing.{written_next, written-more, length-written}
use Rattle.floats.specs.Floats.{zero_f}
use Rattle.math.specs.Math.{origin_f}
use Rattle.flight.specs.declared.Flight.{Flight}
use Rattle.flight.specs.Flights.{no_segment, segment_given}
use Rattle.table.specs.declared.tables.Spot.{Spot}
use Rattle.table.specs.Spots.{spot_of}
use Rattle.path_stored.specs.Buffers.{Buffers}
use Rattle.path_place.specs.declared.cursors.Cursor.{Cursor}
use Rattle.path_place.specs.declared.places.Place.{Place}
use Rattle.path_place.specs.Cursors.{cursor_of, Moving}
use Rattle.path_place.specs.Places.{place_in, place_of}
use Rattle.path_place.proofs.Standing.{cursor-own, spot-among}
use Rattle.path_marks.specs.Marks.{Leap}
use Rattle.path_query.specs.Flights.{flown_of, flight_of, Flyable}
use Rattle.path_query.proofs.Answering.{flight-some, flight-none}
use Rattle.path_query.proofs.Seats.{some-place}
use Rattle.path_batch.specs.Batches.{each, found_for, segments_for, raws_for, numbers_of, numbers_for}

-- ---- the cursor between two progresses

-- so many are looked up, and the cursor stands at a segment of the path
pub record Looking (kinds : List ℕ) (progresses : List Float) (at : Cursor) (k : ℕ) : Type 0 where
  pub upto : k ≤ length progresses
  pub is : at ≡ cursor_of kinds at.segment
  pub inside : at.segment < length kinds

pub looking-first : {kinds : List ℕ} {progresses : List Float} {at : Cursor} → at ≡ cursor_of kinds 0 → 0 < length kinds → Looking kinds progresses at 0
looking-first {kinds} e some = let own = cursor-own kinds 0 e in record { upto = omega arith; is = own.1; inside = omega arith }

pub looking-next : {kinds : List ℕ} {progresses : List Float} {k : ℕ} (at : Cursor) (i : ℕ) → at ≡ cursor_of kinds i → i < length kinds → k < length progresses → Looking kinds progresses at (k + 1)
looking-next {kinds} at i e inside more = let own = cursor-own kinds i e in record { upto = omega arith; is = own.1; inside = omega arith }

module _ {b : Buffers} {progresses : List Float} {at : Cursor} {k : ℕ} (f : Flyable b) (l : Looking b.kinds progresses at k) (p : Float) {segment : ℕ}
    (is : segment ≡ (spot_of b.lengths p).segment) where
  -- the spot's segment is one of the path's
  pub among : segment < length b.kinds
  among = rw is (spot-among (some-place f) p)

  pub looking-moves : Moving b.kinds at segment
  looking-moves = let h = among in let few = f.path.few in let stood = l.inside in record { few = few; is = l.is; stood = omega arith; inside = omega arith }

  pub looking-leaps : Leap b.kinds at segment
  looking-leaps = record { move = looking-moves; inside = among }

-- ---- one element for each progress

module _ {A : Type 0} (f : Float → A) where
  pub each-length : (ps : List Float) → length (each f ps) ≡ length ps
  unfolding each
  each-length [] = refl
  each-length (p ∷ ps) = ap suc (each-length ps)

  each-suc : (ps : List Float) (k : ℕ) → k < length ps → each f (take (suc k) ps) ≡ each f (take k ps) ++ f (get_or ps k nan) ∷ []
  unfolding each
  each-suc [] k inside = absurd (omega arith)
  each-suc (p ∷ ps) zero inside = refl
  each-suc (p ∷ ps) (suc k) inside = ap (λ (rest : List A). f p ∷ rest) (each-suc ps k (omega arith))

  taken-length : (ps : List Float) (k : ℕ) → k ≤ length ps → length (each f (take k ps)) ≡ k
  taken-length ps k inside = each-length (take k ps) ∙ length-take-le k ps inside

  pub each-size : (ps : List Float) (before : List A) (k : ℕ) → k ≤ length ps → length ps ≤ length before → length (written (each f (take k ps)) before) ≡ length before
  each-size ps before k inside room = let n = taken-length ps k inside in length-written (each f (take k ps)) before (omega arith)

  -- one more is stored
  pub each_next : (ps : List Float) (before out : List A) (k : ℕ) (v : A) → k < length ps → length ps ≤ length before → out ≡ written (each f (take k ps)) before → v ≡ f (get_or ps k nan)
      → set out k v ≡ written (each f (take (k + 1) ps)) before
  each_next ps before out k v inside room e value =
      let upto : k ≤ length ps = omega arith in
      let n = taken-length ps k upto in
      let more : length (each f (take k ps)) < length before = omega arith in
      ap (λ (l : List A). set l k v) e
      ∙ ap (λ (i : ℕ). set (written (each f (take k ps)) before) i v) (sym n)
      ∙ written_next (each f (take k ps)) before v more
      ∙ ap (λ (l : List A). written l before) (ap (λ (x : A). each f (take k ps) ++ x ∷ []) value ∙ sym (each-suc ps k inside) ∙ ap (λ (i : ℕ). each f (take i ps)) (sym (add-one k)))

-- ---- a place of an output

-- what is written for a progress stands in its turn, whatever follows
pub each_at : {A : Type 0} (f : Float → A) (d : A) (rest : List A) (ps : List Float) (k : ℕ) → k < length ps → get_or (each f ps ++ rest) k d ≡ f (get_or ps k nan)
unfolding each
each_at f d rest [] k inside = absurd (omega arith)
each_at f d rest (p ∷ ps) zero inside = refl
each_at f d rest (p ∷ ps) (suc k) inside = each_at f d rest ps k (omega arith)

-- the segment that was found for a progress
pub segment-found : (lengths progresses : List Float) (before segments : List ℕ) (k : ℕ) {segment : ℕ} → k < length progresses → segments ≡ written (found_for lengths progresses) before
    → segment ≡ get_or segments k 0 → segment ≡ (spot_of lengths (get_or progresses k nan)).segment
segment-found lengths progresses before segments k more found e =
    e ∙ ap (λ (xs : List ℕ). get_or xs k 0) found ∙ each_at (λ p. (spot_of lengths p).segment) 0 _ progresses k more

pub each-filled : {A : Type 0} (f : Float → A) (ps : List Float) (before : List A) → length ps ≤ length before → length (written (each f ps) before) ≡ length before
each-filled f ps before room = let n = each-length f ps in length-written (each f ps) before (omega arith)

pub each-equal : {A : Type 0} (f g : Float → A) → ((p : Float) → f p ≡ g p) → (ps : List Float) → each f ps ≡ each g ps
unfolding each
each-equal f g same [] = refl
each-equal {A} f g same (p ∷ ps) = ap₂ (λ (x : A) (rest : List A). x ∷ rest) (same p) (each-equal f g same ps)

-- ---- four numbers for each progress

-- four numbers stored one after the other
pub put_four : (l : List Float) (at : ℕ) (a b c d : Float) → set (set (set (set l at a) (at + 1) b) (at + 2) c) (at + 3) d ≡ sets l at (a ∷ b ∷ c ∷ d ∷ [])
put_four l at a b c d =
    let one : at + 1 ≡ suc at = omega arith in
    let two : at + 2 ≡ suc (suc at) = omega arith in
    let three : at + 3 ≡ suc (suc (suc at)) = omega arith in
    rw (one, two, three)

module _ (b : Buffers) where
  numbers-suc : (ps : List Float) (k : ℕ) → k < length ps → numbers_for b (take (suc k) ps) ≡ numbers_for b (take k ps) ++ numbers_of (flight_of b (get_or ps k nan))
  unfolding numbers_for
  numbers-suc [] k inside = absurd (omega arith)
  numbers-suc (p ∷ ps) zero inside = refl
  numbers-suc (p ∷ ps) (suc k) inside = ap (λ (rest : List Float). numbers_of (flight_of b p) ++ rest) (numbers-suc ps k (omega arith))

  numbers-length : (ps : List Float) → length (numbers_for b ps) ≡ 4 * length ps
  unfolding numbers_for
  numbers-length [] = refl
  numbers-length (p ∷ ps) = let h = numbers-length ps in omega arith

  numbers-taken : (ps : List Float) (k : ℕ) → k ≤ length ps → length (numbers_for b (take k ps)) ≡ 4 * k
  numbers-taken ps k inside = numbers-length (take k ps) ∙ ap (λ (n : ℕ). 4 * n) (length-take-le k ps inside)

  pub numbers-size : (ps before : List Float) (k : ℕ) → k ≤ length ps → 4 * length ps ≤ length before → length (written (numbers_for b (take k ps)) before) ≡ length before
  numbers-size ps before k inside room = let n = numbers-taken ps k inside in length-written (numbers_for b (take k ps)) before (omega arith)

  pub numbers-next : (ps before out : List Float) (k : ℕ) (vs : List Float) → k < length ps → 4 * length ps ≤ length before → out ≡ written (numbers_for b (take k ps)) before
      → vs ≡ numbers_of (flight_of b (get_or ps k nan)) → sets out (4 * k) vs ≡ written (numbers_for b (take (k + 1) ps)) before
  numbers-next ps before out k vs inside room e values =
      let upto : k ≤ length ps = omega arith in
      let n = numbers-taken ps k upto in
      let w = numbers_of (flight_of b (get_or ps k nan)) in
      let more : length (numbers_for b (take k ps)) + length w ≤ length before = omega arith in
      ap (λ (l : List Float). sets l (4 * k) vs) e
      ∙ ap (λ (i : ℕ). sets (written (numbers_for b (take k ps)) before) i vs) (sym n)
      ∙ ap (λ (v : List Float). sets (written (numbers_for b (take k ps)) before) (length (numbers_for b (take k ps))) v) values
      ∙ written-more (numbers_for b (take k ps)) w before more
      ∙ ap (λ (l : List Float). written l before) (sym (numbers-suc ps k inside) ∙ ap (λ (i : ℕ). numbers_for b (take i ps)) (sym (add-one k)))

-- ---- one value so many times

module _ {A : Type 0} (v : A) where
  same-suc : (k : ℕ) → replicate k v ++ v ∷ [] ≡ replicate (suc k) v
  same-suc zero = refl
  same-suc (suc k) = ap (λ (rest : List A). v ∷ rest) (same-suc k)

  same_length : (k : ℕ) → length (replicate k v) ≡ k
  same_length zero = refl
  same_length (suc k) = ap suc (same_length k)

  pub same_size : (before : List A) (k : ℕ) → k ≤ length before → length (written (replicate k v) before) ≡ length before
  same_size before k room = let n = same_length k in length-written (replicate k v) before (omega arith)

  pub same_next : (before out : List A) (k : ℕ) → k < length before → out ≡ written (replicate k v) before → set out k v ≡ written (replicate (k + 1) v) before
  same_next before out k room e =
      let n = same_length k in
      let more : length (replicate k v) < length before = omega arith in
      ap (λ (l : List A). set l k v) e
      ∙ ap (λ (i : ℕ). set (written (replicate k v) before) i v) (sym n)
      ∙ written_next (replicate k v) before v more
      ∙ ap (λ (l : List A). written l before) (same-suc k ∙ ap (λ (i : ℕ). replicate i v) (sym (add-one k)))

  pub each_same : (f : Float → A) → ((p : Float) → v ≡ f p) → (ps : List Float) → replicate (length ps) v ≡ each f ps
  unfolding each
  each_same f all [] = refl
  each_same f all (p ∷ ps) = ap (λ (x : A). x ∷ replicate (length ps) v) (all p) ∙ ap (λ (rest : List A). f p ∷ rest) (each_same f all ps)

-- ---- a path without segments

module _ (b : Buffers) (none : length b.kinds ≡ 0) where
  pub segments-none : (ps : List Float) → replicate (length ps) no_segment ≡ segments_for b ps
  segments-none = each_same no_segment (λ p. segment_given (flight_of b p).segment) (λ p. ap (λ (flight : Flight). segment_given flight.segment) (flight-none b p none))

  pub raws-none : (ps : List Float) → replicate (length ps) zero_f ≡ raws_for b ps
  raws-none = each_same zero_f (λ p. (flight_of b p).raw.value) (λ p. ap (λ (flight : Flight). flight.raw.value) (flight-none b p none))

  pub numbers-none : (ps : List Float) → replicate (4 * length ps) zero_f ≡ numbers_for b ps
  unfolding numbers_for origin_f
  numbers-none [] = refl
  numbers-none (p ∷ ps) =
      let four : 4 * suc (length ps) ≡ suc (suc (suc (suc (4 * length ps)))) = omega arith in
      rw (four, ← flight-none b p none) (ap (λ (rest : List Float). zero_f ∷ zero_f ∷ zero_f ∷ zero_f ∷ rest) (numbers-none ps))

-- ---- a path with a segment

module _ (b : Buffers) (p : Float) (some : 0 < length b.kinds) where
  pub segment-there : {spot : Spot} → spot ≡ spot_of b.lengths p → spot.segment ≡ segment_given (flight_of b p).segment
  unfolding flown_of place_in
  segment-there e = ap (λ (spot : Spot). spot.segment) e ∙ ap (λ (flight : Flight). segment_given flight.segment) (flight-some b p some)

  pub raw-there : {pair : Place} → pair ≡ place_of b p → pair.raw.value ≡ (flight_of b p).raw.value
  unfolding flown_of
  raw-there e = ap (λ (pair : Place). pair.raw.value) e ∙ ap (λ (flight : Flight). flight.raw.value) (flight-some b p some)
