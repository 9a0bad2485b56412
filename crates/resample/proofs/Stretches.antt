-- The rows of evenly spaced points as the loop makes them: what is written so far, and a stretch that is not past the next target's. Assumes nothing.
use mathlib.Core.Path.{◌≡◌, refl, sym, ap, ◌∙◌, subst}
use Prim.Native.Nat.{ℕ, ◌+◌, ◌-◌, ◌*◌, ◌≤◌, ◌<◌, zero-le}
use native.Mathlib.Nat.{le_refl}
use native.Mathlib.Omega.{arith}
use mathlib.Core.List.{List}
use borrow.Author.Tests.{eq-eqb, ne_eqb}
use lib.Dec.{T}
use lib.ListN.{length}
use lib.Seq.{sets}
use lib.Ieee.{Float}
use lib.Ieee.Scale.{finite}
use Rattle.floats.specs.Floats.{zero_f}
use Rattle.floats.specs.Kinds.{nonneg}
use Rattle.answers.specs.Report.{written}
use Rattle.math.specs.declared.points.Point.{Point}
use Rattle.table.proofs.Lengths.{table-sound, total-nonneg}
use Rattle.polyline.specs.Points.{count_of, point_at, two_of, rows_of}
use Rattle.polyline.specs.Lengths.{lengths_of, total_of}
use Rattle.polyline.proofs.Legs.{lengths-first, lengths-sound}
use Rattle.polyline.proofs.Rows.{rows_none, rows_more, rows-size, rows-length, written_over}
use Rattle.resample.specs.Spacing.{target_at, pick_of, stretch_at, between_of, along_of, spread_at, Reached, Spread}
use Rattle.resample.specs.declared.walking.Stretch.{Stretch}
use Rattle.resample.proofs.Targets.{target-mono}
use Rattle.resample.proofs.Walk.{pick-inside, pick-mono}

pub record Spreading (points : List Float) (count : ℕ) (total : Float) (before now : List Float) (stretch : Stretch) (i : ℕ) : Type 0 where
  pub asked : Spread points count total (length before)
  pub rows : now ≡ written (rows_of (spread_at points total count) i) before
  pub here : stretch ≡ stretch_at points stretch.upper
  pub reach : stretch.upper ≤ pick_of points (target_at total (count - 1) i)

module _ (points : List Float) (count : ℕ) (total : Float) where
  abbrev row : ℕ → Point
  row i = spread_at points total count i

  room : (size : ℕ) → Spread points count total size → (i : ℕ) → i < count → 2 * i + 2 ≤ size
  room size s i h = let f = s.fits in omega arith

  total-above : (size : ℕ) → Spread points count total size → T (nonneg total)
  total-above size s =
      subst (λ (x : Float). T (nonneg x)) (sym s.sum)
      (total-nonneg (table-sound (lengths_of points) (total_of points) (lengths-sound points (subst (λ (x : Float). T (finite x)) s.sum s.fine))))

  -- ---- the three kinds of points
  first-point : point_at points 0 ≡ row 0
  unfolding spread_at
  first-point = refl

  inner-point : (i : ℕ) → 1 ≤ i → i < count - 1 → along_of points (target_at total (count - 1) i) ≡ row i
  unfolding spread_at
  inner-point i a b = rw (ne_eqb i 0 (λ z. omega arith), ne_eqb i (count - 1) (λ z. omega arith)) refl

  last-point : 2 ≤ count → point_at points (count_of points - 1) ≡ row (count - 1)
  unfolding spread_at
  last-point m = rw (ne_eqb (count - 1) 0 (λ z. omega arith), eq-eqb (count - 1) (count - 1) refl) refl

  -- ---- the first point is put before the loop
  module _ (before now : List Float) (p : Point) (s : Spread points count total (length before)) (e : p ≡ point_at points 0) (g : now ≡ sets before (2 * 0) (two_of p)) where
    one-row : now ≡ written (rows_of row (0 + 1)) before
    one-row = rows_more row before 0 before now p (room (length before) s 0 (let m = s.more in omega arith)) (rows_none row before) (e ∙ first-point) g

    one-long : length (rows_of row (0 + 1)) ≡ 2
    one-long = rows-length row (0 + 1)

    -- rows that are written over it hide it
    pub first-hidden : written (rows_of row count) now ≡ written (rows_of row count) before
    first-hidden =
        ap (written (rows_of row count)) one-row
        ∙ written_over (rows_of row count) (rows_of row (0 + 1)) before (let m = s.more in let a = one-long in let b = rows-length row count in omega arith)

    same_size : length now ≡ length before
    same_size = rows-size row before (0 + 1) now (let m = s.more in let f = s.fits in omega arith) one-row

    again : now ≡ written (rows_of row (0 + 1)) now
    again = one-row ∙ sym (written_over (rows_of row (0 + 1)) (rows_of row (0 + 1)) before (le_refl (length (rows_of row (0 + 1))))) ∙ ap (written (rows_of row (0 + 1))) (sym one-row)

    pub spreading-start : Spreading points count total now now (record { upper = 0; low = zero_f; high = zero_f }) 1
    unfolding stretch_at
    spreading-start =
        let m = s.more in
        record {
          asked = subst (Spread points count total) (sym same_size) s;
          rows = again;
          here = same (sym (lengths-first points));
          reach = zero-le;
        }
      where
        same : {x : Float} → zero_f ≡ x → ◌≡◌ {A = Stretch} (record { upper = 0; low = zero_f; high = zero_f }) (record { upper = 0; low = x; high = x })
        same p = cc

  -- ---- the loop
  module _
      (before now : List Float) (stretch : Stretch) (i : ℕ) (l : Spreading points count total before now stretch i) (from : 1 ≤ i)
      (upto : 1 ≤ count - 1 → i ≤ count - 1) where
    inside : i ≤ count - 1
    inside = let m = l.asked.more in upto (omega arith)

    pub spreading-reached : (t : Float) → t ≡ target_at total (count - 1) i → Reached points stretch t
    spreading-reached t e = record { some = let f = l.asked.two in omega arith; here = l.here; upto = subst (λ (x : Float). stretch.upper ≤ pick_of points x) (sym e) l.reach }

    pub spreading-more :
        (t : Float) (next : Stretch) (p : Point) (after : List Float) → i < count - 1 → t ≡ target_at total (count - 1) i → next ≡ stretch_at points (pick_of points t) → p ≡ between_of points next t
        → after ≡ sets now (2 * i) (two_of p) → Spreading points count total before after next (i + 1)
    unfolding along_of stretch_at
    spreading-more t next p after h e f g k =
        let u = inside in
        let m = l.asked.few in
        let made : p ≡ row i =
        g ∙ ap (λ (n : Stretch). between_of points n t) f ∙ ap (λ (x : Float). between_of points (stretch_at points (pick_of points x)) x) e ∙ inner-point i from h in
        let same : next.upper ≡ pick_of points t = ap (λ (n : Stretch). n.upper) f in
        record {
          asked = l.asked;
          rows = rows_more row before i now after p (room (length before) l.asked i (omega arith)) l.rows made k;
          here = f ∙ ap (stretch_at points) (sym same);
          reach =
              subst (λ (n : ℕ). n ≤ pick_of points (target_at total (count - 1) (i + 1))) (ap (pick_of points) (sym e) ∙ sym same)
              (pick-mono points (target_at total (count - 1) i) (target_at total (count - 1) (i + 1))
              (target-mono (count - 1) (omega arith) (omega arith) total i (i + 1) (total-above (length before) l.asked) (omega arith) (omega arith)));
        }

    pub spreading-done :
        (p : Point) (after : List Float) → count - 1 ≤ i → p ≡ point_at points (count_of points - 1) → after ≡ sets now (2 * (count - 1)) (two_of p)
        → after ≡ written (rows_of row count) before
    spreading-done p after h e k =
        let u = inside in
        let m = l.asked.more in
        let same : i ≡ count - 1 = omega arith in
        let whole : count - 1 + 1 ≡ count = omega arith in
        rows_more row before (count - 1) now after p (room (length before) l.asked (count - 1) (omega arith))
        (l.rows ∙ ap (λ (n : ℕ). written (rows_of row n) before) same) (e ∙ last-point m) k
        ∙ ap (λ (n : ℕ). written (rows_of row n) before) whole

-- the stretch that is picked ends at a point
pub pick-point : (points : List Float) (target : Float) (stretch : Stretch) → 0 < count_of points → stretch ≡ stretch_at points (pick_of points target) → stretch.upper < count_of points
unfolding stretch_at
pick-point points target stretch h e =
    let same : stretch.upper ≡ pick_of points target = ap (λ (n : Stretch). n.upper) e in
    let p = pick-inside points target in
    omega arith
