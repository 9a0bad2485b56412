-- Points written one after the other: one more point at its two places writes one more row. Assumes nothing.
use mathlib.Core.Path.{◌≡◌, refl, sym, ap, ◌∙◌}
use Prim.Native.Nat.{ℕ, zero, suc, ◌+◌, ◌-◌, ◌*◌, ◌≤◌}
use native.Mathlib.Numerals.{add-one}
use native.Mathlib.Omega.{arith}
use mathlib.Core.List.{List, ◌++◌}
use lib.ListN.{length, drop, length-append}
use lib.Seq.{sets, drop-append-add, drop-drop}
use lib.Ieee.{Float}
use Rattle.answers.specs.Report.{written}
use Rattle.answers.proofs.Writing.{written-more, length-written}
use Rattle.math.specs.declared.points.Point.{Point}
use Rattle.polyline.specs.Points.{two_of, rows_of}

pub rows-length : (point : ℕ → Point) (k : ℕ) → length (rows_of point k) ≡ 2 * k
unfolding rows_of
rows-length point zero = refl
rows-length point (suc k) = length-append (rows_of point k) (two_of (point k)) ∙ (let e = rows-length point k in omega arith)

pub rows_none : (point : ℕ → Point) (before : List Float) → before ≡ written (rows_of point 0) before
unfolding rows_of
rows_none point before = refl

module _ (point : ℕ → Point) (before : List Float) where
  -- one more row
  pub rows_more :
      (k : ℕ) (now after : List Float) (p : Point) → 2 * k + 2 ≤ length before → now ≡ written (rows_of point k) before → p ≡ point k → after ≡ sets now (2 * k) (two_of p)
      → after ≡ written (rows_of point (k + 1)) before
  unfolding rows_of
  rows_more k now after p room e f g =
      let n = rows-length point k in
      g ∙ ap (λ (l : List Float). sets l (2 * k) (two_of p)) e ∙ ap (λ (q : Point). sets (written (rows_of point k) before) (2 * k) (two_of q)) f
      ∙ ap (λ (i : ℕ). sets (written (rows_of point k) before) i (two_of (point k))) (sym n)
      ∙ written-more (rows_of point k) (two_of (point k)) before (omega arith)
      ∙ ap (λ (i : ℕ). written (rows_of point i) before) (sym (add-one k))

  -- what is written so far has the output's length
  pub rows-size : (k : ℕ) (now : List Float) → 2 * k ≤ length before → now ≡ written (rows_of point k) before → length now ≡ length before
  rows-size k now room e = ap length e ∙ length-written (rows_of point k) before (let n = rows-length point k in omega arith)

  -- all of them
  pub rows_all : (k n : ℕ) (now : List Float) → k ≤ n → n ≤ k → now ≡ written (rows_of point k) before → now ≡ written (rows_of point n) before
  rows_all k n now h g e = e ∙ ap (λ (i : ℕ). written (rows_of point i) before) (let f : k ≡ n = omega arith in f)

-- what is written over a shorter run hides it
pub written_over : (elements fewer before : List Float) → length fewer ≤ length elements → written elements (written fewer before) ≡ written elements before
written_over elements fewer before h =
    let n = length elements in
    let m = length fewer in
    let e : n ≡ m + (n - m) = omega arith in
    ap (λ (l : List Float). elements ++ l)
    (ap (λ (i : ℕ). drop i (fewer ++ drop m before)) e ∙ drop-append-add fewer (drop m before) (n - m) ∙ drop-drop (n - m) m before ∙ ap (λ (i : ℕ). drop i before) (sym e))
