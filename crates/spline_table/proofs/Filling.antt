-- The second pass: the entries up to k stand at the start of the table, and past them what stood there. Assumes nothing.
use mathlib.Core.Path.{◌≡◌, refl, sym, ap, ◌∙◌, subst}
use mathlib.Core.List.{List, [], ◌∷◌, ◌++◌}
use Prim.Native.Nat.{ℕ, suc, ◌+◌, ◌≤◌, ◌<◌}
use native.Mathlib.Numerals.{add-one}
use native.Mathlib.Omega.{arith}
use lib.ListN.{length, set, take, length-take}
use lib.Seq.{take-suc, take_all}
use lib.Ieee.{Float, nan}
use Rattle.floats.specs.Floats.{zero_f}
use Rattle.math.specs.declared.points.Point.{Point}
use Rattle.answers.specs.Report.{written}
use Rattle.answers.proofs.Writing.{written_next, length-written}
use Rattle.table.specs.Lookup.{at}
use Rattle.table_samples.specs.Samples.{lengths_of}
use Rattle.table_samples.proofs.Made.{made-count}
use Rattle.spline_table.specs.Rows.{walk_of, Walking, Entered}
use Rattle.spline_table.specs.declared.rows.Walk.{Walk}

pub record Filling (formula : Float → Point) (n : ℕ) (before table : List Float) (previous : Point) (total : Float) (k : ℕ) : Type 0 where
  pub walking : Walking formula n (walk_of previous total) k
  pub room : n < length before
  pub filled : table ≡ written (take k (lengths_of formula n)) before

-- one entry more, of any list of them
pub more-written : (xs before : List Float) (k : ℕ) → k < length xs → k < length before → set (written (take k xs) before) k (at xs k) ≡ written (take (suc k) xs) before
more-written xs before k inside room =
    let counted : length (take k xs) ≡ k = simp length-take (omega arith) in
    let stored : set (written (take k xs) before) (length (take k xs)) (at xs k) ≡ written (take k xs ++ (at xs k ∷ [])) before = written_next (take k xs) before (at xs k) (subst (λ (m : ℕ). m < length before) (sym counted) room) in
    subst (λ (m : ℕ). set (written (take k xs) before) m (at xs k) ≡ written (take (suc k) xs) before) counted
    (stored ∙ ap (λ (ys : List Float). written ys before) (sym (take-suc xs k nan inside)))

module _ {formula : Float → Point} {n : ℕ} {before : List Float} where
  pub filling-start : {previous : Point} → Walking formula n (walk_of previous zero_f) 0 → n < length before → Filling formula n before before previous zero_f 0
  filling-start w room = record { walking = w; room = room; filled = refl }

  -- the running length at k is stored
  pub filled_next : {table : List Float} {previous : Point} {total : Float} {k : ℕ} → Filling formula n before table previous total k → set table k total ≡ written (take (suc k) (lengths_of formula n)) before
  filled_next {table} {previous} {total} {k} f =
      let u = f.walking.upto in
      let r = f.room in
      let s : total ≡ at (lengths_of formula n) k = f.walking.sum in
      ap (λ (xs : List Float). set xs k total) f.filled ∙ ap (set (written (take k (lengths_of formula n)) before) k) s
      ∙ more-written (lengths_of formula n) before k (omega (arith, made-count formula n)) (omega arith)

  pub filling-more : {table : List Float} {previous current : Point} {total sum : Float} {k : ℕ}
      → Filling formula n before table previous total k → Walking formula n (walk_of current sum) (k + 1)
      → Filling formula n before (set table k total) current sum (k + 1)
  filling-more {k = k} f w =
      record { walking = w; room = f.room; filled = filled_next f ∙ ap (λ (m : ℕ). written (take m (lengths_of formula n)) before) (sym (add-one k)) }

  -- a whole row is stored
  pub filling-row : {table after : List Float} {previous : Point} {total : Float} {walk : Walk} {k : ℕ}
      → Filling formula n before table previous total k → Walking formula n walk (k + 16) → Entered (lengths_of formula n) before (k + 16) after
      → Filling formula n before after walk.previous walk.total (k + 16)
  filling-row f w e = record { walking = w; room = f.room; filled = e }

  pub filling-length : {table : List Float} {previous : Point} {total : Float} {k : ℕ} → Filling formula n before table previous total k → length table ≡ length before
  filling-length {table} {previous} {total} {k} f =
      let u = f.walking.upto in
      let r = f.room in
      ap length f.filled ∙ length-written (take k (lengths_of formula n)) before (simp length-take (omega (arith, made-count formula n)))

  pub filling-done : {table : List Float} {previous : Point} {total : Float} {k : ℕ} → Filling formula n before table previous total k → n ≤ k → set table k total ≡ written (lengths_of formula n) before
  filling-done {table} {previous} {total} {k} f h =
      filled_next f ∙ ap (λ (xs : List Float). written xs before) (take_all (suc k) (lengths_of formula n) (omega (arith, made-count formula n)))
