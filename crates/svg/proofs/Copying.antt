-- A copy that goes on one element at a time: what stands in the output after k of them, and at the end. Assumes nothing.
use Prim.Native.Nat.{ℕ, suc, ◌+◌, ◌≤◌, ◌<◌}
use mathlib.Core.Path.{◌≡◌, refl, ap, sym, ◌∙◌}
use mathlib.Core.List.{List, ◌++◌}
use native.Mathlib.Nat.{zero-add}
use native.Mathlib.Numerals.{add-one}
use native.Mathlib.Omega.{arith}
use lib.ListN.{length, get_or, set, take, drop}
use lib.Seq.{paste, paste-zero, paste-suc, length-paste, take_all}
use Rattle.answers.specs.Report.{written}

module _ {A : Type 0} where
  -- the first k elements are in, and past them stands what stood there
  pub record Copied (elements before out : List A) (k : ℕ) : Type 0 where
    pub room : length elements ≤ length before
    pub within : k ≤ length elements
    pub is : out ≡ paste before 0 elements k
    pub size : length out ≡ length before

  pub copied-start : {elements before : List A} → length elements ≤ length before → Copied elements before before 0
  copied-start {elements} {before} room = record { room = room; within = omega arith; is = paste-zero before 0 elements; size = refl }

  pub copied_more :
      {elements before out : List A} {k : ℕ} (d v : A)
      → Copied elements before out k
      → k < length elements
      → v ≡ get_or elements k d
      → Copied elements before (set out k v) (k + 1)
  copied_more {elements} {before} {out} {k} d v copied more own =
      let room = copied.room in
      let next : set out k v ≡ paste before 0 elements (k + 1) =
      ap (λ (l : List A). set l k v) copied.is
      ∙ ap (λ (w : A). set (paste before 0 elements k) k w) own
      ∙ ap (λ (i : ℕ). set (paste before 0 elements k) i (get_or elements k d)) (sym (zero-add k))
      ∙ paste-suc before 0 elements k d (omega (arith, zero-add k)) more
      ∙ ap (paste before 0 elements) (sym (add-one k)) in
      record { room = room; within = omega arith; is = next; size = ap length next ∙ length-paste before 0 elements (k + 1) (omega arith) (omega arith) }

  pub copied-done : {elements before out : List A} {k : ℕ} → Copied elements before out k → length elements ≤ k → out ≡ written elements before
  copied-done {elements} {before} {out} {k} copied end =
      let all : k ≡ length elements = omega (arith, copied.within) in
      copied.is
      ∙ ap (λ (i : ℕ). paste before 0 elements i) all
      ∙ ap (λ (l : List A). l ++ drop (0 + length elements) before) (take_all (length elements) elements (omega arith))
      ∙ ap (λ (i : ℕ). elements ++ drop i before) (zero-add (length elements))
