-- A copy that goes on one number at a time: what stands in the output after k of them, and at the end. Assumes nothing.
use Prim.Native.Nat.{ℕ, ◌+◌, ◌≤◌, ◌<◌}
use mathlib.Core.Path.{◌≡◌, refl, ap, sym, ◌∙◌}
use mathlib.Core.List.{List, ◌++◌}
use native.Mathlib.Nat.{zero-add}
use native.Mathlib.Numerals.{add-one}
use native.Mathlib.Omega.{arith}
use lib.ListN.{length, get_or, set, drop}
use lib.Seq.{paste, paste-zero, paste-suc, length-paste, take_all}
use Rattle.answers.specs.Report.{written}

module _ {A : Type 0} where
  -- the first k numbers are in, and past them stands what stood there
  pub record Copied (numbers before out : List A) (k : ℕ) : Type 0 where
    pub room : length numbers ≤ length before
    pub within : k ≤ length numbers
    pub is : out ≡ paste before 0 numbers k
    pub size : length out ≡ length before

  pub copied-start : {numbers before : List A} → length numbers ≤ length before → Copied numbers before before 0
  copied-start {numbers} {before} room = record { room = room; within = omega arith; is = paste-zero before 0 numbers; size = refl }

  pub copied_more :
      {numbers before out : List A} {k : ℕ} (d v : A)
      → Copied numbers before out k
      → k < length numbers
      → v ≡ get_or numbers k d
      → Copied numbers before (set out k v) (k + 1)
  copied_more {numbers} {before} {out} {k} d v copied more own =
      let room = copied.room in
      let next : set out k v ≡ paste before 0 numbers (k + 1) =
      ap (λ (l : List A). set l k v) copied.is
      ∙ ap (λ (w : A). set (paste before 0 numbers k) k w) own
      ∙ ap (λ (i : ℕ). set (paste before 0 numbers k) i (get_or numbers k d)) (sym (zero-add k))
      ∙ paste-suc before 0 numbers k d (omega (arith, zero-add k)) more
      ∙ ap (paste before 0 numbers) (sym (add-one k)) in
      record { room = room; within = omega arith; is = next; size = ap length next ∙ length-paste before 0 numbers (k + 1) (omega arith) (omega arith) }

  pub copied-done : {numbers before out : List A} {k : ℕ} → Copied numbers before out k → length numbers ≤ k → out ≡ written numbers before
  copied-done {numbers} {before} {out} {k} copied end =
      let all : k ≡ length numbers = omega (arith, copied.within) in
      copied.is
      ∙ ap (λ (i : ℕ). paste before 0 numbers i) all
      ∙ ap (λ (l : List A). l ++ drop (0 + length numbers) before) (take_all (length numbers) numbers (omega arith))
      ∙ ap (λ (i : ℕ). numbers ++ drop i before) (zero-add (length numbers))
