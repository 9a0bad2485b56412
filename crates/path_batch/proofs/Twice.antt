-- A place of an output that is filled twice: past what is written all is as it was, and the second filling is what is left. Assumes nothing.
use mathlib.Core.Path.{◌≡◌, sym, ap, ◌∙◌}
use Prim.Native.Nat.{ℕ, ◌≤◌}
use native.Mathlib.Nat.{add-zero}
use mathlib.Core.List.{List, ◌++◌}
use lib.ListN.{length, get_or, take, drop}
use lib.Seq.{length-take-le, take_all, get_or-append-add, get_or-drop, drop_at}
use lib.Ieee.{Float}
use Rattle.answers.specs.Report.{written}
use Rattle.path_batch.specs.Batches.{each}
use Rattle.path_batch.proofs.Filling.{each-length}

module _ {A : Type 0} (f : Float → A) (d : A) where
  pub each-past : (ps : List Float) (before : List A) (k : ℕ) → k ≤ length ps → get_or (written (each f (take k ps)) before) k d ≡ get_or before k d
  each-past ps before k inside =
      let n = each-length f (take k ps) ∙ length-take-le k ps inside in
      let E = each f (take k ps) in
      ap (λ (i : ℕ). get_or (written E before) i d) (sym n ∙ sym (add-zero (length E)))
      ∙ get_or-append-add E (drop (length E) before) 0 d
      ∙ get_or-drop (length E) before 0 d
      ∙ ap (λ (i : ℕ). get_or before i d) (add-zero (length E) ∙ n)

-- the second filling is what is left
each_again : {A : Type 0} (f g : Float → A) (ps : List Float) (before : List A) → written (each g ps) (written (each f ps) before) ≡ written (each g ps) before
each_again {A} f g ps before =
    let same = each-length f ps ∙ sym (each-length g ps) in
    ap (λ (l : List A). each g ps ++ l) (drop_at (each f ps) (drop (length (each f ps)) before) (length (each g ps)) same ∙ ap (λ (i : ℕ). drop i before) same)

-- filled whole, over what was filled before
pub each_left : {A : Type 0} (f g : Float → A) (ps : List Float) (k : ℕ) (before : List A) {between out : List A} → out ≡ written (each g (take k ps)) between → between ≡ written (each f ps) before
    → length ps ≤ k → out ≡ written (each g ps) before
each_left {A} f g ps k before {between} p q all =
    p ∙ ap (λ (l : List Float). written (each g l) between) (take_all k ps all) ∙ ap (λ (l : List A). written (each g ps) l) q ∙ each_again f g ps before
