-- The passes' ladders are the definition's, at each rest. Assumes nothing.
use mathlib.Core.Path.{ap, ◌∙◌}
use Prim.Native.Nat.{ℕ}
use mathlib.Core.List.{List}
use lib.ListN.{get_or}
use Rattle.trig_rule.specs.Steps.{risen}
use Rattle.trig.specs.Ladders.{rungs_of}
use Rattle.trig_all.specs.Rows.{Row}

-- ---- a ladder: two rungs, and two above them
pub row-above : (a b c d e : ℕ) (v : List ℕ) {n : ℕ} {low row : List ℕ}
    → Row (λ (k : ℕ). risen c (get_or v k 0) (risen d (get_or v k 0) e)) n low → Row (λ (k : ℕ). risen a (get_or v k 0) (risen b (get_or v k 0) (get_or low k 0))) n row
    → Row (λ (k : ℕ). rungs_of a b c d e (get_or v k 0)) n row
row-above a b c d e v l r = record { size = r.size; each = λ k h. r.each k h ∙ ap (λ (z : ℕ). risen a (get_or v k 0) (risen b (get_or v k 0) z)) (l.each k h) }
