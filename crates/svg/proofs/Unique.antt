-- The equations of `ReadPath` settle the reader's answer and its buffers. Assumes nothing.
use Prim.Native.Nat.{ℕ}
use mathlib.Core.Path.{◌≡◌, sym, ap, ◌∙◌}
use mathlib.Core.List.{List, [], ◌∷◌}
use Rattle.std.specs.Prelude.{Result, Ok, Err}
use Rattle.answers.specs.declared.refusals.Refusal.{Refusal}
use Rattle.answers.proofs.Settled.{refused-settled, refused-not-accepted}
use Rattle.svg.specs.Lists.{CommandList}
use Rattle.svg.specs.Texts.{counts_at}
use Rattle.svg.specs.Readings.{answer_of, ReadPath}
use Rattle.svg.specs.declared.passes.Counts.{Counts}

same-counts : (r s : Counts) → r.letters ∷ r.numbers ∷ r.letters ∷ [] ≡ s.letters ∷ s.numbers ∷ s.letters ∷ [] → r ≡ s
same-counts r s e =
    let f : r.letters ≡ s.letters = cc in
    let g : r.numbers ≡ s.numbers = cc in
    ap (λ n. counts_at n r.numbers) f ∙ ap (counts_at s.letters) g

alike : (r s : Result Counts Refusal) → answer_of r ≡ answer_of s → r ≡ s
alike (Ok x) (Ok y) e = ap Ok (same-counts x y (ap (λ answer. answer.values) e))
alike (Ok x) (Err y) e = absurd (refused-not-accepted y (x.letters ∷ x.numbers ∷ x.letters ∷ []) (sym e))
alike (Err x) (Ok y) e = absurd (refused-not-accepted x (y.letters ∷ y.numbers ∷ y.letters ∷ []) e)
alike (Err x) (Err y) e = ap Err (refused-settled x y e)

pub read-path-unique :
    (text : List ℕ) (before : CommandList) (r s : Result Counts Refusal) (l₁ l₂ : CommandList)
    → ReadPath text before r l₁ → ReadPath text before s l₂ → (r ≡ s) × (l₁ ≡ l₂)
read-path-unique text before r s l₁ l₂ p q = (alike r s (p.answer ∙ sym q.answer), p.memory ∙ sym q.memory)
