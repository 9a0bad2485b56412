-- The equations of `Answers` settle what building answers and all five buffers. Assumes nothing.
use Prim.Native.Nat.{ℕ}
use mathlib.Core.Path.{◌≡◌, sym, ap, ◌∙◌}
use mathlib.Core.List.{List, [], ◌∷◌}
use Rattle.std.specs.Prelude.{Result, Ok, Err}
use Rattle.answers.specs.declared.refusals.Refusal.{Refusal}
use Rattle.answers.proofs.Settled.{refused-settled, refused-not-accepted}
use Rattle.path_stored.specs.Buffers.{Buffers}
use Rattle.path_drawing.specs.Building.{Built}
use Rattle.path_storing.specs.declared.sites.Sizes.{Sizes}
use Rattle.path_build.specs.Answers.{answer_of, Answers}
use Rattle.path_build.specs.Lists.{StoredList}
use Rattle.path_build.specs.Paths.{BuildPath}

same-sizes : {s t : Sizes} → s.segments ≡ t.segments → s.fields ≡ t.fields → s.tables ≡ t.tables → s ≡ t
same-sizes {s} {t} x y z = ap (λ n. record s { segments = n }) x ∙ ap (λ n. record { segments = t.segments; fields = n; tables = s.tables }) y ∙ ap (λ n. record t { tables = n }) z

counts-settled : (s t : Sizes) → s.segments ∷ s.fields ∷ s.tables ∷ s.segments ∷ s.segments ∷ [] ≡ t.segments ∷ t.fields ∷ t.tables ∷ t.segments ∷ t.segments ∷ [] → s ≡ t
counts-settled s t p =
    let x : s.segments ≡ t.segments = cc in
    let y : s.fields ≡ t.fields = cc in
    let z : s.tables ≡ t.tables = cc in
    same-sizes x y z

alike : (r s : Result Sizes Refusal) → answer_of r ≡ answer_of s → r ≡ s
alike (Ok s) (Ok t) p = ap Ok (counts-settled s t (ap (λ x. x.values) p))
alike (Ok s) (Err y) p = absurd (refused-not-accepted y (s.segments ∷ s.fields ∷ s.tables ∷ s.segments ∷ s.segments ∷ []) (sym p))
alike (Err x) (Ok t) p = absurd (refused-not-accepted x (t.segments ∷ t.fields ∷ t.tables ∷ t.segments ∷ t.segments ∷ []) p)
alike (Err x) (Err y) p = ap Err (refused-settled x y p)

pub answers-unique : {built : Built} {drawers : List ℕ} {b : Buffers} {r s : Result Sizes Refusal} {b₁ b₂ : Buffers} → Answers built drawers b r b₁ → Answers built drawers b s b₂ → (r ≡ s) × (b₁ ≡ b₂)
answers-unique {built} {drawers} {b} {r} {s} p q = (alike r s (p.answer ∙ sym q.answer), p.after ∙ sym q.after)

pub build-path-unique : (list : StoredList) {b : Buffers} {r s : Result Sizes Refusal} {b₁ b₂ : Buffers} → BuildPath list b r b₁ → BuildPath list b s b₂ → (r ≡ s) × (b₁ ≡ b₂)
build-path-unique list = answers-unique
