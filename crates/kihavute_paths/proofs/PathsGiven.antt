-- What building a path gives, by the cases of its answer and of the lent answer's length. Assumes nothing.
use Prim.Native.Nat.{ℕ, ◌≤◌, ◌<◌}
use mathlib.Core.Path.{◌≡◌, refl, sym, ap, ◌∙◌}
use mathlib.Core.List.{List, [], ◌∷◌}
use borrow.Author.Tests.{lt-ltb, le-ltb}
use lib.ListN.{length}
use Rattle.answers.specs.declared.refusals.Refusal.{Refusal}
use Rattle.answers.specs.Answers.{accepted, refused}
use Rattle.path_stored.specs.Buffers.{Buffers}
use Rattle.std.specs.Prelude.{Result}
use Rattle.path_drawing.specs.Building.{Built}
use Rattle.path_storing.specs.declared.sites.Sizes.{Sizes}
use Rattle.path_build.specs.Answers.{answer_of, Answers}
use Rattle.c_answer.specs.Given.{Given}
use Rattle.c_answer.proofs.Giving.{given-same}
use Rattle.kihavute_paths.specs.Paths.{PathBuilt}

module _ (built : Built) (drawers : List ℕ) (b : Buffers) (answer : List ℕ) where
  -- an answer that is too short: nothing is built
  pub not-built : length answer < 8 → PathBuilt built drawers b answer 255 b answer
  not-built h = let s = lt-ltb (length answer) 8 h in record { reported = record { code = rw s; places = rw s }; after = rw s }

  -- else the entry's own promise, reported
  pub built-reported : {b' : Buffers} {answer' : List ℕ} {returned : ℕ} (sizes : Result Sizes Refusal) → 8 ≤ length answer → Answers built drawers b sizes b'
      → Given (answer_of sizes) answer returned answer' → PathBuilt built drawers b answer returned b' answer'
  built-reported sizes h p g = record { reported = given-same _ _ p.answer g; after = rw (le-ltb (length answer) 8 h) p.after }

  -- any two allowed results are equal
  pub path-built-unique : (r s : ℕ) (b₁ b₂ : Buffers) (answer₁ answer₂ : List ℕ) → PathBuilt built drawers b answer r b₁ answer₁ → PathBuilt built drawers b answer s b₂ answer₂
      → (r ≡ s) × (b₁ ≡ b₂) × (answer₁ ≡ answer₂)
  path-built-unique r s b₁ b₂ answer₁ answer₂ p q = (p.reported.code ∙ sym q.reported.code, p.after ∙ sym q.after, p.reported.places ∙ sym q.reported.places)
