-- The equations of `BuildFromText` settle what building from a text answers and all five buffers. Assumes nothing.
use Prim.Native.Nat.{ℕ}
use mathlib.Core.Path.{◌≡◌}
use mathlib.Core.List.{List}
use Rattle.std.specs.Prelude.{Result}
use Rattle.answers.specs.declared.refusals.Refusal.{Refusal}
use Rattle.path_stored.specs.Buffers.{Buffers}
use Rattle.path_storing.specs.declared.sites.Sizes.{Sizes}
use Rattle.path_build.proofs.Unique.{answers-unique}
use Rattle.path_text.specs.Builds.{BuildFromText}

pub build-from-text-unique : (text : List ℕ) {b : Buffers} {r s : Result Sizes Refusal} {b₁ b₂ : Buffers} → BuildFromText text b r b₁ → BuildFromText text b s b₂ → (r ≡ s) × (b₁ ≡ b₂)
build-from-text-unique text = answers-unique
