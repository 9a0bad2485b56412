-- What is read one after the other. Assumes nothing.
use mathlib.Core.Path.{◌≡◌, refl}
use Rattle.std.specs.Prelude.{Result, Ok, Err}
use Rattle.answers.specs.declared.refusals.Refusal.{Refusal}
use Rattle.svg_group.specs.Numbers.{and_then}

-- taken apart, with the equation of what was read first
pub then-elim :
    {A B : Type 0} (P : Result B Refusal → Type 0) (first : Result A Refusal) (go : A → Result B Refusal)
    → ((refusal : Refusal) → P (Err refusal)) → ((v : A) → first ≡ Ok v → P (go v)) → P (and_then first go)
then-elim P (Ok v) go f g = g v refl
then-elim P (Err refusal) go f g = f refusal

pub then-ok : {A : Type 0} (first : Result A Refusal) → and_then first Ok ≡ first
then-ok (Ok v) = refl
then-ok (Err refusal) = refl

pub then-then :
    {A B C : Type 0} (first : Result A Refusal) (f : A → Result B Refusal) (g : B → Result C Refusal)
    → and_then (and_then first f) g ≡ and_then first (λ v. and_then (f v) g)
then-then (Ok v) f g = refl
then-then (Err refusal) f g = refl

pub then-same : {A B : Type 0} (first : Result A Refusal) (f g : A → Result B Refusal) → ((v : A) → f v ≡ g v) → and_then first f ≡ and_then first g
then-same (Ok v) f g e = e v
then-same (Err refusal) f g e = refl
