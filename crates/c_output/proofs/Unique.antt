-- Any two allowed results of a call that fills an output are equal, and two wrong answers that it rules out. Assumes nothing.
use Prim.Native.Nat.{ℕ, ◌≤◌, ◌<◌}
use mathlib.Core.Path.{◌≡◌, refl, sym, ◌∙◌}
use mathlib.Core.List.{List, [], ◌∷◌}
use lib.ListN.{length}
use lib.Ieee.{Float}
use Rattle.std.specs.Prelude.{Result, Ok}
use borrow.Author.Tests.{lt-ltb, le-ltb}
use Rattle.answers.specs.declared.refusals.Refusal.{Refusal}
use Rattle.answers.specs.Report.{written}
use Rattle.c_output.specs.Filling.{Filled}

pub filled-unique :
    {verdict : Result (Unit {0}) Refusal} {values : List ℕ} {numbers out : List Float} {answer : List ℕ} {r r' : ℕ} {o o' : List Float} {a a' : List ℕ}
    → Filled verdict values numbers out answer r o a
    → Filled verdict values numbers out answer r' o' a'
    → (r ≡ r') × (o ≡ o') × (a ≡ a')
filled-unique one other =
    (one.answers.code ∙ sym other.answers.code, one.output ∙ sym other.output, one.answers.places ∙ sym other.answers.places)

module _ {values : List ℕ} {numbers out : List Float} {answer after : List ℕ} {r : ℕ} {o : List Float} (enough : 8 ≤ length answer) where
  -- the need is the count of the numbers, however short the output is: one number fewer, or the room that there is, is ruled out
  pub need-is-the-count :
      length out < length numbers → Filled (Ok tt) values numbers out answer r o after
      → (r ≡ 8) × (after ≡ written (length numbers ∷ []) answer) × (o ≡ out)
  need-is-the-count less filled =
      let judged = le-ltb (length answer) 8 enough in
      let tight = lt-ltb (length out) (length numbers) less in
      (filled.answers.code ∙ rw (judged, tight) refl, filled.answers.places ∙ rw (judged, tight) refl, filled.output ∙ rw (judged, tight) refl)

  -- with enough room the numbers stand in the output: writing nothing is ruled out
  pub numbers-are-written :
      length numbers ≤ length out → Filled (Ok tt) values numbers out answer r o after
      → (r ≡ 0) × (after ≡ written values answer) × (o ≡ written numbers out)
  numbers-are-written room filled =
      let judged = le-ltb (length answer) 8 enough in
      let wide = le-ltb (length out) (length numbers) room in
      (filled.answers.code ∙ rw (judged, wide) refl, filled.answers.places ∙ rw (judged, wide) refl, filled.output ∙ rw (judged, wide) refl)
