-- What a spline gives through C, case by case. Assumes nothing.
use Prim.Native.Nat.{ℕ, ◌≤◌, ◌<◌}
use mathlib.Core.Path.{◌≡◌, refl, sym, ap, ◌∙◌, subst}
use mathlib.Core.Bool.{true, false}
use mathlib.Core.List.{List, [], ◌∷◌}
use borrow.Author.Tests.{lt-ltb, le-ltb}
use lib.ListN.{length}
use lib.Ieee.{Float}
use Rattle.answers.specs.Answers.{Answer, accepted, refused}
use Rattle.answers.specs.Report.{Report, short, written}
use Rattle.answers.specs.declared.refusals.Refusal.{Refusal}
use Rattle.floats.specs.Floats.{bits_of}
use Rattle.spline_table.specs.Tables.{spline_table_of, answer_of, answered, places_of, SplineTable}
use Rattle.std.specs.Prelude.{Result}
use Rattle.c_answer.specs.Counts.{count_given}
use Rattle.c_answer.specs.Given.{Given}
use Rattle.c_answer.proofs.Giving.{given-same, count-as}
use Rattle.kihavute_curves.specs.Splines.{SplineTableGiven}

module _ (points before : List Float) (answer : List ℕ) where
  -- a short answer
  pub short-given : length answer < 8 → SplineTableGiven points before answer 255 before answer
  short-given h =
      let s : short answer ≡ true = lt-ltb (length answer) 8 h in
      record { given = record { code = rw s; places = rw s }; table = rw s }

  pub stored-given : 8 ≤ length answer → (r : Result ℕ Refusal) (after : List Float) (returned : ℕ) (answer' : List ℕ) → SplineTable points before r after → Given (count_given r) answer returned answer'
      → SplineTableGiven points before answer returned after answer'
  stored-given h r after returned answer' t g =
      let s : short answer ≡ false = le-ltb (length answer) 8 h in
      record { given = given-same (count_given r) (answered (spline_table_of points (length before))) (count-as answer_of (λ count. refl) (λ refusal. refl) r ∙ t.answer) g; table = rw s t.places }

  -- any two allowed results are equal
  pub spline-table-given-unique :
      (r s : ℕ) (after other : List Float) (answer₁ answer₂ : List ℕ)
      → SplineTableGiven points before answer r after answer₁
      → SplineTableGiven points before answer s other answer₂
      → (r ≡ s) × (after ≡ other) × (answer₁ ≡ answer₂)
  spline-table-given-unique r s after other answer₁ answer₂ p q = (
    p.given.code ∙ sym q.given.code,
    p.table ∙ sym q.table,
    p.given.places ∙ sym q.given.places,
  )
