-- What a call that fills an output gives depends on the made thing alone, and a table has its total last. Assumes nothing.
use Prim.Native.Nat.{ℕ, ◌+◌}
use mathlib.Core.Path.{◌≡◌, ap, sym, subst, ◌∙◌}
use mathlib.Core.List.{List, [], ◌∷◌, ◌++◌, append-nil}
use native.Mathlib.Omega.{arith}
use lib.ListN.{length, drop, set, replicate, length-append, length-replicate}
use lib.Ieee.{Float}
use Rattle.std.specs.Prelude.{Result}
use Rattle.answers.specs.declared.refusals.Refusal.{Refusal}
use Rattle.answers.specs.Report.{written}
use Rattle.answers.proofs.Writing.{written_next}
use Rattle.c_output.specs.Filling.{Filled}

-- entries that fill all places but the last, and the total there
pub last-put : {A : Type 0} (entries : List A) (total d : A) → 32 ≡ length entries → set (written entries (replicate 33 d)) 32 total ≡ entries ++ total ∷ []
last-put entries total d is =
    ap (λ (n : ℕ). set (written entries (replicate 33 d)) n total) is
    ∙ written_next entries (replicate 33 d) total (omega (arith, length-replicate 33 d))
    ∙ ap (λ (n : ℕ). (entries ++ total ∷ []) ++ drop n (replicate 33 d)) (length-append entries (total ∷ []) ∙ ap (λ (n : ℕ). n + 1) (sym is))
    ∙ append-nil (entries ++ total ∷ [])

-- what is filled depends on the made thing alone
pub filled-made :
    {M : Type 0} (verdict : M → Result (Unit {0}) Refusal) (values : M → List ℕ) (numbers_of : M → List Float) {made due : M} {numbers out o : List Float} {held answer after : List ℕ} {returned : ℕ}
    → made ≡ due
    → held ≡ values made
    → numbers ≡ numbers_of made
    → Filled (verdict made) held numbers out answer returned o after
    → Filled (verdict due) (values due) (numbers_of due) out answer returned o after
filled-made {M} verdict values numbers_of {made} {due} {numbers} {out} {o} {held} {answer} {after} {returned} same own is filled =
    subst (λ (m : M). Filled (verdict m) (values m) (numbers_of m) out answer returned o after) same
    (subst (λ (v : List ℕ). Filled (verdict made) v (numbers_of made) out answer returned o after) own
    (subst (λ (n : List Float). Filled (verdict made) held n out answer returned o after) is filled))
