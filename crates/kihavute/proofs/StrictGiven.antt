-- What strict reading gives to C is settled by the edition, the text and the answer lent. Assumes nothing.
use Prim.Native.Nat.{ℕ}
use mathlib.Core.Path.{◌≡◌, sym, ap, ◌∙◌}
use mathlib.Core.Bool.{Bool, true, false, cond}
use mathlib.Core.List.{List, [], ◌∷◌}
use Rattle.answers.specs.Answers.{Answer}
use Rattle.std.specs.Prelude.{Ok}
use Rattle.answers.specs.Report.{Report, short, written}
use Rattle.strict.specs.Verdicts.{answer_of}
use Rattle.strict.proofs.VerdictLaws.{answer-settled}
use Rattle.kihavute.specs.StrictReading.{StrictReading}

-- any two allowed results are equal
pub strict-reading-unique :
    (edition : ℕ) (text before : List ℕ) (r s : ℕ) (after other : List ℕ)
    → StrictReading edition text before r after
    → StrictReading edition text before s other
    → (r ≡ s) × (after ≡ other)
strict-reading-unique edition text before r s after other p q =
    let same = answer-settled edition text p.answer q.answer p.judged q.judged in (
      p.reported.code ∙ ap (λ (a : Answer). cond (short before) 255 a.number) same ∙ sym q.reported.code,
      p.reported.places ∙ ap (λ (a : Answer). cond (short before) before (written a.values before)) same ∙ sym q.reported.places,
    )

-- a verdict leaves as 1 for a yes and 0 for a no
pub reported-yes :
    (yes : Bool) {before after : List ℕ} {r : ℕ} → Report 0 (cond yes 1 0 ∷ []) before r after
    → Report (answer_of (Ok yes)).number (answer_of (Ok yes)).values before r after
reported-yes true p = p
reported-yes false p = p
