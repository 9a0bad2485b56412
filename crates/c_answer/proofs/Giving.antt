-- What is given depends on the answer alone. Assumes nothing.
use Prim.Native.Nat.{ℕ, ◌<◌}
use mathlib.Core.Path.{◌≡◌, refl, sym, ap, subst, ◌∙◌}
use mathlib.Core.Bool.{Bool, true, false, cond}
use mathlib.Core.List.{List, [], ◌∷◌}
use native.Mathlib.Omega.{arith}
use borrow.Author.Tests.{lt-ltb}
use lib.ListN.{length}
use Rattle.answers.specs.declared.refusals.Refusal.{Refusal}
use Rattle.answers.specs.Answers.{Answer, accepted, carried_of, listed, refused}
use Rattle.answers.specs.Report.{short, written}
use Rattle.answers.proofs.Settled.{refused-not-accepted}
use Rattle.std.specs.Prelude.{Result, Ok, Err}
use Rattle.c_answer.specs.Counts.{count_given}
use Rattle.c_answer.specs.Given.{Given}

pub given-same : {before after : List ℕ} {returned : ℕ} (given other : Answer) → given ≡ other → Given given before returned after → Given other before returned after
given-same {before} {after} {returned} given other same = subst (λ (a : Answer). Given a before returned after) same

-- a short answer is left as it was
pub given-short : (given : Answer) (answer : List ℕ) → length answer < 8 → Given given answer 255 answer
given-short given answer h = record { code = rw (lt-ltb (length answer) 8 h); places = rw (lt-ltb (length answer) 8 h) }

-- an answer that is a count, or the refusal, is what `count_given` says
pub count-as :
    (given : Result ℕ Refusal → Answer) → ((count : ℕ) → accepted (count ∷ []) ≡ given (Ok count)) → ((refusal : Refusal) → refused refusal ≡ given (Err refusal))
    → (r : Result ℕ Refusal) → count_given r ≡ given r
count-as given ok err (Ok count) = ok count
count-as given ok err (Err refusal) = err refusal

-- ---- a call that returns 0

long-enough : (t : Bool) (number : ℕ) → cond t 255 number ≡ 0 → t ≡ false
long-enough true number e = absurd (omega (arith, e))
long-enough false number e = refl

module _ {before after : List ℕ} {returned : ℕ} where
  -- it was lent a long enough answer, and its values stand at the answer's start
  pub given-whole : (given : Answer) → Given given before returned after → returned ≡ 0 → (given.number ≡ 0) × (after ≡ written given.values before)
  given-whole given g zero =
      let l = long-enough (short before) given.number (sym g.code ∙ zero) in
      (sym (ap (λ (t : Bool). cond t 255 given.number) l) ∙ sym g.code ∙ zero, g.places ∙ ap (λ (t : Bool). cond t before (written given.values before)) l)

  -- and is no refusal
  pub given-accepted : (refusal : Refusal) → Given (refused refusal) before returned after → returned ≡ 0 → ⊥
  given-accepted refusal g zero =
      let values = listed (carried_of refusal) in
      refused-not-accepted refusal values (ap (λ (n : ℕ). record { number = n; values = values }) (given-whole (refused refusal) g zero).0)
