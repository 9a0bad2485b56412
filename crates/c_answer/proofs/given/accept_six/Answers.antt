-- `accept_six` meets its contract: each store goes just past what is written, so `written_next` tells what then stands there. Assumes nothing.
use borrow.Author.Rules.{rules}
use borrow.Author.Tests.{lt-ltb, le-ltb}
use native.Mathlib.Omega.{arith}
use mathlib.Core.Path.{◌≡◌, ap, ◌∙◌}
use mathlib.Core.List.{List, [], ◌∷◌}
use Prim.Native.Nat.{ℕ, ◌≤◌}
use lib.ListN.{length, set, length-set}
use Rattle.answers.specs.Report.{written}
use Rattle.answers.proofs.Writing.{written_next}
use Rattle.c_answer.proofs.given.accept_six.Goals as goal

module _ (before : List ℕ) (room : 8 ≤ length before) (a b c d e f : ℕ) where
  three : set (set (set before 0 a) 1 b) 2 c ≡ written (a ∷ b ∷ c ∷ []) before
  three =
      ap (λ l. set (set l 1 b) 2 c) (written_next [] before a (omega arith))
      ∙ ap (λ l. set l 2 c) (written_next (a ∷ []) before b (omega arith))
      ∙ written_next (a ∷ b ∷ []) before c (omega arith)

  six : set (set (set (set (set (set before 0 a) 1 b) 2 c) 3 d) 4 e) 5 f ≡ written (a ∷ b ∷ c ∷ d ∷ e ∷ f ∷ []) before
  six =
      ap (λ l. set (set (set l 3 d) 4 e) 5 f) three
      ∙ ap (λ l. set (set l 4 e) 5 f) (written_next (a ∷ b ∷ c ∷ []) before d (omega arith))
      ∙ ap (λ l. set l 5 f) (written_next (a ∷ b ∷ c ∷ d ∷ []) before e (omega arith))
      ∙ written_next (a ∷ b ∷ c ∷ d ∷ e ∷ []) before f (omega arith)

pub returns-then-answer-lt8 : goal.returns-then-answer-lt8
returns-then-answer-lt8 c = let few = lt-ltb _ _ c.if-answer-lt8.true in record { code = simp few; places = simp few }

pub bounds-answer-1 : goal.bounds-answer-1
bounds-answer-1 c = simp length-set (search rules)

pub bounds-answer-2 : goal.bounds-answer-2
bounds-answer-2 c = simp length-set (search rules)

pub bounds-answer-3 : goal.bounds-answer-3
bounds-answer-3 c = simp length-set (search rules)

pub bounds-answer-4 : goal.bounds-answer-4
bounds-answer-4 c = simp length-set (search rules)

pub bounds-answer-5 : goal.bounds-answer-5
bounds-answer-5 c = simp length-set (search rules)

pub returns : goal.returns
returns c =
    let enough = le-ltb _ _ c.if-answer-lt8.false in
    record {
      code = simp enough;
      places = simp enough (six c.args.answer.now c.if-answer-lt8.false c.args.first c.args.second c.args.third c.args.fourth c.args.fifth c.args.sixth);
    }
