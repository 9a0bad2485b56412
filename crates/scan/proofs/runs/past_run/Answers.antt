-- `scan::past_run` meets its contract. Assumes nothing.
use Prim.Native.Nat.{ℕ, ◌≤◌, max}
use mathlib.Core.Path.{◌≡◌, sym, ◌∙◌}
use mathlib.Core.Logic.{⊎_elim}
use native.Mathlib.Omega.{arith}
use borrow.Author.Rules.{rules}
use Rattle.std.proofs.lemmas.Bool.{cases_lt}
use Rattle.scan.proofs.RunLaws.{all_pass, all-stop, all_end}
use Rattle.scan.proofs.runs.past_run.Goals as goal

-- where a loop over the places from `at` on has ended
ends : (at n i q : ℕ) → n ≤ i → (at ≤ n → i ≤ n) → i ≡ q → (n ≤ at → q ≡ at) → max at n ≡ q
ends at n i q h inside e past = ⊎_elim (λ b. let k = inside (omega arith) in omega arith) (λ b. let k = past b in omega arith) (cases_lt at n)

pub loop-i-preserved : goal.loop-i-preserved
loop-i-preserved g c class decides =
    all_pass class _ _ c.loop-i-test.true (sym (decides _ _ (search rules) c.is_member.ensures) ∙ c.if-not-is_member.false)
    ∙ c.loop-i.invariant class decides

pub returns-then-not-is_member : goal.returns-then-not-is_member
returns-then-not-is_member g c class decides =
    sym (all-stop class _ _ c.loop-i-test.true (sym (decides _ _ (search rules) c.is_member.ensures) ∙ c.if-not-is_member.true))
    ∙ c.loop-i.invariant class decides

pub returns : goal.returns
returns g c class decides =
    c.max.ensures
    ∙ ends _ _ c.loop-i.i _ c.loop-i-test.false c.loop-i.auto.i-end
    (sym (all_end class _ _ c.loop-i-test.false) ∙ c.loop-i.invariant class decides) (all_end class _ _)
