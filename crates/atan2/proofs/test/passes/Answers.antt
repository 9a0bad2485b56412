-- The rest of PI is a turn less it. Assumes nothing.
use borrow.Author.Tests.{le-leb, lt-leb}
use native.Mathlib.Omega.{arith}
use native.Mathlib.Nat.{eq-or-lt_of_le, not-le_of_lt}
use mathlib.Core.Logic.{inl, inr}
use Prim.Native.Nat.{ℕ, ◌-◌, ◌≤◌, ◌<◌}
use mathlib.Core.Path.{◌≡◌, sym, ap, subst, ◌∙◌}
use mathlib.Core.Bool.{Bool, cond}
use Rattle.trig_rule.specs.Reduction.{turn}
use Rattle.trig_rule.specs.Steps.{half, fixed_of}
use Rattle.atan2_rule.specs.Steps.{passes_at, passes}
use Rattle.atan2_rule.proofs.Fixed.{under-half}
use Rattle.atan2.proofs.Weighed.{judged-is}
use Rattle.atan2.proofs.test.passes.Goals as goal

straight : (u v left b : ℕ) → fixed_of b ≤ half → passes_at u v left 0 (fixed_of b) ≡ passes u v left b
unfolding passes
straight u v left b h = sym (ap (λ (t : Bool). cond t (passes_at u v left 0 (fixed_of b)) (passes_at u v left 1 (turn - fixed_of b))) (le-leb (fixed_of b) half h))

flipped : (u v left b : ℕ) → half < fixed_of b → passes_at u v left 1 (turn - fixed_of b) ≡ passes u v left b
unfolding passes
flipped u v left b h = sym (ap (λ (t : Bool). cond t (passes_at u v left 0 (fixed_of b)) (passes_at u v left 1 (turn - fixed_of b))) (lt-leb (fixed_of b) half h))

-- no other angle in range is above half a turn
only-pi : (b : ℕ) → 947912704 ≤ b → b ≤ 1078530011 → half < fixed_of b → b ≡ 1078530011
only-pi b l h k = elim (eq-or-lt_of_le h) [
  | inl e ↦ e
  | inr g ↦ absurd (not-le_of_lt k (under-half b l (before g)))
]
  where
    before : b < 1078530011 → b ≤ 1078530010
    before g = omega arith

pub returns-then-x-le226375608064910088 : goal.returns-then-x-le226375608064910088
returns-then-x-le226375608064910088 c =
    c.judged.ensures ∙ judged-is c.sides.ensures c.args.d.u c.args.d.v c.args.d.left 0 ∙ ap (passes_at c.args.d.u c.args.d.v c.args.d.left 0) c.fixed-x.ensures.0
    ∙ straight c.args.d.u c.args.d.v c.args.d.left c.args.b (subst (λ (n : ℕ). n ≤ half) c.fixed-x.ensures.0 c.if-x-le226375608064910088.true)

pub returns-else-x-le226375608064910088 : goal.returns-else-x-le226375608064910088
returns-else-x-le226375608064910088 c =
    let above : half < fixed_of c.args.b = subst (λ (n : ℕ). half < n) c.fixed-x.ensures.0 c.if-x-le226375608064910088.false in
    c.judged-else-x-le226375608064910088.ensures ∙ judged-is c.past_pi.ensures c.args.d.u c.args.d.v c.args.d.left 1
    ∙ ap (λ (n : ℕ). passes_at c.args.d.u c.args.d.v c.args.d.left 1 (turn - fixed_of n)) (sym (only-pi c.args.b c.requires.0 c.requires.1 above))
    ∙ flipped c.args.d.u c.args.d.v c.args.d.left c.args.b above
