-- Each test picks a case of the definition. Assumes nothing.
use borrow.Author.Tests.{not-true, not-false}
use native.Mathlib.Omega.{arith}
use Prim.Native.Nat.{ℕ}
use mathlib.Core.Path.{◌≡◌, sym, ap, ◌∙◌}
use mathlib.Core.Bool.{not, Bool, true, false, cond}
use Rattle.atan2_rule.specs.Steps.{ahead_at, climb, nearer, between_of}
use Rattle.atan2.proofs.search.between.Goals as goal

module _ (u v left from to : ℕ) where
  at_first : ahead_at u v left from ≡ false → from ≡ between_of u v left from to
  unfolding between_of
  at_first h = sym (ap (λ (t : Bool). cond t (cond (ahead_at u v left to) to (nearer u v left (climb (ahead_at u v left) to 27 from))) from) h)

  at_last : ahead_at u v left from ≡ true → ahead_at u v left to ≡ true → to ≡ between_of u v left from to
  unfolding between_of
  at_last h k =
      sym (ap (λ (t : Bool). cond t (cond (ahead_at u v left to) to (nearer u v left (climb (ahead_at u v left) to 27 from))) from) h
      ∙ ap (λ (t : Bool). cond t to (nearer u v left (climb (ahead_at u v left) to 27 from))) k)

  inside : ahead_at u v left from ≡ true → ahead_at u v left to ≡ false → nearer u v left (climb (ahead_at u v left) to 27 from) ≡ between_of u v left from to
  unfolding between_of
  inside h k =
      sym (ap (λ (t : Bool). cond t (cond (ahead_at u v left to) to (nearer u v left (climb (ahead_at u v left) to 27 from))) from) h
      ∙ ap (λ (t : Bool). cond t to (nearer u v left (climb (ahead_at u v left) to 27 from))) k)

pub returns-then-not-ahead_at : goal.returns-then-not-ahead_at
returns-then-not-ahead_at c =
    (at_first c.args.d.u c.args.d.v c.args.d.left c.args.from c.args.to (sym c.ahead_at.ensures ∙ not-true _ (ap not c.if-not-ahead_at.true)), omega arith)

pub returns-then-ahead_at : goal.returns-then-ahead_at
returns-then-ahead_at c =
    (at_last c.args.d.u c.args.d.v c.args.d.left c.args.from c.args.to (sym c.ahead_at.ensures ∙ not-false _ (ap not c.if-not-ahead_at.false)) (sym c.ahead_at-2.ensures ∙ c.if-ahead_at.true), omega arith)

pub returns : goal.returns
returns c = (
  c.nearer.ensures.0 ∙ ap (nearer c.args.d.u c.args.d.v c.args.d.left) c.climb.ensures.0
      ∙ inside c.args.d.u c.args.d.v c.args.d.left c.args.from c.args.to (sym c.ahead_at.ensures ∙ not-false _ (ap not c.if-not-ahead_at.false)) (sym c.ahead_at-2.ensures ∙ c.if-ahead_at.false),
  omega arith,
)
