-- Each test picks a case of the definition. Assumes nothing.
use borrow.Author.Tests.{lt-ltb, le-ltb, eq-eqb, ne_eqb}
use Rattle.atan2_rule.specs.Steps.{fallback_of}
use Rattle.atan2.proofs.search.fallback.Goals as goal

pub returns-then-d : goal.returns-then-d
unfolding fallback_of
returns-then-d c = (simp (lt-ltb _ _ c.if-d.true) c.between.ensures.0, c.between.ensures.1)

pub returns-then-d-eq0 : goal.returns-then-d-eq0
unfolding fallback_of
returns-then-d-eq0 c = (simp (le-ltb _ _ c.if-d.false, eq-eqb _ _ c.if-d-eq0.true) c.between-then-d-eq0.ensures.0, c.between-then-d-eq0.ensures.1)

pub returns-else-d-eq0 : goal.returns-else-d-eq0
unfolding fallback_of
returns-else-d-eq0 c = (simp (le-ltb _ _ c.if-d.false, ne_eqb _ _ c.if-d-eq0.false) c.between-else-d-eq0.ensures.0, c.between-else-d-eq0.ensures.1)
