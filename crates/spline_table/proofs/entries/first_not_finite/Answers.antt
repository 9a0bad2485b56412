-- Points within 2^40 have finite lengths (`near-finite`); others are measured. Assumes nothing.
use native.Mathlib.Omega.{arith}
use mathlib.Core.Path.{sym, ◌∙◌}
use Rattle.floats.proofs.Tests.{passed}
use Rattle.spline_table.proofs.Calm.{near-finite}
use Rattle.spline_table.proofs.entries.first_not_finite.Goals as goal

pub returns-then-all_near : goal.returns-then-all_near
returns-then-all_near c =
    near-finite _ _ (passed (sym c.all_near.ensures ∙ c.if-all_near.true)) c.requires.few (omega (arith, c.requires.few, c.requires.counted))
