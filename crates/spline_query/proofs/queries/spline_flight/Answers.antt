-- What passes the check is answered in order. Assumes nothing.
use mathlib.Core.Path.{sym, ◌∙◌}
use Rattle.floats.proofs.Tests.{passed}
use Rattle.spline_query.proofs.Steady.{spline-in-order}
use Rattle.spline_query.proofs.queries.spline_flight.Goals as goal

pub returns-clause-spline_ordered : goal.returns-clause-spline_ordered
returns-clause-spline_ordered c = spline-in-order _ _ (passed (sym c.spline_is_sound.ensures ∙ c.if-not-spline_is_sound.false)) c.type_inv.table
