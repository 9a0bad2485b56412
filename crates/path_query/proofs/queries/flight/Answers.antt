-- `path_query::flight` meets its contract: a stored path's numbers are f32 values, so that `ordered` shows demand 3. Assumes nothing.
use mathlib.Core.Path.{subst, sym, ◌∙◌}
use Rattle.path_stored.specs.declared.path_buffers.PathBuffers.{PathBuffers}
use Rattle.path_stored.specs.Paths.{AreF32}
use Rattle.path_query.proofs.Demand3.{ordered}
use Rattle.path_query.proofs.queries.flight.Goals as goal

pub returns-clause-ordered_by : goal.returns-clause-ordered_by
returns-clause-ordered_by c =
    let is = sym c.check_path.ensures.stored ∙ c.if-not-check_path.false in
    let same = c.stored-stored.ensures in
    let values = subst (λ (path : PathBuffers). AreF32 path.tables.now × AreF32 path.lengths.now) same c.stored-stored.result.values in
    λ some. ordered _ is some values.0 values.1
