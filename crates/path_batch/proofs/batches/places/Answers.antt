-- `path_batch::places` meets its contract: a stored path's numbers are f32 values, so that `ordered-places` shows demand 3. Assumes nothing.
use mathlib.Core.Path.{◌≡◌, sym, ◌∙◌, subst}
use lib.Dec.{eqb→eq}
use lib.ListN.{length}
use Rattle.floats.proofs.Tests.{passed}
use Rattle.path_stored.specs.declared.path_buffers.PathBuffers.{PathBuffers}
use Rattle.path_stored.specs.Paths.{AreF32, held}
use Rattle.path_batch.specs.Batches.{FilledPlaces}
use Rattle.path_batch.proofs.Ordering.{ordered-places}
use Rattle.path_batch.proofs.Answering.{places-filled, filled_none}
use Rattle.path_batch.proofs.batches.places.Goals as goal

pub returns-then-is_empty-clause-places : goal.returns-then-is_empty-clause-places
returns-then-is_empty-clause-places c =
    let none : length c.args.path.kinds.now ≡ 0 = eqb→eq _ _ (passed (sym c.is_empty.ensures ∙ c.if-is_empty.true)) in
    places-filled _ _ _ _ (sym c.check_path.ensures.stored ∙ c.if-not-check_path.false) _ _ c.if-segments-count.false c.if-raws-count.false (filled_none _ _ none _ _ _ _ c.fill_none.ensures c.fill_zeros.ensures)

pub returns-clause-ordered_batch : goal.returns-clause-ordered_batch
returns-clause-ordered_batch c =
    let is = sym c.check_path.ensures.stored ∙ c.if-not-check_path.false in
    let same = c.stored-stored.ensures in
    let values = subst (λ (path : PathBuffers). AreF32 path.tables.now × AreF32 path.lengths.now) same c.stored-stored.result.values in
    let filled = subst (λ (path : PathBuffers). FilledPlaces (held path) c.args.progresses.now c.args.segments.now c.args.raws.now c.fill_places.new.segments c.fill_places.new.raws) same c.fill_places.ensures in
    λ some. ordered-places _ _ is some values.0 values.1 filled
