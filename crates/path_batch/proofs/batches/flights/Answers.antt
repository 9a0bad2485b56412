-- `path_batch::flights` meets its contract: a stored path's numbers are f32 values, so that `ordered-flights` shows demand 3. Assumes nothing.
use mathlib.Core.Path.{◌≡◌, sym, ◌∙◌, subst}
use lib.Dec.{eqb→eq}
use lib.ListN.{length}
use Rattle.floats.proofs.Tests.{passed}
use Rattle.path_stored.specs.declared.path_buffers.PathBuffers.{PathBuffers}
use Rattle.path_stored.specs.Paths.{AreF32, held}
use Rattle.path_batch.specs.Batches.{FilledFlights}
use Rattle.path_batch.proofs.Ordering.{ordered-flights}
use Rattle.path_batch.proofs.Answering.{flights-filled, flown-none}
use Rattle.path_batch.proofs.batches.flights.Goals as goal

pub returns-then-is_empty-clause-flights : goal.returns-then-is_empty-clause-flights
returns-then-is_empty-clause-flights c =
    let none : length c.args.path.kinds.now ≡ 0 = eqb→eq _ _ (passed (sym c.is_empty.ensures ∙ c.if-is_empty.true)) in
    flights-filled _ _ _ _ _ (sym c.check_path.ensures.stored ∙ c.if-not-check_path.false) _ _ _ c.if-segments-count.false c.if-raws-count.false c.if-out-numbers.false
    (flown-none _ _ none _ _ _ _ _ _ c.fill_none.ensures c.fill_zeros.ensures c.fill_zeros-then-is_empty.ensures)

pub returns-clause-ordered_flown : goal.returns-clause-ordered_flown
returns-clause-ordered_flown c =
    let is = sym c.check_path.ensures.stored ∙ c.if-not-check_path.false in
    let same = c.stored-stored.ensures in
    let values = subst (λ (path : PathBuffers). AreF32 path.tables.now × AreF32 path.lengths.now) same c.stored-stored.result.values in
    let filled = subst
    (λ (path : PathBuffers). FilledFlights (held path) c.args.progresses.now c.args.segments.now c.args.raws.now c.args.out.now c.fill_flights.new.segments c.fill_flights.new.raws c.fill_flights.new.out)
    same c.fill_flights.ensures in
    λ some. ordered-flights _ _ is some values.0 values.1 filled
