-- `path_dry_run::dry_run` meets its contract: a stored path's numbers are f32 values, so that `seconds-in-order` shows the order. Assumes nothing.
use Prim.Native.Nat.{ℕ, zero, suc, ◌≤◌, ◌<◌}
use mathlib.Core.Bool.{false}
use mathlib.Core.Path.{◌≡◌, sym, ◌∙◌, subst}
use native.Mathlib.Omega.{arith}
use lib.Dec.{eqb, eqb→eq}
use lib.ListN.{length}
use Rattle.floats.proofs.Tests.{passed}
use Rattle.path_stored.proofs.Rule.{stored-rule}
use Rattle.path_stored.specs.declared.path_buffers.PathBuffers.{PathBuffers}
use Rattle.path_stored.specs.Paths.{AreF32, held}
use Rattle.path_dry_run.specs.Seconds.{fast_of, FilledSeconds}
use Rattle.path_dry_run.proofs.Sums.{slow-all}
use Rattle.path_dry_run.proofs.Seconds.{filled_none, seconds-in-order}
use Rattle.path_dry_run.proofs.Answering.{run-filled}
use Rattle.path_dry_run.proofs.runs.dry_run.Goals as goal

above : (n : ℕ) → eqb n 0 ≡ false → 0 < n
above zero e = cc
above (suc n) e = omega arith

pub returns-then-is_empty-clause-dry_run : goal.returns-then-is_empty-clause-dry_run
returns-then-is_empty-clause-dry_run c =
    let slow : fast_of c.args.speeds.now ≤ 100000 = omega (arith, c.first_fast-fast.ensures, c.if-fast-gt100000.false) in
    let none : length c.args.path.kinds.now ≡ 0 = eqb→eq _ _ (passed (sym c.is_empty.ensures ∙ c.if-is_empty.true)) in
    run-filled _ _ _ _ (sym c.check_path.ensures.stored ∙ c.if-not-check_path.false) (omega arith) slow _ _ c.if-segments-count.false c.if-raws-count.false
    (filled_none _ _ none _ _ _ _ c.fill_none.ensures c.fill_zeros.ensures)

pub fill_seconds-requires : goal.fill_seconds-requires
fill_seconds-requires c =
    let slow : fast_of c.args.speeds.now ≤ 100000 = omega (arith, c.first_fast-fast.ensures, c.if-fast-gt100000.false) in
    let is = sym c.check_path.ensures.stored ∙ c.if-not-check_path.false in
    let same = c.stored-stored.ensures in
    let here : 0 < length c.args.path.kinds.now = above (length c.args.path.kinds.now) (sym c.is_empty.ensures ∙ c.if-is_empty.false) in
    let some : 0 < length c.stored-stored.result.buffers.kinds.now = subst (λ (path : PathBuffers). 0 < length path.kinds.now) (sym same) here in
    record {
      some = some;
      recorded = record { few = omega arith; slow = slow-all c.args.speeds.now slow };
      segments_room = c.if-segments-count.false;
      raws_room = c.if-raws-count.false;
    }

pub returns-clause-ordered_run : goal.returns-clause-ordered_run
returns-clause-ordered_run c =
    let slow : fast_of c.args.speeds.now ≤ 100000 = omega (arith, c.first_fast-fast.ensures, c.if-fast-gt100000.false) in
    let is = sym c.check_path.ensures.stored ∙ c.if-not-check_path.false in
    let same = c.stored-stored.ensures in
    let values = subst (λ (path : PathBuffers). AreF32 path.tables.now × AreF32 path.lengths.now) same c.stored-stored.result.values in
    let filled = subst (λ (path : PathBuffers). FilledSeconds (held path) c.args.speeds.now c.args.segments.now c.args.raws.now c.fill_seconds.new.segments c.fill_seconds.new.raws) same c.fill_seconds.ensures in
    λ some.
    seconds-in-order filled some (record { stored = stored-rule _ (passed is); table_values = values.0; length_values = values.1 })
    (record { few = omega arith; slow = slow-all c.args.speeds.now slow })
