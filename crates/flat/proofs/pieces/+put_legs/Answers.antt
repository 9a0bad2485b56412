-- `flat::put_legs` meets its contract: a piece is a leg, and of a curve that is halved the legs of the second half stand after those of the first.
-- Assumes nothing.
use mathlib.Core.Path.{sym, ap, ◌∙◌}
use native.Mathlib.Omega.{arith}
use Rattle.flat.proofs.Putting.{room-flat, room-last, room-first, room-second, put-flat, put_last, put-halved, put-length, piece-length}
use Rattle.flat.proofs.pieces.+put_legs.Goals as goal

pub put_piece-requires : goal.put_piece-requires
put_piece-requires t c = room-flat _ _ _ _ _ (sym c.is_flat.ensures ∙ c.if-is_flat.true) c.requires

pub returns-then-is_flat : goal.returns-then-is_flat
returns-then-is_flat t c = put-flat _ _ _ (sym c.is_flat.ensures ∙ c.if-is_flat.true) c.put_piece.ensures

pub put_piece-requires-then-left-eq0 : goal.put_piece-requires-then-left-eq0
put_piece-requires-then-left-eq0 t c = room-last _ _ _ _ _ c.if-left-eq0.true (sym c.is_flat.ensures ∙ c.if-is_flat.false) c.requires

pub returns-then-left-eq0 : goal.returns-then-left-eq0
returns-then-left-eq0 t c = put_last _ _ _ c.if-left-eq0.true (sym c.is_flat.ensures ∙ c.if-is_flat.false) c.put_piece-then-left-eq0.ensures

pub put_legs-first-requires : goal.put_legs-first-requires
put_legs-first-requires t c =
    (omega arith, room-first _ _ _ (sym c.is_flat.ensures ∙ c.if-is_flat.false) c.if-left-eq0.false _ c.halved-both.ensures _ _ c.requires)

pub overflow_mul-first : goal.overflow_mul-first
overflow_mul-first t c =
    omega (arith, room-second _ _ _ (sym c.is_flat.ensures ∙ c.if-is_flat.false) c.if-left-eq0.false _ c.halved-both.ensures _ _ c.put_legs-first.ensures c.requires)

pub overflow_add-at : goal.overflow_add-at
overflow_add-at t c =
    omega (arith, room-second _ _ _ (sym c.is_flat.ensures ∙ c.if-is_flat.false) c.if-left-eq0.false _ c.halved-both.ensures _ _ c.put_legs-first.ensures c.requires)

pub put_legs-second-requires : goal.put_legs-second-requires
put_legs-second-requires t c =
    (omega arith, room-second _ _ _ (sym c.is_flat.ensures ∙ c.if-is_flat.false) c.if-left-eq0.false _ c.halved-both.ensures _ _ c.put_legs-first.ensures c.requires)

pub overflow_add-result : goal.overflow_add-result
overflow_add-result t c =
    let whole = put-halved _ _ _ (sym c.is_flat.ensures ∙ c.if-is_flat.false) c.if-left-eq0.false _ c.halved-both.ensures c.put_legs-first.ensures c.put_legs-second.ensures in
    omega (arith, ap (λ t. t.legs) whole.told, c.requires)

pub returns : goal.returns
returns t c = put-halved _ _ _ (sym c.is_flat.ensures ∙ c.if-is_flat.false) c.if-left-eq0.false _ c.halved-both.ensures c.put_legs-first.ensures c.put_legs-second.ensures

pub shape_of-out-then-is_flat : goal.shape_of-out-then-is_flat
shape_of-out-then-is_flat t c = piece-length c.put_piece.ensures

pub shape_of-out-then-left-eq0 : goal.shape_of-out-then-left-eq0
shape_of-out-then-left-eq0 t c = piece-length c.put_piece-then-left-eq0.ensures

pub shape_of-out : goal.shape_of-out
shape_of-out t c = put-length c.put_legs-second.ensures ∙ put-length c.put_legs-first.ensures
