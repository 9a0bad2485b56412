-- `path_build::by_letter::lay_at` meets its contract: what each letter draws is stored. Assumes nothing.
use mathlib.Core.Path.{sym, ◌∙◌}
use native.Mathlib.Omega.{arith}
use Rattle.path_storing.proofs.Judged.{room_at, laid-at, turned-laid}
use Rattle.path_build.proofs.Letters.{drawn-command, drawn-bad, line-wide, quad-wide, cubic-wide, line_at, quad_at, cubic-at}
use Rattle.path_build.proofs.by_letter.lay_at.Goals as goal

-- ---- a line
pub point_at-end-requires : goal.point_at-end-requires
point_at-end-requires c = line-wide c.args.letter c.args.numbers.now c.args.at c.requires.0 c.in-76.is

pub line_to-requires : goal.line_to-requires
line_to-requires c =
    (c.requires.1, room_at (line_at _ _ _ c.requires.0 _ c.in-76.is _ c.point_at-end.ensures) c.requires.2)

pub returns-in-76 : goal.returns-in-76
returns-in-76 c =
    laid-at (line_at _ _ _ c.requires.0 _ c.in-76.is _ c.point_at-end.ensures) c.line_to.ensures

-- ---- a quad
pub point_at-control-requires : goal.point_at-control-requires
point_at-control-requires c = omega (arith, quad-wide c.args.letter c.args.numbers.now c.args.at c.requires.0 c.in-81.is)

pub overflow_add-at : goal.overflow_add-at
overflow_add-at c = omega (arith, quad-wide c.args.letter c.args.numbers.now c.args.at c.requires.0 c.in-81.is)

pub point_at-end-requires-in-81 : goal.point_at-end-requires-in-81
point_at-end-requires-in-81 c = omega (arith, quad-wide c.args.letter c.args.numbers.now c.args.at c.requires.0 c.in-81.is)

pub quad_to-requires : goal.quad_to-requires
quad_to-requires c =
    (c.requires.1, room_at (quad_at _ _ _ c.requires.0 _ c.in-81.is _ _ c.point_at-control.ensures c.point_at-end-in-81.ensures) c.requires.2)

pub returns-in-81 : goal.returns-in-81
returns-in-81 c =
    laid-at (quad_at _ _ _ c.requires.0 _ c.in-81.is _ _ c.point_at-control.ensures c.point_at-end-in-81.ensures) c.quad_to.ensures

-- ---- a cubic
pub point_at-control1-requires : goal.point_at-control1-requires
point_at-control1-requires c = omega (arith, cubic-wide c.args.letter c.args.numbers.now c.args.at c.requires.0 c.in-67.is)

pub overflow_add-at-in-67 : goal.overflow_add-at-in-67
overflow_add-at-in-67 c = omega (arith, cubic-wide c.args.letter c.args.numbers.now c.args.at c.requires.0 c.in-67.is)

pub point_at-control2-requires : goal.point_at-control2-requires
point_at-control2-requires c = omega (arith, cubic-wide c.args.letter c.args.numbers.now c.args.at c.requires.0 c.in-67.is)

pub overflow_add-at-in-67-2 : goal.overflow_add-at-in-67-2
overflow_add-at-in-67-2 c = omega (arith, cubic-wide c.args.letter c.args.numbers.now c.args.at c.requires.0 c.in-67.is)

pub point_at-end-requires-in-67 : goal.point_at-end-requires-in-67
point_at-end-requires-in-67 c = omega (arith, cubic-wide c.args.letter c.args.numbers.now c.args.at c.requires.0 c.in-67.is)

pub cubic_to-requires : goal.cubic_to-requires
cubic_to-requires c = (
  c.requires.1,
  room_at (cubic-at _ _ _ c.requires.0 _ c.in-67.is _ _ _ c.point_at-control1.ensures c.point_at-control2.ensures c.point_at-end-in-67.ensures) c.requires.2,
)

pub returns-in-67 : goal.returns-in-67
returns-in-67 c =
    laid-at
    (cubic-at _ _ _ c.requires.0 _ c.in-67.is _ _ _ c.point_at-control1.ensures c.point_at-control2.ensures c.point_at-end-in-67.ensures)
    c.cubic_to.ensures

-- ---- any other command
pub decode-requires : goal.decode-requires
decode-requires c = omega (arith, c.requires.0)

pub returns-in-None : goal.returns-in-None
returns-in-None c = turned-laid (drawn-bad _ (sym c.decode.ensures ∙ c.in-None.is))

pub lay_any-requires : goal.lay_any-requires
lay_any-requires c =
    (c.requires.1, room_at (drawn-command _ (sym c.decode.ensures ∙ c.in-Some.is)) c.requires.2)

pub returns-in-Some : goal.returns-in-Some
returns-in-Some c =
    laid-at (drawn-command _ (sym c.decode.ensures ∙ c.in-Some.is)) c.lay_any.ensures
