-- `path_storing::laying::lay` meets its contract: a line by itself, any other command as `lay_any` does. Assumes nothing.
use mathlib.Core.Path.{ap}
use Rattle.path_drawing.specs.Drawing.{draw_of}
use Rattle.path_storing.proofs.Judged.{room_at, laid-at}
use Rattle.path_storing.proofs.laying.lay.Goals as goal

pub line_to-requires : goal.line_to-requires
line_to-requires c =
    (c.requires.0, room_at (ap (draw_of _) c.in-LineTo.is) c.requires.1)

pub returns-in-LineTo : goal.returns-in-LineTo
returns-in-LineTo c =
    laid-at (ap (draw_of _) c.in-LineTo.is) c.line_to.ensures
