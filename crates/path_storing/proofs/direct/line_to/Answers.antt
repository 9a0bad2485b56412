-- `path_storing::direct::line_to` meets its contract: a line with a current point, else the point alone. Assumes nothing.
use borrow.Author.Rules.{rules}
use Rattle.path_storing.proofs.Judged.{line-drawn, line-undrawn, moved-laid, room_at, laid-at}
use Rattle.path_storing.proofs.direct.line_to.Goals as goal

pub returns-in_default : goal.returns-in_default
returns-in_default c = moved-laid (line-undrawn _ _ (search rules) _ c.drawn.ensures) c.moved.ensures

pub lay_line-requires : goal.lay_line-requires
lay_line-requires c = (c.requires.0, room_at (line-drawn _ c.in-Some.is _) c.requires.1)

pub returns : goal.returns
returns c = laid-at (line-drawn _ c.in-Some.is _) c.lay_line.ensures
