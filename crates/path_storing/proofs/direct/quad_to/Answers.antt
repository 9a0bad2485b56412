-- `path_storing::direct::quad_to` meets its contract: a quad with a current point, else the point alone. Assumes nothing.
use borrow.Author.Rules.{rules}
use Rattle.path_storing.proofs.Judged.{quad-drawn, quad-undrawn, quad-laid, moved-laid, room_at, room-counts, laid-at}
use Rattle.path_storing.proofs.direct.quad_to.Goals as goal

pub returns-in_default : goal.returns-in_default
returns-in_default c = moved-laid (quad-undrawn _ _ (search rules) _ _ c.drawn.ensures) c.moved.ensures

pub store_segment-length-requires : goal.store_segment-length-requires
store_segment-length-requires c = room-counts (room_at (quad-drawn _ c.in-Some.is _ _) c.requires.1)

pub returns : goal.returns
returns c = laid-at (quad-drawn _ c.in-Some.is _ _) (quad-laid _ c.drawn-2.ensures _ _ c.grown.ensures c.store_segment-length.ensures)
