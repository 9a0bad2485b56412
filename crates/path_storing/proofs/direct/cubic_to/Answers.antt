-- `path_storing::direct::cubic_to` meets its contract: a cubic with a current point, else the point alone. Assumes nothing.
use borrow.Author.Rules.{rules}
use Rattle.path_storing.proofs.Judged.{cubic-drawn, cubic-undrawn, cubic-laid, moved-laid, room_at, room-counts, laid-at}
use Rattle.path_storing.proofs.direct.cubic_to.Goals as goal

pub returns-in_default : goal.returns-in_default
returns-in_default c = moved-laid (cubic-undrawn _ _ (search rules) _ _ _ c.drawn.ensures) c.moved.ensures

pub store_segment-length-requires : goal.store_segment-length-requires
store_segment-length-requires c = room-counts (room_at (cubic-drawn _ c.in-Some.is _ _ _) c.requires.1)

pub returns : goal.returns
returns c = laid-at (cubic-drawn _ c.in-Some.is _ _ _) (cubic-laid _ c.drawn-2.ensures _ _ _ c.grown.ensures c.store_segment-length.ensures)
