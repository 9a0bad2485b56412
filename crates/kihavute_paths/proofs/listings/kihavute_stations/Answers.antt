-- `kihavute_stations` meets its contract: the answer's length is judged first, then the output's against the listing's; the tool's own promise is
-- reported. Assumes nothing.
use borrow.Author.Rules.{rules}
use Rattle.kihavute_paths.proofs.ListingsGiven.{not_listed, no_room, listed}
use Rattle.kihavute_paths.proofs.listings.kihavute_stations.Goals as goal

pub returns-then-answer-lt8 : goal.returns-then-answer-lt8
returns-then-answer-lt8 c = not_listed _ _ _ c.if-answer-lt8.true

pub returns-then-room-length : goal.returns-then-room-length
returns-then-room-length c =
    no_room _ _ _ _ _ _ _ c.if-answer-lt8.false c.stations-length.ensures c.if-room-length.true c.refuse.ensures

pub returns : goal.returns
returns c =
    listed _ _ _ _ _ _ _ c.if-answer-lt8.false c.stations-length.ensures c.if-room-length.false c.accept.ensures
