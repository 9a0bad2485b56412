-- `path_storing::laying::lay_segment` meets its contract: the segment is stored, and the site told. Assumes nothing.
use Rattle.path_storing.proofs.Judged.{room-counts, stored-laid}
use Rattle.path_storing.proofs.laying.lay_segment.Goals as goal

pub store_segment-length-requires : goal.store_segment-length-requires
store_segment-length-requires c = room-counts c.requires.1

pub after-requires : goal.after-requires
after-requires c =
    (c.requires.0, c.store_segment-length.ensures.length_told)

pub returns : goal.returns
returns c = stored-laid c.after.ensures c.store_segment-length.ensures
