-- `path_segment::fields::segment_at` meets its contract: the four points of a cubic. Assumes nothing.
use Rattle.path_segment.proofs.Reading.{cubic-at}
use Rattle.path_segment.proofs.fields.segment_at.Goals as goal

pub returns-in-2 : goal.returns-in-2
returns-in-2 c =
    cubic-at c.args.fields.now c.args.at c.point_at-in-2.ensures c.point_at-in-2-2.ensures c.point_at-in-2-3.ensures c.point_at-in-2-4.ensures
    c.in-2.is
