-- `kihavute_segment` meets its contract: the answer's length is judged first, then each case of what the entry below gives. Assumes nothing.
use Rattle.kihavute_segments.proofs.SegmentsGiven.{segment-short}
use Rattle.kihavute_segments.proofs.segments.kihavute_segment.Goals as goal

pub returns-then-answer-lt8 : goal.returns-then-answer-lt8
returns-then-answer-lt8 c = segment-short _ _ _ c.if-answer-lt8.true
