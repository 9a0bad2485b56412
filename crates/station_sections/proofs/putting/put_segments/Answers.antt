-- `station_sections::putting::put_segments` meets its contract. The loop keeps that the lines of the segments before k are put. Assumes nothing.
use native.Mathlib.Omega.{arith}
use lib.ListN.{length}
use Rattle.station_sections.specs.Sections.{segment_lines}
use Rattle.station_sections.proofs.LinesTo.{to_none, to-length, to-more, to-all}
use Rattle.station_sections.proofs.putting.put_segments.Goals as goal

pub loop-k-init : goal.loop-k-init
loop-k-init c = to_none _ _ _ _

pub overflow_cast-commands : goal.overflow_cast-commands
overflow_cast-commands c =
    omega (arith, c.requires.0.small c.loop-k.k (omega arith))

pub put_segment-at-requires : goal.put_segment-at-requires
put_segment-at-requires c =
    (c.requires.0.small c.loop-k.k (omega arith), omega (arith, c.loop-k.invariant.within, c.requires.0.few))

pub loop-k-preserved : goal.loop-k-preserved
loop-k-preserved c = to-more _ _ _ _ _ _ _ c.loop-k.invariant _ _ c.put_segment-at.ensures

pub shape_of-out : goal.shape_of-out
shape_of-out c = to-length _ _ _ _ _ _ _ c.loop-k.invariant

pub returns : goal.returns
unfolding segment_lines
returns c =
    to-all _ _ _ _ _ _ _ _ c.loop-k.invariant (length c.args.path.kinds.now) (omega (arith, c.loop-k-test.false)) (omega (arith, c.requires.0.few))
