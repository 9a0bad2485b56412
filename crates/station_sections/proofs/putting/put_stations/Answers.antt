-- `station_sections::putting::put_stations` meets its contract. The loop keeps that the lines of the stations before `number` are put. Assumes nothing.
use native.Mathlib.Omega.{arith}
use Rattle.station_sections.specs.Sections.{station_lines}
use Rattle.station_sections.proofs.LinesTo.{to_none, to-length, to-more, to-all}
use Rattle.station_sections.proofs.putting.put_stations.Goals as goal

pub loop-number-init : goal.loop-number-init
loop-number-init c = to_none _ _ _ _

pub put_one-at-requires : goal.put_one-at-requires
put_one-at-requires c =
    (c.requires.0, c.loop-number-test.true, omega (arith, c.loop-number.invariant.within, c.requires.0.most, c.requires.1))

pub loop-number-preserved : goal.loop-number-preserved
loop-number-preserved c = to-more _ _ _ _ _ _ _ c.loop-number.invariant _ _ c.put_one-at.ensures

pub shape_of-out : goal.shape_of-out
shape_of-out c = to-length _ _ _ _ _ _ _ c.loop-number.invariant

pub returns : goal.returns
unfolding station_lines
returns c =
    to-all _ _ _ _ _ _ _ _ c.loop-number.invariant c.args.count (omega (arith, c.loop-number-test.false)) (omega (arith, c.requires.0.most))
