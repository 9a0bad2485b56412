-- `station_lines::numbers::put_word` meets its contract. The loop keeps that the bytes before its place are put. Assumes nothing.
use native.Mathlib.Omega.{arith}
use Rattle.station_lines.proofs.Putting.{put-none, put-length, put_next, put_all, word_room}
use Rattle.station_lines.proofs.numbers.put_word.Goals as goal

pub loop-byte-init : goal.loop-byte-init
loop-byte-init c = put-none _ _

pub put_byte-past-requires : goal.put_byte-past-requires
put_byte-past-requires c = word_room _ _ _ _ _ _ c.loop-byte-test.true c.loop-byte.invariant c.requires

pub loop-byte-preserved : goal.loop-byte-preserved
loop-byte-preserved c = put_next _ _ _ _ _ _ _ _ c.loop-byte-test.true c.loop-byte.invariant c.put_byte-past.ensures

pub shape_of-out : goal.shape_of-out
shape_of-out c = put-length c.loop-byte.invariant

pub returns : goal.returns
returns c = put_all (omega arith) c.loop-byte-test.false c.loop-byte.invariant
