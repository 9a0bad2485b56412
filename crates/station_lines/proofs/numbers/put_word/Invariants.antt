-- `station_lines::numbers::put_word` meets its contract. The loop keeps that the bytes before its place are put. Assumes nothing.
use lib.ListN.{take}
use Rattle.station_lines.specs.Put.{Put}
use Rattle.station_lines.proofs.numbers.put_word.Given as goal

abbrev pub invariant-loop-byte : goal.invariant-loop-byte
invariant-loop-byte l = Put (take l.byte-index l.word) l.at l.initial.out l.out l.past
