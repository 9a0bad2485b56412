-- `season_feed::feeding::feed` meets its contract: the loop keeps that the bytes before its index were fed. Assumes nothing.
use lib.ListN.{take}
use Rattle.season_feed.specs.Standing.{Ready, Fed}
use Rattle.season_feed.proofs.feeding.feed.Given as goal

abbrev pub invariant-loop-byte : goal.invariant-loop-byte
invariant-loop-byte l =
    Ready l.state l.text l.counts × Fed (take l.byte-index l.piece) l.initial.state l.initial.text l.initial.counts l.state l.text l.counts
