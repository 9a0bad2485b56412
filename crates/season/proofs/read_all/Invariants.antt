-- The loop keeps that some bytes were fed and no plan is left to be judged.
use Rattle.std.proofs.Common.{◌≡◌, length}
use Rattle.season_feed.specs.Standing.{Ready}
use Rattle.season.proofs.read_all.Given as goal

abbrev pub invariant-loop : goal.invariant-loop
invariant-loop g l = Ready l.state l.text l.counts
