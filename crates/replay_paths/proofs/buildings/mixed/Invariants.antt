-- The invariant: the pattern has 32 bits.
use Rattle.std.proofs.Common.{◌<◌}
use Rattle.replay_paths.proofs.buildings.mixed.Given as goal

abbrev pub invariant-loop-number : goal.invariant-loop-number
invariant-loop-number l = l.sum < 4294967296
