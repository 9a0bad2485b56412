-- The invariant: the root is from q up to q + room, that is not reached. The measure is the room. Assumes nothing.
use Prim.Native.Nat.{◌+◌, ◌*◌, ◌^◌, ◌≤◌, ◌<◌}
use Rattle.lengths.proofs.exact.whole.Given as goal

abbrev pub invariant-loop-room : goal.invariant-loop-room
invariant-loop-room l = (0 < l.room) × (l.q + l.room ≤ 2 ^ 27) × (l.q * l.q ≤ l.n) × (l.n < (l.q + l.room) * (l.q + l.room))

abbrev pub decreases-loop-room : goal.decreases-loop-room
decreases-loop-room l = l.room
