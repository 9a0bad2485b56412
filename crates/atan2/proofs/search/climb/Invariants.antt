-- The climb from t by k strides ends where the whole climb does. Assumes nothing.
use Prim.Native.Nat.{◌≤◌, ◌<◌}
use mathlib.Core.Path.{◌≡◌}
use Rattle.atan2_rule.specs.Steps.{ahead_at, climb}
use Rattle.atan2.proofs.search.climb.Given as goal

abbrev pub invariant-loop-k : goal.invariant-loop-k
invariant-loop-k l = (climb (ahead_at l.d.u l.d.v l.d.left) l.to l.k l.t ≡ climb (ahead_at l.d.u l.d.v l.d.left) l.to 27 l.from) × (947912704 ≤ l.t) × (l.t < l.to)
