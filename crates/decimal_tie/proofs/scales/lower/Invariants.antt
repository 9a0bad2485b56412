-- `decimal_tie::scales::lower`: `w` times the tens that are left is f times all of them, against any fraction below 1.
use mathlib.Core.Path.{◌≡◌}
use Prim.Native.Nat.{ℕ, ◌-◌, ◌*◌, ◌^◌, ◌<◌, compare}
use Rattle.decimal_tie.specs.Words.{wide_of, Small}
use Rattle.decimal_tie.proofs.scales.lower.Given as goal

abbrev pub invariant-zeros : goal.invariant-zeros
invariant-zeros l =
    Small l.w
    × ((v b : ℕ) → v < b → compare (v * 2 ^ 150) (wide_of l.initial.w * (10 ^ l.zeros * b)) ≡ compare (v * 2 ^ 150) (wide_of l.w * (10 ^ (l.zeros - l.counter) * b)))
