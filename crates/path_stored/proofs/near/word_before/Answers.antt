-- `path_stored::near::word_before` meets its contract. Assumes nothing.
use Prim.Native.Nat.{◌-◌}
use native.Mathlib.Omega.{arith}
use Rattle.path_stored.proofs.Lanes.{word-is}
use Rattle.path_stored.proofs.near.word_before.Goals as goal

pub returns : goal.returns
returns c =
    omega (arith, word-is c.args.kinds.now (c.args.end - 8))
