-- Buffers are equal where each of the five is. Assumes nothing.
use Prim.Native.Nat.{ℕ}
use mathlib.Core.Path.{◌≡◌}
use mathlib.Core.List.{List}
use lib.Ieee.{Float}
use Rattle.path_stored.specs.Buffers.{buffers}

pub buffers-are : {kinds kinds' commands commands' : List ℕ} {fields fields' tables tables' lengths lengths' : List Float} → kinds ≡ kinds' → fields ≡ fields' → tables ≡ tables' → lengths ≡ lengths'
    → commands ≡ commands' → buffers kinds fields tables lengths commands ≡ buffers kinds' fields' tables' lengths' commands'
buffers-are k f t l c = rw (k, f, t, l, c)
