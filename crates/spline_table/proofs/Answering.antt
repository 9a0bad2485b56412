-- How many entries a table has. Assumes nothing.
use mathlib.Core.Path.{◌≡◌, ◌∙◌}
use mathlib.Core.List.{List}
use Prim.Native.Nat.{ℕ, ◌+◌}
use native.Mathlib.Omega.{arith}
use lib.ListN.{length}
use lib.Ieee.{Float}
use Rattle.table_samples.specs.Samples.{lengths_of}
use Rattle.table_samples.proofs.Made.{made-count}
use Rattle.spline.specs.Formula.{spline_sample_of}

pub entries_count : (points : List Float) (last : ℕ) → length (lengths_of (spline_sample_of points) last) ≡ last + 1
entries_count points last = made-count (spline_sample_of points) last ∙ omega arith
