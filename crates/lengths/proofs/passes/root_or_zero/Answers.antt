-- Both squares passed, so that the candidate is the root (`settled`), which is not far; every other way gives 0. Assumes nothing.
use mathlib.Core.Path.{refl}
use mathlib.Core.Logic.{inl, inr}
use Prim.Native.Nat.{◌+◌, ◌*◌, ◌/◌}
use native.Mathlib.Omega.{arith}
use denote.Floats.{passes}
use lib.Ieee.{binary64, to_bits}
use Rattle.floats.specs.Patterns.{narrow_step, narrow_half}
use Rattle.floats.specs.Floats.{zero_f}
use Rattle.floats.proofs.Tests.{passed}
use Rattle.decimal_rounding.proofs.Wide.{no_nan, no-nan-single}
use Rattle.lengths.proofs.Judged.{settled}
use Rattle.lengths.proofs.Far.{under-far}
use Rattle.lengths.proofs.passes.root_or_zero.Goals as goal

pub float_from_bits-low : goal.float_from_bits-low
float_from_bits-low c = no_nan _ (omega (arith, c.clamped-g.ensures))

pub float_from_bits-high : goal.float_from_bits-high
float_from_bits-high c = no_nan _ (omega (arith, c.clamped-g.ensures))

pub float_from_bits-root : goal.float_from_bits-root
float_from_bits-root c = no-nan-single _ (omega (arith, c.clamped-g.ensures))

pub returns-then-s-high : goal.returns-then-s-high
returns-then-s-high c =
    let e = c.clamped-g.ensures in
    let t = (to_bits binary64 c.clamped-g.result + narrow_half) / narrow_step in
    inr (
      under-far (t * narrow_step + 268435455) (omega (arith, e)) (omega (arith, e)) c.args.s (passed c.if-s-high.true),
      settled t (omega (arith, e)) (omega (arith, e)) c.args.s (passes _ c.well_formed.0.1) c.requires (passed c.if-low-s.true) (passed c.if-s-high.true),
    )

pub returns-else-s-high : goal.returns-else-s-high
unfolding zero_f
returns-else-s-high c = inl refl

pub returns-else-low-s : goal.returns-else-low-s
unfolding zero_f
returns-else-low-s c = inl refl
