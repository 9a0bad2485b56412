-- The invariant: the sines before i are put, and the other places have their angles. Assumes nothing.
use native.Mathlib.Omega.{arith}
use mathlib.Core.Path.{◌≡◌, sym, ap, ◌∙◌}
use Prim.Native.Nat.{ℕ}
use lib.Ieee.{Float}
use Rattle.trig_rule.specs.Steps.{sine_of}
use Rattle.trig_all.proofs.Rows.{run-here, run_more}
use Rattle.trig_all.proofs.passes.put_sines.Goals as goal

-- what is known of an angle, of the place that still has it

of-place : (f : Float → ℕ) {n : ℕ} {x y : Float} → y ≡ x → n ≡ f x → n ≡ f y
of-place f same e = e ∙ ap f (sym same)

pub loop-i-preserved : goal.loop-i-preserved
loop-i-preserved c =
    run_more c.loop-i.invariant (omega (arith, c.loop-i-test.true, c.requires.places.1)) _ (c.sine_from.ensures ∙ ap sine_of (run-here c.loop-i.invariant))
