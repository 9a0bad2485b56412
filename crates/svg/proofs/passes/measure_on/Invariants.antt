-- `svg::passes::measure_on` meets its contract. The loop keeps that the commands up to its place are known and counted; the measure is what is
-- left of the text, of which each step passes a byte. Assumes nothing.
use Prim.Native.Nat.{◌-◌}
use lib.ListN.{length}
use Rattle.svg.proofs.Passing.{Passing}
use Rattle.svg.proofs.passes.measure_on.Given as goal

abbrev pub invariant-loop-pass : goal.invariant-loop-pass
invariant-loop-pass l = Passing l.text l.from l.remembered l.placed l.counts.letters l.counts.numbers

abbrev pub decreases-loop-pass : goal.decreases-loop-pass
decreases-loop-pass l = length l.text - l.from
