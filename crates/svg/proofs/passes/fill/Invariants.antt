-- `svg::passes::fill` meets its contract. The loop keeps that the commands up to its place are known and stored; the measure is what is left of
-- the text, of which each step passes a byte. Assumes nothing.
use Prim.Native.Nat.{◌-◌}
use lib.ListN.{length}
use Rattle.svg.specs.Lists.{command_list}
use Rattle.svg.specs.Texts.{Holding}
use Rattle.svg.proofs.passes.fill.Given as goal

abbrev pub invariant-loop-refusal : goal.invariant-loop-refusal
invariant-loop-refusal l = Holding l.text (command_list l.initial.letters l.initial.numbers l.initial.offsets) (command_list l.letters l.numbers l.offsets) l.reader l.letter_at l.at

abbrev pub decreases-loop-refusal : goal.decreases-loop-refusal
decreases-loop-refusal l = length l.text - l.reader.at
