-- `path_text::texts::survey` meets its contract: the commands read so far are known, and the measure is what is left of the text, of which each step passes a byte.
-- Assumes nothing.
use Prim.Native.Nat.{◌-◌}
use lib.ListN.{length}
use Rattle.path_text.proofs.Steps.{Surveying}
use Rattle.path_text.proofs.texts.survey.Given as goal

abbrev pub invariant-loop-step : goal.invariant-loop-step
invariant-loop-step l = Surveying l.text l.reader l.tally

abbrev pub decreases-loop-step : goal.decreases-loop-step
decreases-loop-step l = length l.text - l.reader.at
