-- `path_text::texts::judge` meets its contract: the commands read so far are known, and the measure is what is left of the text, of which each step passes a byte.
-- Assumes nothing.
use Prim.Native.Nat.{◌-◌}
use lib.ListN.{length}
use Rattle.path_text.proofs.Steps.{Measuring}
use Rattle.path_text.proofs.texts.judge.Given as goal

abbrev pub invariant-loop-step : goal.invariant-loop-step
invariant-loop-step l = Measuring l.text l.reader l.site

abbrev pub decreases-loop-step : goal.decreases-loop-step
decreases-loop-step l = length l.text - l.reader.at
