-- `path_text::texts::fill` meets its contract: the commands read so far are known and what they draw is written, and the measure is what is left of the text, of
-- which each step passes a byte. Assumes nothing.
use Prim.Native.Nat.{◌-◌}
use lib.ListN.{length}
use Rattle.path_stored.specs.Buffers.{buffers}
use Rattle.path_text.proofs.Steps.{Storing}
use Rattle.path_text.proofs.texts.fill.Given as goal

abbrev pub invariant-loop-step : goal.invariant-loop-step
invariant-loop-step l =
    Storing l.text l.reader l.site l.number (buffers l.initial.kinds l.initial.fields l.initial.tables l.initial.lengths l.initial.commands)
    (buffers l.kinds l.fields l.tables l.lengths l.commands)

abbrev pub decreases-loop-step : goal.decreases-loop-step
decreases-loop-step l = length l.text - l.reader.at
