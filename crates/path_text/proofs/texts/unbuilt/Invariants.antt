-- `path_text::texts::unbuilt` meets its contract: the commands read so far are known (`Known`), and the measure is what is left of the text, of which each step
-- passes a byte. Assumes nothing.
use Prim.Native.Nat.{◌-◌}
use mathlib.Core.List.{List}
use lib.ListN.{length}
use Rattle.commands.specs.declared.command.PathCommand.{PathCommand}
use Rattle.svg.proofs.PassLaws.{Known}
use Rattle.path_text.proofs.texts.unbuilt.Given as goal

abbrev pub invariant-loop-step : goal.invariant-loop-step
invariant-loop-step l = (passed : List PathCommand) × Known l.text l.reader passed

abbrev pub decreases-loop-step : goal.decreases-loop-step
decreases-loop-step l = length l.text - l.reader.at
