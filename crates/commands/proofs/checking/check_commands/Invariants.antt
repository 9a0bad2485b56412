-- `commands::check_commands` meets its contract: the loop keeps that the list from its letter on is judged as the whole list is. Assumes nothing.
use Prim.Native.Nat.{◌≤◌}
use mathlib.Core.Path.{◌≡◌}
use lib.ListN.{length}
use Rattle.commands.specs.Listed.{listed}
use Rattle.commands.specs.Checked.{judged}
use Rattle.commands.proofs.Listing.{listed_from}
use Rattle.commands.proofs.checking.check_commands.Given as goal

abbrev pub invariant-loop-letter_at : goal.invariant-loop-letter_at
invariant-loop-letter_at l = (l.at ≤ length l.numbers) × (judged (listed_from l.letters l.numbers l.letter_at l.at) ≡ judged (listed 0 l.letters l.numbers))
