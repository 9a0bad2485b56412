-- `strict::matches` meets its contract. The invariant: the text matches exactly where it can be read to its end from `at`, at which a command is due.
-- The measure is what is left of the text; a command has a byte, so it falls. Assumes nothing.
use Prim.Native.Nat.{◌-◌}
use lib.ListN.{length}
use Rattle.strict_grammar.specs.Grammar.{Matches}
use Rattle.strict.proofs.Rests.{Rest}
use Rattle.strict.proofs.texts.matches.Given as goal

abbrev pub invariant-loop-at : goal.invariant-loop-at
invariant-loop-at l = (Matches l.text.edition l.text.bytes.now → Rest l.text.edition l.text.bytes.now l.alone l.begun l.at) × (Rest l.text.edition l.text.bytes.now l.alone l.begun l.at → Matches l.text.edition l.text.bytes.now)

abbrev pub decreases-loop-at : goal.decreases-loop-at
decreases-loop-at l = length l.text.bytes.now - l.at
