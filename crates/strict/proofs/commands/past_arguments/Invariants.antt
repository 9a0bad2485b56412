-- `strict::past_arguments` meets its contract. The invariant is `Going`: the items from `at` up to `end` are words, and what is left of any others
-- from `at` is words from `end`, unless they ended where a sequence could go on. The measure is what is left of the text. Assumes nothing.
use Prim.Native.Nat.{◌-◌}
use lib.ListN.{length}
use Rattle.strict.proofs.Sequences.{Going}
use Rattle.strict.proofs.commands.past_arguments.Given as goal

abbrev pub invariant-loop-next : goal.invariant-loop-next
invariant-loop-next l = Going l.text.edition l.text.bytes.now l.kind l.at l.end

abbrev pub decreases-loop-next : goal.decreases-loop-next
decreases-loop-next l = length l.text.bytes.now - l.end
