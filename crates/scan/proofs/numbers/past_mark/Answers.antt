-- `scan::past_mark` meets its contract: an e and its sign are passed, another byte is left, and past the text there is none. Assumes nothing.
use mathlib.Core.Path.{sym, ◌∙◌}
use borrow.Author.Rules.{rules}
use Rattle.scan.proofs.NumberLaws.{mark-taken, mark-left, mark-end}
use Rattle.scan.proofs.numbers.past_mark.Goals as goal

pub returns-then-is_exponent_mark : goal.returns-then-is_exponent_mark
returns-then-is_exponent_mark c =
    c.past_sign.ensures ∙ mark-taken _ _ (search rules) (sym c.is_exponent_mark.ensures ∙ c.if-is_exponent_mark.true)

pub returns-else-is_exponent_mark : goal.returns-else-is_exponent_mark
returns-else-is_exponent_mark c = mark-left _ _ (search rules) (sym c.is_exponent_mark.ensures ∙ c.if-is_exponent_mark.false)

pub returns-else-at-text : goal.returns-else-at-text
returns-else-at-text c = mark-end _ _ (search rules)
