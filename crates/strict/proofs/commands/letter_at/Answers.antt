-- `strict::letter_at` meets its contract: a byte of the text begins what it begins anywhere, and past the text nothing does. Assumes nothing.
use Rattle.scan.proofs.RunLaws.{stands-past}
use Rattle.strict.specs.Commands.{command_letters}
use Rattle.strict.proofs.Letters.{letter-stands}
use Rattle.strict.proofs.commands.letter_at.Goals as goal

pub returns-then-at-text : goal.returns-then-at-text
returns-then-at-text c = letter-stands _ _ c.if-at-text.true c.letter_of.result c.letter_of.ensures

pub returns-else-at-text : goal.returns-else-at-text
returns-else-at-text c = stands-past command_letters _ _ c.if-at-text.false
