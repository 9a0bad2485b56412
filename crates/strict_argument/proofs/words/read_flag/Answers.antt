-- `strict_argument::read_flag` meets its contract: a flag is one byte, and past the text there is none. Assumes nothing.
use mathlib.Core.Path.{sym, ◌∙◌}
use borrow.Author.Rules.{rules}
use Rattle.scan.specs.Bytes.{flags}
use Rattle.scan.proofs.RunLaws.{stands-inside, stands-past}
use Rattle.strict_argument.proofs.Steps.{flag-taken, flag-left}
use Rattle.strict_argument.proofs.words.read_flag.Goals as goal
use Rattle.strict_argument.proofs.words.read_flag.Goals.{else-at-text-via-then-at-text+else-is_flag, else-at-text-via-else-at-text}

pub returns-then-is_flag : goal.returns-then-is_flag
returns-then-is_flag c = flag-taken c.args.text.now _ (stands-inside flags _ _ (search rules) ∙ (sym c.is_flag.ensures ∙ c.if-is_flag.true))

pub returns-else-at-text : goal.returns-else-at-text
returns-else-at-text c =
    elim c.else-at-text.branch [
      | else-at-text-via-then-at-text+else-is_flag w ↦ flag-left c.args.text.now _ (stands-inside flags _ _ w.if-at-text.true ∙ (sym w.is_flag.ensures ∙ w.if-is_flag.false))
      | else-at-text-via-else-at-text w ↦ flag-left c.args.text.now _ (stands-past flags _ _ w.if-at-text.false)
    ]
