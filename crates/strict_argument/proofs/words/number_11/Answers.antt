-- `strict_argument::number_11` meets its contract: each answer of `scan_number` says where the grammar's number ends. Assumes nothing.
use mathlib.Core.Path.{ap, sym, ◌∙◌}
use Rattle.std.specs.Prelude.{Err}
use Rattle.strict_argument.proofs.Steps.{scanned-reads, bare-reads, none_reads}
use Rattle.strict_argument.proofs.words.number_11.Goals as goal

pub returns-in-Ok : goal.returns-in-Ok
returns-in-Ok c = scanned-reads c.args.text.now _ _ (sym c.scan_number.ensures ∙ c.in-Ok.is)

pub returns-in-Err-NoExponentDigit : goal.returns-in-Err-NoExponentDigit
returns-in-Err-NoExponentDigit c = bare-reads c.args.text.now _ _ (sym c.scan_number.ensures ∙ c.in-Err-NoExponentDigit.is ∙ ap Err c.in-Err-NoExponentDigit.field-0-is)

pub returns-in-Err-NoDigit : goal.returns-in-Err-NoDigit
returns-in-Err-NoDigit c = none_reads c.args.text.now _ _ (sym c.scan_number.ensures ∙ c.in-Err-NoDigit.is ∙ ap Err c.in-Err-NoDigit.field-0-is)
