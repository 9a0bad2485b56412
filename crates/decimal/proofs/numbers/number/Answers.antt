-- `decimal::numbers::number` meets its contract: what is found is a number with all that its value needs, or the refusal. Assumes nothing.
use mathlib.Core.Path.{◌≡◌}
use borrow.Author.Rules.{rules}
use Rattle.std.specs.Prelude.{Err}
use Rattle.decimal.specs.Decimal.{number_of}
use Rattle.decimal.proofs.Found.{number-value}
use Rattle.decimal.proofs.numbers.number.Goals as goal

pub value-requires : goal.value-requires
value-requires c = c.in_ok-parts.ensures.said.1

pub returns : goal.returns
returns c = number-value _ _ _ _ c.in_ok-parts.ensures.said.0 c.value.ensures

pub returns-in_err-parts : goal.returns-in_err-parts
returns-in_err-parts c =
    let said : Err c.in_err-parts.field-0.0 ≡ number_of c.args.text.now c.args.at = c.in_err-parts.ensures.said in search rules
