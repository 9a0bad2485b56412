-- `scan::past_comma` meets its contract: the test of its closure is that of the class. Assumes nothing.
use mathlib.Core.Path.{◌≡◌, ◌∙◌}
use lib.Dec.{eqb}
use borrow.Author.Rules.{rules}
use Rattle.scan.specs.Bytes.{commas}
use Rattle.scan.proofs.ByteLaws.{alone}
use Rattle.scan.proofs.runs.past_comma.Goals as goal

pub returns : goal.returns
returns c = c.past_optional.ensures commas (λ byte is fits h. let e : is ≡ eqb byte 44 = search rules in e ∙ alone byte 44)
