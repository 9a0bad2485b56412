-- `strict::judge` meets its contract: each answer is one of the three judgements. Assumes nothing.
use mathlib.Core.Path.{refl}
use Rattle.strict.specs.Verdicts.{too_long}
use Rattle.strict.proofs.VerdictLaws.{judged-by-test}
use Rattle.strict.proofs.texts.judge.Goals as goal

pub returns-then-length-gt65536 : goal.returns-then-length-gt65536
returns-then-length-gt65536 c = too_long c.if-length-gt65536.true refl

pub returns : goal.returns
returns c = judged-by-test _ _ _ c.if-length-gt65536.false c.matches.ensures
