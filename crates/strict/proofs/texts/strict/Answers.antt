-- `strict::strict` meets its contract: each known number is an edition's, and any other is refused. Assumes nothing.
use mathlib.Core.Path.{refl}
use borrow.Author.Rules.{rules}
use Rattle.strict.specs.Verdicts.{known, unknown}
use Rattle.strict.proofs.VerdictLaws.{unnumbered}
use Rattle.strict.proofs.texts.strict.Goals as goal
use Rattle.strict.proofs.texts.strict.Goals.{in-1, in-2}

pub returns : goal.returns
returns c =
    known c.match-edition.edition
    (elim c.match-edition.branch [
      | in-1 w ↦ rw w.edition-is (search rules)
      | in-2 w ↦ rw w.edition-is (search rules)
    ])
    c.judge.ensures

pub returns-in_default : goal.returns-in_default
returns-in_default c = unknown (unnumbered _ (search rules) (search rules)) refl
