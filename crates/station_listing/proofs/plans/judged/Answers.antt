-- `station_listing::plans::judged` meets its contract: a refused line is told, and the path of a line that asks starts past it. Assumes nothing.
use borrow.Author.Rules.{rules}
use mathlib.Core.Path.{sym, ◌∙◌}
use native.Mathlib.Omega.{arith}
use Rattle.station_listing.proofs.Asking.{asked}
use Rattle.station_listing.proofs.Telling.{line_refused, line-asked, asked-past}
use Rattle.station_listing.proofs.plans.judged.Goals as goal

pub returns-in-Err : goal.returns-in-Err
returns-in-Err c =
    line_refused _ _ _ _ _ c.requires.is _ c.in-Err.is c.put_refusal.ensures

pub answer-requires : goal.answer-requires
answer-requires c =
    let a = asked _ _ 0 (sym c.requires.is ∙ c.in-Ok.is) in
    (omega (arith, a.inside, asked-past _ c.in-Ok.is c.requires.past), a.least, a.most)

pub returns-in-Ok : goal.returns-in-Ok
returns-in-Ok c =
    line-asked _ _ _ _ _ c.requires.is _ c.in-Ok.is (rw (asked-past _ c.in-Ok.is c.requires.past) c.answer.ensures)
