-- `season_feed::feeding::complete` meets its contract: a plan that is too long is one mark, another is judged. Assumes nothing.
use borrow.Author.Rules.{rules}
use native.Mathlib.Omega.{arith}
use Rattle.std.proofs.lemmas.List.{length-take}
use Rattle.season_plan.proofs.Marks.{roomy-less}
use Rattle.season_feed.proofs.Wholes.{long-completed, accepted-completed, refused-completed, sum_room}
use Rattle.season_feed.proofs.feeding.complete.Goals as goal

pub bump-requires : goal.bump-requires
bump-requires c = (omega (arith, c.requires.rows), roomy-less c.requires.roomy (omega arith))

pub returns-then-size-gt4096 : goal.returns-then-size-gt4096
returns-then-size-gt4096 c = long-completed c.if-size-gt4096.true c.bump.ensures

pub judge-requires : goal.judge-requires
judge-requires c =
    (c.requires.rows, c.requires.roomy, omega (arith, length-take c.args.size c.args.text.now, c.if-size-gt4096.false))

pub more-requires : goal.more-requires
more-requires c =
    sum_room _ _ _ _ _ _ c.judge.ensures c.in-Some.is c.requires.few c.requires.sum

pub returns-in-Some : goal.returns-in-Some
returns-in-Some c =
    accepted-completed c.if-size-gt4096.false c.judge.ensures c.in-Some.is c.more.ensures

pub returns-in-None : goal.returns-in-None
returns-in-None c = refused-completed c.if-size-gt4096.false c.judge.ensures c.in-None.is
