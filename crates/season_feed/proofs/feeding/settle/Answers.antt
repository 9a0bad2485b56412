-- `season_feed::feeding::settle` meets its contract: a plan whose bytes are all there is completed. Assumes nothing.
use borrow.Author.Rules.{rules}
use Rattle.season_feed.proofs.Wholes.{settled_same, settled-open, settled-full, settled-completed, stood-countable, stood-few}
use Rattle.season_feed.proofs.feeding.settle.Goals as goal

pub returns-then-plans-eq17179869184 : goal.returns-then-plans-eq17179869184
returns-then-plans-eq17179869184 c = settled-full c.in-Plan.is c.if-size-have.true c.if-plans-eq17179869184.true

pub complete-requires : goal.complete-requires
complete-requires c = stood-countable c.requires (stood-few c.requires c.if-plans-eq17179869184.false)

pub returns-then-size-have : goal.returns-then-size-have
returns-then-size-have c =
    settled-completed c.requires c.in-Plan.is c.if-size-have.true (stood-few c.requires c.if-plans-eq17179869184.false)
    c.complete.ensures

pub returns-in-Plan : goal.returns-in-Plan
returns-in-Plan c = settled-open c.requires c.in-Plan.is c.if-size-have.false

pub returns-in-Line : goal.returns-in-Line
returns-in-Line c = settled_same c.in-Line.is tt

pub returns-in-Ended : goal.returns-in-Ended
returns-in-Ended c = settled_same c.in-Ended.is tt

pub returns-in-Full : goal.returns-in-Full
returns-in-Full c = settled_same c.in-Full.is tt
