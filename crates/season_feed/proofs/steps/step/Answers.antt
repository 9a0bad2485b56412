-- `season_feed::steps::step` meets its contract: phase by phase. Assumes nothing.
use borrow.Author.Rules.{rules}
use mathlib.Core.Path.{subst}
use Rattle.season_feed.specs.Standing.{Steady}
use Rattle.season_feed.proofs.Bytes.{ended-stays, full-stays, line-steps, plan-steps}
use Rattle.season_feed.proofs.steps.step.Goals as goal

pub in_line-requires : goal.in_line-requires
in_line-requires c = subst Steady c.in-Line.is c.requires

pub returns-in-Line : goal.returns-in-Line
returns-in-Line c = line-steps _ c.in-Line.is c.in_line.ensures

pub in_plan-requires : goal.in_plan-requires
in_plan-requires c = subst Steady c.in-Plan.is c.requires

pub returns-in-Plan : goal.returns-in-Plan
returns-in-Plan c = plan-steps c.in-Plan.is c.in_plan.ensures

pub returns-in-Ended : goal.returns-in-Ended
returns-in-Ended c = ended-stays _ _ c.in-Ended.is

pub returns-in-Full : goal.returns-in-Full
returns-in-Full c = full-stays _ _ c.in-Full.is
