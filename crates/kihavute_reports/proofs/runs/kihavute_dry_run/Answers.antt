-- `kihavute_dry_run` meets its contract: the answer's length is judged first, then the entry's own promise is reported. Assumes nothing.
use borrow.Author.Rules.{rules}
use native.Mathlib.Omega.{arith}
use Rattle.kihavute_reports.proofs.RunsGiven.{no_run, run-reported, ordered-run-same}
use Rattle.kihavute_reports.proofs.runs.kihavute_dry_run.Goals as goal

pub returns-then-answer-lt8 : goal.returns-then-answer-lt8
returns-then-answer-lt8 c = record { run_given = no_run _ _ _ _ _ c.if-answer-lt8.true; ordered_given = λ long. absurd (omega (arith, c.if-answer-lt8.true, long)) }

pub returns : goal.returns
returns c =
    record {
      run_given = run-reported _ _ _ _ _ _ c.if-answer-lt8.false c.dry_run-run.ensures.dry_run c.give_count.ensures;
      ordered_given = λ long. ordered-run-same _ _ _ _ c.dry_run-run.ensures.dry_run.answer c.dry_run-run.ensures.ordered_run;
    }
