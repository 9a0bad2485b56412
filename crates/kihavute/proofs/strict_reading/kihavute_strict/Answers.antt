-- `kihavute_strict` meets its contract: a yes, a no and a refusal are reported with their number and values. Assumes nothing.
use borrow.Author.Rules.{rules}
use mathlib.Core.Bool.{Bool, cond}
use mathlib.Core.Path.{◌≡◌, sym, subst}
use Rattle.std.specs.Prelude.{Result, Ok, Err}
use Rattle.answers.specs.declared.refusals.Refusal.{Refusal}
use Rattle.strict.specs.Verdicts.{JudgedBy, answer_of}
use Rattle.kihavute.proofs.StrictGiven.{reported-yes}
use Rattle.kihavute.proofs.strict_reading.kihavute_strict.Goals as goal

pub returns-in-Ok : goal.returns-in-Ok
returns-in-Ok c =
    record {
      answer = answer_of (Ok c.in-Ok.yes);
      judged = subst (λ (v : Result Bool Refusal). JudgedBy c.args.edition c.args.text.now (answer_of v)) c.in-Ok.is c.strict.ensures;
      reported = let is : c.from.result ≡ cond c.in-Ok.yes 1 0 = search rules in reported-yes c.in-Ok.yes (rw is at c.report.ensures);
    }

pub returns-in-Err : goal.returns-in-Err
returns-in-Err c =
    record {
      answer = answer_of (Err c.in-Err.refusal);
      judged = subst (λ (v : Result Bool Refusal). JudgedBy c.args.edition c.args.text.now (answer_of v)) c.in-Err.is c.strict.ensures;
      reported = rw (sym c.number.ensures, sym c.carried.ensures) c.report-in-Err.ensures;
    }
