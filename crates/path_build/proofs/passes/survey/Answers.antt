-- `path_build::passes::survey` meets its contract. Assumes nothing.
use mathlib.Core.Path.{sym, ◌∙◌}
use native.Mathlib.Omega.{arith}
use Rattle.path_build.proofs.Lists.{formed}
use Rattle.path_build.proofs.Along.{surveying-none, surveying-inside, surveying-few, surveying-fits, surveying-more, surveyed-all}
use Rattle.path_build.proofs.passes.survey.Goals as goal

pub loop-letter-init : goal.loop-letter-init
loop-letter-init c = rw c.opening-tally.ensures (surveying-none (formed _ c.requires))

pub decode-requires : goal.decode-requires
decode-requires c = surveying-inside c.loop-letter.invariant

pub count-requires : goal.count-requires
count-requires c = surveying-few c.loop-letter.invariant c.loop-letter-test.true

pub overflow_add-at : goal.overflow_add-at
overflow_add-at c =
    let fits = surveying-fits c.loop-letter.invariant c.loop-letter-test.true (sym c.decode.ensures ∙ c.in_ok-command.was) in
    omega (arith, fits, c.width-at.ensures)

pub loop-letter-preserved : goal.loop-letter-preserved
loop-letter-preserved c =
    surveying-more c.loop-letter.invariant c.loop-letter-test.true (sym c.decode.ensures ∙ c.in_ok-command.was) c.width-at.ensures (sym c.count.ensures ∙ c.in_ok-tally.was)

pub returns : goal.returns
returns c = surveyed-all c.loop-letter.invariant c.loop-letter-test.false
