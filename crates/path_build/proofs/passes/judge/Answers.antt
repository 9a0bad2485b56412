-- `path_build::passes::judge` meets its contract. Assumes nothing.
use borrow.Author.Rules.{rules}
use mathlib.Core.Path.{◌≡◌, sym, ◌∙◌}
use Rattle.std.specs.Prelude.{Err}
use native.Mathlib.Omega.{arith}
use Rattle.path_build.proofs.Lists.{formed}
use Rattle.path_build.proofs.Along.{measuring-none, measuring-inside, measuring-few, measuring-bad, measuring-fits, measured-refused, measuring-more, measured-all}
use Rattle.path_build.proofs.passes.judge.Goals as goal

pub loop-letter_at-init : goal.loop-letter_at-init
loop-letter_at-init c = rw c.start-site.ensures (measuring-none (formed _ c.requires))

pub decode-requires : goal.decode-requires
decode-requires c = measuring-inside c.loop-letter_at.invariant

pub returns-in_default : goal.returns-in_default
returns-in_default c = absurd (measuring-bad c.loop-letter_at.invariant c.loop-letter_at-test.true (sym c.decode.ensures ∙ c.in_default.is))

pub advance-requires : goal.advance-requires
advance-requires c = measuring-few c.loop-letter_at.invariant c.loop-letter_at-test.true

pub returns-in_err-site : goal.returns-in_err-site
returns-in_err-site c =
    let e : c.from_residual.result ≡ Err c.in_err-site.field-0.0 = search rules in
    rw e
    (measured-refused c.loop-letter_at.invariant c.loop-letter_at-test.true (sym c.decode.ensures ∙ c.in-Some.is) (sym c.advance.ensures ∙ c.in_err-site.was))

pub overflow_add-at : goal.overflow_add-at
overflow_add-at c =
    let fits = measuring-fits c.loop-letter_at.invariant c.loop-letter_at-test.true (sym c.decode.ensures ∙ c.in-Some.is) in
    omega (arith, fits, c.width-at.ensures)

pub loop-letter_at-preserved : goal.loop-letter_at-preserved
loop-letter_at-preserved c =
    measuring-more c.loop-letter_at.invariant c.loop-letter_at-test.true (sym c.decode.ensures ∙ c.in-Some.is) c.width-at.ensures
    (sym c.advance.ensures ∙ c.in_ok-site.was)

pub returns : goal.returns
returns c = measured-all c.loop-letter_at.invariant c.loop-letter_at-test.false
