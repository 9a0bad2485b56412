-- `commands::check_commands` meets its contract: a command takes numbers that are there, and each way out judges the list from its letter on.
-- Assumes nothing.
use mathlib.Core.Path.{◌≡◌, refl, ap, sym, ◌∙◌}
use native.Mathlib.Omega.{arith}
use borrow.Author.Tests.{lt-ltb}
use lib.ListN.{length, length-drop, drop}
use Rattle.commands.specs.Checked.{judged, check_commands_of}
use Rattle.commands.proofs.Listing.{listed_from, check-few, command-fits, from-bad, from-left-over, from_end, judged-next}
use Rattle.commands.proofs.checking.check_commands.Goals as goal

pub returns-then-count-gt65536 : goal.returns-then-count-gt65536
unfolding check_commands_of
returns-then-count-gt65536 c = simp (lt-ltb 65536 _ c.if-count-gt65536.true)

pub loop-letter_at-init : goal.loop-letter_at-init
unfolding listed_from
loop-letter_at-init c = (omega arith, refl)

pub returns-in_default : goal.returns-in_default
returns-in_default c =
    ap judged (sym (from-bad c.args.letters.now c.args.numbers.now c.loop-letter_at.letter_at c.loop-letter_at.at c.loop-letter_at-test.true (sym c.decode.ensures ∙ c.in_default.is)))
    ∙ c.loop-letter_at.invariant.1
    ∙ sym (check-few c.args.letters.now c.args.numbers.now (omega arith))

pub loop-letter_at-preserved : goal.loop-letter_at-preserved
loop-letter_at-preserved c =
    let fits = command-fits (drop c.loop-letter_at.at c.args.numbers.now) _ _ (sym c.decode.ensures ∙ c.in-Some.is) in (
      omega (arith, simp length-drop at fits),
      judged-next c.args.letters.now c.args.numbers.now c.loop-letter_at.letter_at c.loop-letter_at.at c.width-at.result _ c.loop-letter_at-test.true c.width-at.ensures
          (sym c.decode.ensures ∙ c.in-Some.is)
          ∙ c.loop-letter_at.invariant.1,
    )

pub returns-then-at-numbers : goal.returns-then-at-numbers
returns-then-at-numbers c =
    ap judged (sym (from-left-over c.args.letters.now c.args.numbers.now (length c.args.letters.now) c.loop-letter_at.at (omega arith) c.if-at-numbers.true))
    ∙ ap (λ k. judged (listed_from c.args.letters.now c.args.numbers.now k c.loop-letter_at.at)) (let e : length c.args.letters.now ≡ c.loop-letter_at.letter_at = omega arith in e)
    ∙ c.loop-letter_at.invariant.1
    ∙ sym (check-few c.args.letters.now c.args.numbers.now (omega arith))

pub returns : goal.returns
returns c =
    ap judged (sym (from_end c.args.letters.now c.args.numbers.now c.loop-letter_at.letter_at c.loop-letter_at.at (omega arith) (omega arith)))
    ∙ c.loop-letter_at.invariant.1
    ∙ sym (check-few c.args.letters.now c.args.numbers.now (omega arith))
