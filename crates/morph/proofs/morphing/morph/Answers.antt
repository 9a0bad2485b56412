-- Two plans, and the room for both. Assumes nothing.
use Rattle.std.proofs.Common.{sym, ◌∙◌}
use Rattle.morph.proofs.Answers.{planning, no_first, no_second, both_filled}
use Rattle.morph.proofs.morphing.morph.Goals.{then-out_from-places-via-then-out_from-places, then-out_from-places-via-else-out_from-places+then-out_to-others}
use Rattle.morph.proofs.morphing.morph.Goals as goal

pub returns-then-out_from-places : goal.returns-then-out_from-places
returns-then-out_from-places c =
    let p =
    planning (sym c.judge_two.ensures ∙ c.in_ok-judge_two.was) c.if-count-gt4096.false (sym c.plan_for.ensures ∙ c.in_ok-first.was) (sym c.plan_for-2.ensures ∙ c.in_ok-second.was)
    c.needed-places.ensures c.needed-others.ensures in
    elim c.then-out_from-places.branch [
      | then-out_from-places-via-then-out_from-places w ↦ no_first p c.args.out_from.now c.args.out_to.now c.at_least_two-count.ensures w.if-out_from-places.true
      | then-out_from-places-via-else-out_from-places+then-out_to-others w ↦ no_second p c.args.out_from.now c.args.out_to.now c.at_least_two-count.ensures w.if-out_from-places.false w.if-out_to-others.true
    ]

pub returns : goal.returns
returns c =
    let p =
    planning (sym c.judge_two.ensures ∙ c.in_ok-judge_two.was) c.if-count-gt4096.false (sym c.plan_for.ensures ∙ c.in_ok-first.was) (sym c.plan_for-2.ensures ∙ c.in_ok-second.was)
    c.needed-places.ensures c.needed-others.ensures in
    both_filled p c.args.out_from.now c.args.out_to.now c.at_least_two-count.ensures c.if-out_from-places.false c.if-out_to-others.false c.fill.ensures c.fill-2.ensures
