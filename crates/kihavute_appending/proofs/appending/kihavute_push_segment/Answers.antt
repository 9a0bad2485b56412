-- `kihavute_push_segment` meets its contract: the answer's length is judged first, then the kind and its numbers; then the entry's own promise is reported. Assumes nothing.
use mathlib.Core.Path.{sym, ◌∙◌}
use Rattle.kihavute_appending.proofs.AppendingGiven.{segment-known, not-appended, pushes-reported, push-refused}
use Rattle.kihavute_appending.proofs.appending.kihavute_push_segment.Goals as goal

pub returns-then-answer-lt8 : goal.returns-then-answer-lt8
returns-then-answer-lt8 c = not-appended _ _ _ _ _ _ c.if-answer-lt8.true

pub segment_at-segment-requires : goal.segment_at-segment-requires
segment_at-segment-requires c =
    let known = segment-known c.args.kind c.args.numbers.now (sym c.is_segment.ensures ∙ c.if-is_segment.true) in
    record { kind_bound = known.0; kind_in_bounds = known.1 }

pub returns-then-is_segment : goal.returns-then-is_segment
returns-then-is_segment c =
    pushes-reported _ _ _ _ c.if-answer-lt8.false _ _ _ _ (sym c.is_segment.ensures ∙ c.if-is_segment.true) c.segment_at-segment.ensures c.push_segment-appended.ensures
    c.give_appended.ensures

pub returns : goal.returns
returns c =
    push-refused _ _ _ _ _ _ (sym c.is_segment.ensures ∙ c.if-is_segment.false) c.if-answer-lt8.false c.refuse.ensures
