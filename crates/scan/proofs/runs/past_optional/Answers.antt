-- `scan::past_optional` meets its contract: a byte of the class is taken, another is left, and past the text there is none. Assumes nothing.
use mathlib.Core.Path.{sym, ◌∙◌}
use borrow.Author.Rules.{rules}
use Rattle.scan.proofs.RunLaws.{one-taken, one_left, one_end}
use Rattle.scan.proofs.runs.past_optional.Goals as goal
use Rattle.scan.proofs.runs.past_optional.Goals.{else-at-text-via-then-at-text+else-is_member, else-at-text-via-else-at-text}

pub returns-then-is_member : goal.returns-then-is_member
returns-then-is_member g c class decides =
    one-taken class _ _ c.if-at-text.true (sym (decides _ _ (search rules) c.is_member.ensures) ∙ c.if-is_member.true)

pub returns : goal.returns
returns g c class decides =
    elim c.else-at-text.branch [
      | else-at-text-via-then-at-text+else-is_member w ↦ one_left class _ _ w.if-at-text.true (sym (decides _ _ (search rules) w.is_member.ensures) ∙ w.if-is_member.false)
      | else-at-text-via-else-at-text w ↦ one_end class _ _ w.if-at-text.false
    ]
