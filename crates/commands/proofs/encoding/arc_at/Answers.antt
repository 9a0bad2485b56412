-- `commands::encoding::arc_at` meets its contract: each way out is a case of `arc_of`. Assumes nothing.
use mathlib.Core.Path.{sym, ◌∙◌}
use Rattle.commands.proofs.Decoding.{arc-flagged, arc-large, arc-sweep}
use Rattle.commands.proofs.encoding.arc_at.Goals as goal
use Rattle.commands.proofs.encoding.arc_at.Goals.{else-is_flag-via-then-is_flag+else-is_flag-2, else-is_flag-via-else-is_flag}

pub returns-then-is_flag-2 : goal.returns-then-is_flag-2
returns-then-is_flag-2 c =
    arc-flagged c.args.numbers.now c.args.at c.bits-large.ensures c.bits-sweep.ensures (sym c.is_flag.ensures ∙ c.if-is_flag.true) (sym c.is_flag-then-is_flag.ensures ∙ c.if-is_flag-2.true)
    c.point_at.ensures c.is_set.ensures c.is_set-then-is_flag-2.ensures c.point_at-then-is_flag-2.ensures

pub returns : goal.returns
returns c =
    elim c.else-is_flag.branch [
      | else-is_flag-via-then-is_flag+else-is_flag-2 w ↦
          arc-sweep c.args.numbers.now c.args.at c.bits-large.ensures c.bits-sweep.ensures (sym c.is_flag.ensures ∙ w.if-is_flag.true) (sym w.is_flag-then-is_flag.ensures ∙ w.if-is_flag-2.false)
      | else-is_flag-via-else-is_flag w ↦ arc-large c.args.numbers.now c.args.at c.bits-large.ensures c.bits-sweep.ensures (sym c.is_flag.ensures ∙ w.if-is_flag.false)
    ]
