-- `station_lines::lines::put_carried` meets its contract. Assumes nothing.
use mathlib.Core.Path.{refl, ap}
use native.Mathlib.Omega.{arith}
use Rattle.station_lines.proofs.Putting.{put_same, within-as, within-then, one_byte}
use Rattle.station_lines.specs.Lines.{value_fields, carried_fields}
use Rattle.answers.specs.Answers.{listed}
use Rattle.answers.specs.declared.refusals.Values.{Values}
use Rattle.station_lines.proofs.Fields.{carried_other}
use borrow.Enum.Refused.{opened}
use Rattle.station_lines.proofs.lines.put_carried.Goals as goal

pub returns-in-UnsupportedCommand : goal.returns-in-UnsupportedCommand
unfolding carried_fields
returns-in-UnsupportedCommand c =
    rw c.in-UnsupportedCommand.is
    (within-as 105 _ (within-then (one_byte c.put_byte-past_space.ensures) (within-then (one_byte c.put_byte-past_letter.ensures) c.put_number.ensures)).put refl (omega arith))

pub returns : goal.returns
returns c =
    within-as 105 _ (put_same c.put_values.ensures.put _ (ap (λ (v : Values). value_fields (listed v)) c.carried.ensures))
    (carried_other _ (opened c.in_default.in_default-own.keys2)) (omega arith)
