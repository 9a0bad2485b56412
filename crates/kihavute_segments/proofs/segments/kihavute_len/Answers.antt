-- `kihavute_len` meets its contract: a count is given as it is. Assumes nothing.
use mathlib.Core.Path.{ap, ◌∙◌}
use Rattle.c_answer.specs.Counts.{count_given}
use Rattle.c_answer.proofs.Giving.{given-same}
use Rattle.kihavute_segments.proofs.SegmentsGiven.{count-same}
use Rattle.kihavute_segments.proofs.segments.kihavute_len.Goals as goal

pub returns : goal.returns
returns c = given-same _ _ (ap count_given c.len.ensures ∙ count-same _) c.give_count.ensures
