-- `path_query::flying::flown_within` meets its contract: the segment and its raw parameter are the definition's, and so is what they give, tidied (`flown-is`). Assumes nothing.
use mathlib.Core.Path.{◌∙◌}
use Rattle.path_query.proofs.Seats.{seated-table, flown-is}
use Rattle.path_query.proofs.flying.flown_within.Goals as goal

pub raw_within-raw-requires : goal.raw_within-raw-requires
raw_within-raw-requires c = c.requires.standing

pub heading-requires : goal.heading-requires
heading-requires c = seated-table c.requires c.segment_here-segment.result c.segment_here-segment.ensures

pub returns : goal.returns
returns c =
    let path = c.args.path in
    flown-is path.kinds.now path.fields.now path.tables.now c.args.at c.args.along.value _ _ _ _ c.requires.standing.is c.segment_here-segment.ensures
    c.raw_within-raw.ensures (c.tidy_point-position.ensures ∙ c.sample.ensures) (c.tidy_point-tangent.ensures ∙ c.heading.ensures)
