-- Counts of 16 bits are f32 values. Assumes nothing.
use Rattle.table.specs.Lookup.{mark_of}
use Rattle.spline_table.proofs.lanes.clamped_mark.Goals as goal

pub returns : goal.returns
unfolding mark_of
returns c = c.clamp01.ensures
