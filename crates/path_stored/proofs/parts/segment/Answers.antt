-- `path_stored::parts::segment` meets its contract: its fields are read where they stand. Assumes nothing.
use Rattle.path_stored.proofs.Reading.{segment-fields}
use native.Mathlib.Omega.{arith}
use Rattle.path_stored.proofs.parts.segment.Goals as goal

pub segment_at-requires-clause-kind_in_bounds : goal.segment_at-requires-clause-kind_in_bounds
segment_at-requires-clause-kind_in_bounds c = omega (arith, segment-fields c.requires.fielded c.args.i c.requires.i_in_bounds, c.fields_before-at.ensures)
