-- A stored path's fields are its segments'. Assumes nothing.
use Rattle.path_stored.proofs.Reading.{record-fielded}
use Rattle.path_stored.proofs.paths.StoredPath.segment.Goals as goal

pub segment-requires : goal.segment-requires
segment-requires c = record { fielded = record-fielded _ c.args.self.stored; i_in_bounds = c.requires }
