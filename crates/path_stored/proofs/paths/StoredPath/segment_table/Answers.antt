-- A stored path's tables are its segments'. Assumes nothing.
use Rattle.path_stored.proofs.Reading.{record-tabled}
use Rattle.path_stored.proofs.paths.StoredPath.segment_table.Goals as goal

pub segment_table-requires : goal.segment_table-requires
segment_table-requires c = record { tabled = record-tabled _ c.args.self.stored; i_in_bounds = c.requires }
