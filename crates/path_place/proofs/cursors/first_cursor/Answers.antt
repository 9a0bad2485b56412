-- `path_place::cursors::first_cursor` meets its contract: nothing stands before the first segment. Assumes nothing.
use Rattle.path_place.specs.Cursors.{cursor_of}
use Rattle.path_stored.proofs.Counting.{before-zero}
use Rattle.path_place.proofs.cursors.first_cursor.Goals as goal

pub returns : goal.returns
unfolding cursor_of
returns c = rw (before-zero, before-zero)
