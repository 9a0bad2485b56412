-- `station_check::check_listing` meets its contract: the tool's own promise says what stands in the output, and each way out is a case of `checked_of`. Assumes nothing.
use Rattle.station_check.proofs.Checking.{check-short, check-told}
use Rattle.station_check.proofs.checks.check_listing.Goals as goal

pub returns-then-room-length : goal.returns-then-room-length
returns-then-room-length c = check-short _ _ _ _ _ c.stations-length.ensures c.if-room-length.true

pub returns : goal.returns
returns c = check-told _ _ _ _ _ c.stations-length.ensures c.if-room-length.false _ c.wrong_line.ensures
