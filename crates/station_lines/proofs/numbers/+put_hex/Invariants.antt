-- The count falls at each call. Assumes nothing.
use Rattle.station_lines.proofs.numbers.+put_hex.Given as goal

abbrev pub decreases-put_hex : goal.decreases-put_hex
decreases-put_hex l = l.count
