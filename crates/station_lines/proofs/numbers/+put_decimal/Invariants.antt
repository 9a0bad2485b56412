-- The number falls at each call. Assumes nothing.
use Rattle.station_lines.proofs.numbers.+put_decimal.Given as goal

abbrev pub decreases-put_decimal : goal.decreases-put_decimal
decreases-put_decimal l = l.value
