-- `svg::read_path` meets its contract: a text that is too long is refused, and each way reads the others. Assumes nothing.
use Rattle.svg.proofs.Answering.{too_long}
use Rattle.svg.proofs.reading.read_path.Goals as goal

pub returns-then-size-gt65536 : goal.returns-then-size-gt65536
returns-then-size-gt65536 c = too_long _ _ c.if-size-gt65536.true
