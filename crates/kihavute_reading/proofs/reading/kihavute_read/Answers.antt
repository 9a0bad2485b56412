-- `kihavute_read` meets its contract: the answer's length is judged first, then the reader's own promise is reported, and what it stores are the text's commands. Assumes nothing.
use native.Mathlib.Omega.{arith}
use Rattle.kihavute_reading.proofs.ReadingGiven.{not-read, read-reported}
use Rattle.kihavute_reading.proofs.Keeping.{read_kept}
use Rattle.kihavute_reading.proofs.reading.kihavute_read.Goals as goal

pub returns-then-answer-lt8 : goal.returns-then-answer-lt8
returns-then-answer-lt8 c = record { path_read = not-read _ _ _ c.if-answer-lt8.true; kept_by = λ zero. absurd (omega (arith, zero)) }

pub returns : goal.returns
returns c =
    record {
      path_read = read-reported _ _ _ _ c.if-answer-lt8.false c.read_path-reading.ensures c.give_reading.ensures;
      kept_by = read_kept _ _ _ _ c.read_path-reading.ensures c.give_reading.ensures;
    }
