-- `kihavute::read` meets its contract: by the quick way where that tells. Assumes nothing.
use Rattle.kihavute.proofs.decimals.read.Goals as goal

pub returns-then-end-gt0 : goal.returns-then-end-gt0
returns-then-end-gt0 c =
    let quick = c.quick-end.ensures c.if-end-gt0.true in
    rw quick.is (rw (c.bits.ensures, quick.stored) at c.accept.ensures)
