-- Each half has one halving fewer.
use Rattle.flat.proofs.pieces.+put_legs.Given as goal

abbrev pub decreases-put_legs : goal.decreases-put_legs
decreases-put_legs l = l.left
