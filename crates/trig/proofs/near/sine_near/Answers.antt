-- What the product tells, or what the steps give. Assumes nothing.
use Rattle.trig.proofs.Frame.{number-bits}
use Rattle.trig.proofs.near.sine_near.Goals as goal

pub float_from_bits-result : goal.float_from_bits-result
float_from_bits-result c = number-bits _ c.sine_at.ensures.1
