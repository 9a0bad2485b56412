-- The rounded pattern is that of an f32, so that the cast loses nothing: `wide-single`. Assumes nothing.
use Rattle.trig_single.proofs.Single.{wide-single, wide-finite, wide-cast}
use Rattle.trig.proofs.near.single.Goals as goal

pub float_from_bits-result : goal.float_from_bits-result
float_from_bits-result c = wide-finite _ c.ranges.b.fits c.requires

pub float_to_float-result : goal.float_to_float-result
float_to_float-result c = wide-cast _ c.ranges.b.fits c.requires

pub returns : goal.returns
returns c = wide-single _ c.ranges.b.fits c.requires
