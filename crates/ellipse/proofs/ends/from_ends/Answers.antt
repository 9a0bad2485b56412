-- `ellipse::from_ends` meets its contract: the centre and both angles of the way. Assumes nothing.
use Rattle.floats.specs.Floats.{zero_f, one_f}
use Rattle.ellipse.specs.Ends.{from_ends_of}
use Rattle.ellipse.proofs.ends.from_ends.Goals as goal

pub returns : goal.returns
unfolding from_ends_of zero_f one_f
returns c =
    rw (
      c.turned.ensures,
      c.angle_between-2.ensures,
      c.angle_between.ensures,
      c.center-center.ensures,
      c.way_of-way.ensures,
    )
