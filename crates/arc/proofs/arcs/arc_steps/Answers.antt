-- The rows go from angles to sines, points and differences, whose lengths are the steps (`rows-steps`). Assumes nothing.
use borrow.Author.Rules.{rules}
use mathlib.Core.Path.{refl}
use Rattle.arc.proofs.Rows.{rows-steps}
use Rattle.arc.proofs.arcs.arc_steps.Goals as goal

pub returns : goal.returns
returns c =
    rows-steps _ _ c.put_angles.ensures c.put_sines.ensures.sines c.put_sines.ensures.cosines c.put_points.ensures.across c.put_points.ensures.along
    c.put_differences.ensures c.put_differences-2.ensures _ c.lengths.ensures
