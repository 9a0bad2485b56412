-- Each pass gives what the next asks for; the sums, which speak of rests, are brought to the angles by `row-through`. Assumes nothing.
use native.Mathlib.Omega.{arith}
use Rattle.trig_all.proofs.Rows.{row-through}
use Rattle.trig.proofs.Rungs.{sine-plus, sine-minus, cosine-plus, cosine-minus}
use Rattle.trig_all.proofs.passes.sin_cos_run.Goals as goal

pub put_cosines-requires : goal.put_cosines-requires
put_cosines-requires c =
    record {
      places = (omega (arith, c.requires.1), omega (arith, c.requires.0, c.requires.2));
      sums = (row-through cosine-plus c.put_rests.ensures.rests c.sums.ensures.plus, row-through cosine-minus c.put_rests.ensures.rests c.sums.ensures.minus);
    }

pub put_sines-requires : goal.put_sines-requires
put_sines-requires c =
    record {
      places = (omega (arith, c.requires.1), omega (arith, c.requires.0, c.requires.2));
      rests = (c.put_rests.ensures.rests, c.put_rests.ensures.flips);
      sums = (row-through sine-plus c.put_rests.ensures.rests c.sums-2.ensures.plus, row-through sine-minus c.put_rests.ensures.rests c.sums-2.ensures.minus);
    }
