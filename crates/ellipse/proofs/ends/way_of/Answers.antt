-- `ellipse::way_of` meets its contract: what each call ensures, put together in the definition's order. Assumes nothing.
use Rattle.ellipse.proofs.ends.way_of.Goals as goal

pub returns : goal.returns
returns c =
    rw (
      c.away-away.ensures,
      c.towards-towards.ensures,
      c.middle-middle.ensures,
      c.coef.ensures,
      c.fitted-radii.ensures,
      c.sizes.ensures,
      c.primed-p.ensures,
      c.turn_of-turn.ensures,
    )
