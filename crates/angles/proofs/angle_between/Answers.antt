-- `angles::angle_between` meets its contract: what each call ensures, put together in the definition's order. Assumes nothing.
use borrow.Author.Rules.{rules}
use Rattle.floats.specs.Floats.{zero_f, one_f}
use Rattle.angles.specs.Angles.{angle_between_of, sine_beside}
use Rattle.angles.proofs.angle_between.Goals as goal

pub returns : goal.returns
unfolding angle_between_of sine_beside zero_f one_f
returns c =
    rw (c.atan2.ensures, c.sqrt.ensures, c.max.ensures, c.sign.ensures, c.cosine-value.ensures)
