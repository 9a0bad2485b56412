-- `angles::cosine` meets its contract: what each call ensures, put together in the definition's order. Assumes nothing.
use borrow.Author.Rules.{rules}
use mathlib.Core.Path.{◌∙◌}
use Rattle.floats.specs.Floats.{one_f, epsilon_f}
use Rattle.angles.specs.Angles.{cosine_of_angle, denom_of, minus_one_f}
use Rattle.angles.proofs.cosine.Goals as goal

pub returns : goal.returns
unfolding cosine_of_angle denom_of epsilon_f one_f minus_one_f
returns c =
    c.clamp.ensures
    ∙ rw (c.dot.ensures, c.max-denom.ensures, c.length-2.ensures, c.length.ensures)
