-- `strict_argument::past_gap` meets its contract, edition by edition. Assumes nothing.
use mathlib.Core.Path.{refl}
use Rattle.strict_grammar.specs.Words.{past_gap_of}
use Rattle.strict_argument.proofs.words.past_gap.Goals as goal

pub returns-in-Svg11 : goal.returns-in-Svg11
unfolding past_gap_of
returns-in-Svg11 c = rw c.in-Svg11.is (rw c.in-Svg11.is at c.past_space.ensures)

pub returns-in-Svg2 : goal.returns-in-Svg2
unfolding past_gap_of
returns-in-Svg2 c = rw c.in-Svg2.is refl
