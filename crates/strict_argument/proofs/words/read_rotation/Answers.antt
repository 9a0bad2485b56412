-- `strict_argument::read_rotation` meets its contract: in SVG 2 a rotation is a radius. Assumes nothing.
use Rattle.strict_grammar.specs.Grammar.{rotation}
use Rattle.strict_argument.proofs.words.read_rotation.Goals as goal

pub returns-in-Svg11 : goal.returns-in-Svg11
unfolding rotation
returns-in-Svg11 c = rw c.in-Svg11.is (rw c.in-Svg11.is at c.read_number.ensures)

pub returns-in-Svg2 : goal.returns-in-Svg2
unfolding rotation
returns-in-Svg2 c = rw c.in-Svg2.is (rw c.in-Svg2.is at c.read_radius.ensures)
