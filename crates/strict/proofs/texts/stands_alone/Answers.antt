-- `strict::stands_alone` meets its contract, edition by edition. Assumes nothing.
use mathlib.Core.Path.{refl}
use Rattle.strict.proofs.texts.stands_alone.Goals as goal

pub returns-in-Svg11 : goal.returns-in-Svg11
returns-in-Svg11 c = rw c.in-Svg11.is refl

pub returns-in-Svg2 : goal.returns-in-Svg2
returns-in-Svg2 c = rw c.in-Svg2.is refl
