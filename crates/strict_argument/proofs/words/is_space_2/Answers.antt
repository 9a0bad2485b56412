-- `strict_argument::is_space_2` meets its contract: its test and its class agree on each of the 256 bytes, as antt computes. Assumes nothing.
use mathlib.Core.Path.{ap, ◌∙◌}
use mathlib.Core.Bool.{Bool, ◌||◌}
use lib.Dec.{eqb}
use Rattle.scan.specs.Bytes.{among, white_space}
use Rattle.scan.proofs.ByteLaws.{agree}
use Rattle.strict_grammar.specs.Grammar.{white_of}
use Rattle.strict_grammar.specs.declared.Edition.TheVariants.{Svg2}
use Rattle.strict_argument.proofs.words.is_space_2.Goals as goal

pub returns : goal.returns
unfolding among
returns c =
    ap (λ (t : Bool). t || eqb c.args.byte 12) c.is_white.ensures
    ∙ agree (λ x. among x white_space || eqb x 12) (λ x. among x (white_of Svg2)) tt c.args.byte c.ranges.byte.fits
