-- `kihavute_length` meets its contract: the bits of what the entry below ensures, and the law of it. Assumes nothing.
use mathlib.Core.Path.{ap, ◌∙◌}
use Rattle.floats.specs.Floats.{bits_of}
use Rattle.kihavute.proofs.Keeping.{length-bits}
use Rattle.kihavute.proofs.points.kihavute_length.Goals as goal

pub returns : goal.returns
returns c = let same = c.bits.ensures ∙ ap bits_of c.length.ensures in record { value = same; length_bits = length-bits _ _ same }
