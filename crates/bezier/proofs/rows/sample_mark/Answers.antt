-- A count up to 32 is an f32, and so is 31. Assumes nothing.
use mathlib.Core.Path.{◌≡◌, refl, ap, ◌∙◌}
use lib.IntN.{pos}
use lib.Ieee.{Float, binary32, of_bits, of_int, div, round}
use Rattle.floats.specs.Floats.{clamp01_of}
use Rattle.table.specs.Lookup.{mark_of}
use Rattle.bezier.proofs.rows.sample_mark.Goals as goal

thirty-one : of_bits binary32 0x41F80000 ≡ of_int binary32 (pos 31)
unfolding of_bits of_int round
thirty-one = refl

pub returns : goal.returns
unfolding mark_of
returns c = c.clamp01.ensures ∙ ap (λ (z : Float). clamp01_of (div binary32 (of_int binary32 (pos c.args.i)) z)) thirty-one
