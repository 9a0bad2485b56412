-- Worked examples of document 01, held to the definitions. Assumes nothing.
use mathlib.Core.Path.{◌≡◌, refl}
use mathlib.Core.Bool.{true, false}
use Prim.Native.Nat.{ℕ}
use lib.Ieee.Scale.{finite}
use lib.Ieee.{Float, nan, binary32, of_bits, neg, add, sub, mul, lt, le}
use Rattle.answers.specs.declared.refusals.Refusal.TheVariants.{NotFinite}
use Rattle.floats.specs.Floats.{zero_f, epsilon_f}
use Rattle.root.specs.Root.{root_of}
use Rattle.lengths.specs.Length as lengths
use Rattle.math.specs.Math.{point_of, sub_of, length_of, distance_of}
use Rattle.std.specs.Prelude.{Ok, Err}
use Rattle.bezier.specs.Curves.{verdict_of}
use Rattle.ellipse.specs.Ends.{size_of}
use Rattle.arc.specs.Lines.{line_of, line_length_of, made_line_of}
use Rattle.arc.specs.Arcs.{is_fallback}

abbrev bits : ℕ → Float
bits n = of_bits binary32 n

-- "The f32 above 3600 builds", and so does the largest f32; 10 is for infinity, of either sign, and for a NaN
rotations-judged :
    (finite (bits 0x4561_0001) ≡ true)
    × (finite (bits 0x7f7f_ffff) ≡ true)
    × (finite (bits 0xff7f_ffff) ≡ true)
    × (finite (bits 0x7f80_0000) ≡ false)
    × (finite (bits 0xff80_0000) ≡ false)
    × (finite nan ≡ false)
unfolding of_bits
rotations-judged = (refl, refl, refl, refl, refl, refl)

-- document 02's long leg, 2e19, whose square is beyond f32: it is had, and its length is 2e19
long-line-made : made_line_of (point_of (bits 0) (bits 0)) (point_of (bits 0x5f8a_c723) (bits 0)) ≡ Ok (line_of (point_of (bits 0) (bits 0)) (point_of (bits 0x5f8a_c723) (bits 0)))
unfolding made_line_of line_length_of distance_of length_of lengths.length_of sub_of root_of verdict_of of_bits add sub mul
long-line-made = refl

-- 3e38 both ways: each difference is an f32, and the length is beyond the largest
length-overflows : made_line_of (point_of (bits 0) (bits 0)) (point_of (bits 0x7f61_b1e6) (bits 0x7f61_b1e6)) ≡ Err (NotFinite 0)
unfolding made_line_of line_length_of distance_of length_of lengths.length_of sub_of root_of verdict_of of_bits add sub mul
length-overflows = refl

-- from -3e38 to 3e38: the difference is beyond f32, in which it is taken
difference-overflows : made_line_of (point_of (bits 0xff61_b1e6) (bits 0)) (point_of (bits 0x7f61_b1e6) (bits 0)) ≡ Err (NotFinite 0)
unfolding made_line_of line_length_of distance_of length_of lengths.length_of sub_of root_of verdict_of of_bits add sub mul
difference-overflows = refl

-- a NaN chord with ordinary radii is no fallback; a tiny radius of either sign is one
fallbacks-told :
    (is_fallback (record { start = point_of nan (bits 0); radii = point_of (bits 0x3f80_0000) (bits 0x3f80_0000); x_axis_rotation = bits 0; large_arc = false; sweep = false; end = point_of (bits 0) (bits 0) }) ≡ false)
    × (is_fallback (record { start = point_of nan (bits 0); radii = point_of (bits 0x3f80_0000) (bits 0xb400_0000); x_axis_rotation = bits 0; large_arc = false; sweep = false; end = point_of (bits 0) (bits 0) }) ≡ true)
unfolding is_fallback epsilon_f size_of zero_f distance_of length_of lengths.length_of sub_of root_of of_bits neg add sub mul lt le
fallbacks-told = (refl, refl)
