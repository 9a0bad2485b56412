-- Two floats in one number of 64 bits, as the C interface returns a point. Definitions only.
use Rattle.std.specs.Prelude.{ℕ, ◌+◌, ◌*◌, ◌^◌}
use Rattle.floats.specs.Floats.{bits_of}
use Rattle.math.specs.declared.points.Point.{Point}

-- x's pattern in the low half, y's in the high half
abbrev pub pair_of : Point → ℕ
pair_of p = bits_of p.y * 2 ^ 32 + bits_of p.x
