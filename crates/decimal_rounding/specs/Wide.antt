-- The f32 nearest to an f64, by their bits. Definitions only.
use Rattle.std.specs.Prelude.{ℕ, ◌+◌, ◌-◌, ◌*◌, ◌/◌}
use Rattle.floats.specs.Patterns.{hidden, narrow_step, narrow_half}

-- the pattern of the f32 nearest to the f64 with the pattern b without a sign, halves away from 0: the digits past the 24th are rounded off, and 896 is taken off the exponent's field
abbrev pub narrowed_of : ℕ → ℕ
narrowed_of b = (b + narrow_half) / narrow_step - 896 * hidden
