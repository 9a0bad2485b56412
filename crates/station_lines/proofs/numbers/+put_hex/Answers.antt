-- `station_lines::numbers::put_hex` meets its contract: the digits before the last are put by the call, whose count falls. Assumes nothing.
use Prim.Native.Nat.{ℕ, ◌-◌, ◌/◌}
use mathlib.Core.Path.{ap}
use mathlib.Core.List.{[], ◌∷◌}
use native.Mathlib.Nat.{mod-lt}
use native.Mathlib.Omega.{arith}
use Rattle.station_lines.proofs.Putting.{put-none, put-length, put_then, put_same}
use Rattle.station_lines.proofs.Digits.{hex-none, hex-step, hex-length}
use Rattle.station_lines.proofs.numbers.+put_hex.Goals as goal

pub returns-then-count-eq0 : goal.returns-then-count-eq0
returns-then-count-eq0 t c = put_same (put-none _ _) _ (hex-none _ _ c.if-count-eq0.true)

pub hex_digit-requires : goal.hex_digit-requires
hex_digit-requires t c = mod-lt _ (omega arith)

pub put_byte-requires : goal.put_byte-requires
put_byte-requires t c = omega (arith, c.put_hex-past.ensures.past, hex-length (c.args.count - 1) (c.args.value / 16), c.requires)

pub shape_of-out : goal.shape_of-out
shape_of-out t c = put-length (put_then c.put_hex-past.ensures (put_same c.put_byte.ensures _ (ap (λ (b : ℕ). b ∷ []) c.hex_digit.ensures)))

pub returns : goal.returns
returns t c =
    put_same (put_then c.put_hex-past.ensures (put_same c.put_byte.ensures _ (ap (λ (b : ℕ). b ∷ []) c.hex_digit.ensures))) _
    (hex-step _ _ c.if-count-eq0.false)
