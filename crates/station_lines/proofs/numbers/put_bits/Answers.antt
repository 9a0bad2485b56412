-- `station_lines::numbers::put_bits` meets its contract. Assumes nothing.
use Prim.Native.Nat.{ℕ}
use mathlib.Core.Path.{ap}
use native.Mathlib.Omega.{arith}
use Rattle.floats.specs.Floats.{bits_of}
use Rattle.station_lines.specs.Numbers.{hex_digits, bits_field}
use Rattle.station_lines.proofs.Putting.{put_then, put_same}
use Rattle.station_lines.proofs.Digits.{hex-length}
use Rattle.station_lines.proofs.numbers.put_bits.Goals as goal

pub returns : goal.returns
unfolding bits_field
returns c =
    let p = put_then c.put_byte-past_space.ensures (put_same c.put_hex.ensures _ (ap (λ (n : ℕ). hex_digits 8 n) c.bits.ensures)) in
    record { put = p; within = omega (arith, p.past, hex-length 8 (bits_of c.args.value)) }
