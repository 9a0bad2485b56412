-- Document 01's example of the station tool, line by line, and other lines that hold the definitions down. Assumes nothing.
use mathlib.Core.Path.{◌≡◌, refl}
use mathlib.Core.List.{[], ◌∷◌}
use lib.Ieee.{binary32, of_bits, to_bits, nan}
use Rattle.answers.specs.declared.refusals.Values.TheVariants.{Three}
use Rattle.answers.specs.declared.refusals.Refusal.TheVariants.{UnsupportedCommand, NoRoom, BadPath, Range}
use Rattle.commands.specs.declared.command.PathCommand.TheVariants.{LineTo, ClosePath}
use Rattle.station_lines.specs.Numbers.{hex_digit, hex_digits, hex_of, decimal_from, decimal_of, bits_field, number_field}
use Rattle.station_lines.specs.Lines.{bits_fields, argument_fields, command_line, kind_name, segment_line, amount_line, value_fields, carried_fields, refusal_line}

-- 0 has a digit, and 1000 no leading zero
pub decimals : (decimal_of 0 ≡ 48 ∷ []) × (decimal_of 1000 ≡ 49 ∷ 48 ∷ 48 ∷ 48 ∷ []) × (decimal_of 4097 ≡ 52 ∷ 48 ∷ 57 ∷ 55 ∷ [])
unfolding decimal_of decimal_from
decimals = (refl, refl, refl)

-- a number alone has no space before it
pub amounts : amount_line 10000 ≡ 49 ∷ 48 ∷ 48 ∷ 48 ∷ 48 ∷ 10 ∷ []
unfolding amount_line decimal_of decimal_from
amounts = refl

-- upper case, and all eight digits
pub bits : (hex_of 0x3f19_999a ≡ 51 ∷ 70 ∷ 49 ∷ 57 ∷ 57 ∷ 57 ∷ 57 ∷ 65 ∷ []) × (hex_of 0 ≡ 48 ∷ 48 ∷ 48 ∷ 48 ∷ 48 ∷ 48 ∷ 48 ∷ 48 ∷ [])
unfolding hex_digits hex_digit
bits = (refl, refl)

-- "refused 6 S 4": a letter as itself; "refused 8 257 514 257"; "refused 12"; "refused 13 0"
pub refusals :
    (refusal_line (UnsupportedCommand 83 4) ≡ 114 ∷ 101 ∷ 102 ∷ 117 ∷ 115 ∷ 101 ∷ 100 ∷ 32 ∷ 54 ∷ 32 ∷ 83 ∷ 32 ∷ 52 ∷ 10 ∷ [])
    × (refusal_line (NoRoom (Three 257 514 257))
    ≡ 114 ∷ 101 ∷ 102 ∷ 117 ∷ 115 ∷ 101 ∷ 100 ∷ 32 ∷ 56 ∷ 32 ∷ 50 ∷ 53 ∷ 55 ∷ 32 ∷ 53 ∷ 49 ∷ 52 ∷ 32 ∷ 50 ∷ 53 ∷ 55 ∷ 10 ∷ [])
    × (refusal_line BadPath ≡ 114 ∷ 101 ∷ 102 ∷ 117 ∷ 115 ∷ 101 ∷ 100 ∷ 32 ∷ 49 ∷ 50 ∷ 10 ∷ [])
    × (refusal_line (Range 0) ≡ 114 ∷ 101 ∷ 102 ∷ 117 ∷ 115 ∷ 101 ∷ 100 ∷ 32 ∷ 49 ∷ 51 ∷ 32 ∷ 48 ∷ 10 ∷ [])
unfolding refusal_line carried_fields value_fields number_field decimal_of decimal_from
refusals = (refl, refl, refl, refl)

-- "L 40400000 40800000 4" and "line 40A00000 1" of `M0 0L3 4`, and a NaN in its one pattern
pub lines :
    (command_line (LineTo (record { x = of_bits binary32 0x4040_0000; y = of_bits binary32 0x4080_0000 })) 4
    ≡ 76 ∷ 32 ∷ 52 ∷ 48 ∷ 52 ∷ 48 ∷ 48 ∷ 48 ∷ 48 ∷ 48 ∷ 32 ∷ 52 ∷ 48 ∷ 56 ∷ 48 ∷ 48 ∷ 48 ∷ 48 ∷ 48 ∷ 32 ∷ 52 ∷ 10 ∷ [])
    × (segment_line 0 (of_bits binary32 0x40a0_0000) 1 ≡ 108 ∷ 105 ∷ 110 ∷ 101 ∷ 32 ∷ 52 ∷ 48 ∷ 65 ∷ 48 ∷ 48 ∷ 48 ∷ 48 ∷ 48 ∷ 32 ∷ 49 ∷ 10 ∷ [])
    × (bits_field nan ≡ 32 ∷ 55 ∷ 70 ∷ 67 ∷ 48 ∷ 48 ∷ 48 ∷ 48 ∷ 48 ∷ [])
    × (command_line ClosePath 12 ≡ 90 ∷ 32 ∷ 49 ∷ 50 ∷ 10 ∷ [])
unfolding command_line argument_fields bits_fields segment_line kind_name bits_field hex_digits hex_digit number_field decimal_of decimal_from of_bits to_bits
lines = (refl, refl, refl, refl)
