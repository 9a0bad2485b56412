-- Document 01's "Readings to check", held to the definition as one statement; and readings of smooth curves, with a mirrored control that doubling
-- the point would give other bits. Assumes nothing.
use Prim.Native.Nat.{ℕ}
use mathlib.Core.Path.{◌≡◌, refl}
use mathlib.Core.List.{List, [], ◌∷◌}
use lib.Ieee.{binary32, of_bits, to_bits, neg, add, sub, mul, sum, of_int, round, units}
use Rattle.answers.specs.declared.refusals.Refusal.TheVariants.{UnexpectedEnd, ExpectedNumber, InvalidNumber, ExpectedFlag, MissingMoveTo}
use Rattle.scan.specs.Scan.{leading, scan}
use Rattle.scan.specs.Bytes.{among}
use Rattle.scan.specs.Runs.{stands, past_one, past_all, past_mark_of}
use Rattle.scan.specs.Numbers.{whole_of, point_of, fraction_of, mark_of, exponent_of, end_of, places_of, no_digit, no_exponent_digit, scan_number_of}
use Rattle.decimal_digits.specs.Digits.{digits_among, val}
use Rattle.decimal.specs.Decimal.{falls, rise_of, fall_of, value_of, number_of}
use Rattle.math.specs.Math.{add_of, sub_of}
use Rattle.math.specs.declared.points.Point.{Point}
use Rattle.commands.specs.Stored.{letters_of, numbers_of}
use Rattle.commands.specs.declared.command.PathCommand.TheVariants.{MoveTo, LineTo, QuadTo, CubicTo, ClosePath}
use Rattle.svg_group.specs.Letters.{is_letter_of, meaning_of}
use Rattle.svg_group.specs.Numbers.{read_number_of, flag_standing, read_flag_of, read_flags_of, moved_of, read_pair_of}
use Rattle.svg_group.specs.Groups.{read_move_of, read_line_of, read_horizontal_of, read_vertical_of, read_cubic_of, read_smooth_cubic_of, read_quad_of, read_smooth_quad_of, read_arc_of, read_group_of}
use Rattle.svg_step.specs.Steps.{is_relative_of, needs_point_of, repeated_of, mirrored_of, takes_up_of, first_control_of, after_of, due_group_of, due_letter_of, due_again_of, due_at_of, next_due_of, offset_at, read_step_of}
use Rattle.svg.specs.Texts.{Outcome, commands, refusal, read_from, commands_of, offsets_from, offsets_of}
use Rattle.svg.specs.Readings.{read_path_of}

-- a point by the bits of its coordinates
abbrev point : ℕ → ℕ → Point
point x y = record { x = of_bits binary32 x; y = of_bits binary32 y }

-- a text into buffers with room for it
abbrev read : List ℕ → Outcome
read text = read_path_of text 8 16 8

pub readings :
    -- the empty text
    (read [] ≡ commands [])
    -- `M`
    × (read (77 ∷ []) ≡ refusal (ExpectedNumber 1))
    -- `M1`
    × (read (77 ∷ 49 ∷ []) ≡ refusal (UnexpectedEnd 2))
    -- `M1e 2`
    × (read (77 ∷ 49 ∷ 101 ∷ 32 ∷ 50 ∷ []) ≡ refusal (InvalidNumber 2))
    -- `M1 2Z3 4`
    × (read (77 ∷ 49 ∷ 32 ∷ 50 ∷ 90 ∷ 51 ∷ 32 ∷ 52 ∷ []) ≡ refusal (MissingMoveTo 5))
    -- `m1 2 3 4`
    × (read (109 ∷ 49 ∷ 32 ∷ 50 ∷ 32 ∷ 51 ∷ 32 ∷ 52 ∷ []) ≡ commands (MoveTo (point 0x3f80_0000 0x4000_0000) ∷ LineTo (point 0x4080_0000 0x40c0_0000) ∷ []))
    -- `ZL1 2`
    × (read (90 ∷ 76 ∷ 49 ∷ 32 ∷ 50 ∷ []) ≡ commands (ClosePath ∷ LineTo (point 0x3f80_0000 0x4000_0000) ∷ []))
    -- `M0 0S1 2 3 4`
    × (read (77 ∷ 48 ∷ 32 ∷ 48 ∷ 83 ∷ 49 ∷ 32 ∷ 50 ∷ 32 ∷ 51 ∷ 32 ∷ 52 ∷ [])
    ≡ commands (MoveTo (point 0 0) ∷ CubicTo (point 0 0) (point 0x3f80_0000 0x4000_0000) (point 0x4040_0000 0x4080_0000) ∷ []))
    -- `M0 0A1 1 0 2 0 3 4`
    × (read (77 ∷ 48 ∷ 32 ∷ 48 ∷ 65 ∷ 49 ∷ 32 ∷ 49 ∷ 32 ∷ 48 ∷ 32 ∷ 50 ∷ 32 ∷ 48 ∷ 32 ∷ 51 ∷ 32 ∷ 52 ∷ []) ≡ refusal (ExpectedFlag 11))
unfolding read_path_of commands_of read_from offsets_of offsets_from read_step_of offset_at next_due_of due_at_of due_again_of due_letter_of due_group_of after_of
    repeated_of needs_point_of first_control_of takes_up_of is_relative_of read_group_of read_move_of read_line_of read_horizontal_of read_vertical_of read_cubic_of
    read_smooth_cubic_of read_quad_of read_smooth_quad_of read_arc_of read_pair_of moved_of read_flags_of read_flag_of flag_standing read_number_of meaning_of is_letter_of
    number_of value_of digits_among val rise_of fall_of falls add_of round scan_number_of no_exponent_digit no_digit places_of end_of exponent_of mark_of fraction_of
    point_of whole_of past_mark_of past_all past_one stands among scan leading letters_of numbers_of of_bits of_int add
readings = (refl, refl, refl, refl, refl, refl, refl, refl, refl)

pub smooth-readings :
    -- `M1 2T4 6T9 9`: a T after a T mirrors that T's control although no Q came
    (read (77 ∷ 49 ∷ 32 ∷ 50 ∷ 84 ∷ 52 ∷ 32 ∷ 54 ∷ 84 ∷ 57 ∷ 32 ∷ 57 ∷ [])
    ≡ commands
    (MoveTo (point 0x3f80_0000 0x4000_0000)
    ∷ QuadTo (point 0x3f80_0000 0x4000_0000) (point 0x4080_0000 0x40c0_0000)
    ∷ QuadTo (point 0x40e0_0000 0x4120_0000) (point 0x4110_0000 0x4110_0000)
    ∷ []))
    -- `M0 0s1 2 3 4 5 6 7 8`: the second group mirrors the first one's second control
    × (read (77 ∷ 48 ∷ 32 ∷ 48 ∷ 115 ∷ 49 ∷ 32 ∷ 50 ∷ 32 ∷ 51 ∷ 32 ∷ 52 ∷ 32 ∷ 53 ∷ 32 ∷ 54 ∷ 32 ∷ 55 ∷ 32 ∷ 56 ∷ [])
    ≡ commands
    (MoveTo (point 0 0)
    ∷ CubicTo (point 0 0) (point 0x3f80_0000 0x4000_0000) (point 0x4040_0000 0x4080_0000)
    ∷ CubicTo (point 0x40a0_0000 0x40c0_0000) (point 0x4100_0000 0x4120_0000) (point 0x4120_0000 0x4140_0000)
    ∷ []))
    -- `M0 0Q1 2 3 4S5 6 7 8`: after a quad it is the current point
    × (read (77 ∷ 48 ∷ 32 ∷ 48 ∷ 81 ∷ 49 ∷ 32 ∷ 50 ∷ 32 ∷ 51 ∷ 32 ∷ 52 ∷ 83 ∷ 53 ∷ 32 ∷ 54 ∷ 32 ∷ 55 ∷ 32 ∷ 56 ∷ [])
    ≡ commands
    (MoveTo (point 0 0)
    ∷ QuadTo (point 0x3f80_0000 0x4000_0000) (point 0x4040_0000 0x4080_0000)
    ∷ CubicTo (point 0x4040_0000 0x4080_0000) (point 0x40a0_0000 0x40c0_0000) (point 0x40e0_0000 0x4100_0000)
    ∷ []))
    -- `ZS9 8 7 6`: Z gives a current point
    × (read (90 ∷ 83 ∷ 57 ∷ 32 ∷ 56 ∷ 32 ∷ 55 ∷ 32 ∷ 54 ∷ []) ≡ commands (ClosePath ∷ CubicTo (point 0 0) (point 0x4110_0000 0x4100_0000) (point 0x40e0_0000 0x40c0_0000) ∷ []))
    -- `S1 2 3 4` and `t1 2`: without one it is 7
    × (read (83 ∷ 49 ∷ 32 ∷ 50 ∷ 32 ∷ 51 ∷ 32 ∷ 52 ∷ []) ≡ refusal (MissingMoveTo 1))
    × (read (116 ∷ 49 ∷ 32 ∷ 50 ∷ []) ≡ refusal (MissingMoveTo 1))
unfolding read_path_of commands_of read_from offsets_of offsets_from read_step_of offset_at next_due_of due_at_of due_again_of due_letter_of due_group_of after_of
    repeated_of needs_point_of first_control_of takes_up_of mirrored_of is_relative_of read_group_of read_move_of read_line_of read_horizontal_of read_vertical_of
    read_cubic_of read_smooth_cubic_of read_quad_of read_smooth_quad_of read_arc_of read_pair_of moved_of read_flags_of read_flag_of flag_standing read_number_of meaning_of
    is_letter_of number_of value_of digits_among val rise_of fall_of falls add_of sub_of round scan_number_of no_exponent_digit no_digit places_of end_of exponent_of
    mark_of fraction_of point_of whole_of past_mark_of past_all past_one stands among scan leading letters_of numbers_of of_bits of_int add sub neg
smooth-readings = (refl, refl, refl, refl, refl, refl)

pub offset-readings :
    -- ` M1 2 3 4zL5 6`: the offset of the letter, blanks before it counted; a further pair has that of its M, and a Z its own
    (offsets_of (32 ∷ 77 ∷ 49 ∷ 32 ∷ 50 ∷ 32 ∷ 51 ∷ 32 ∷ 52 ∷ 122 ∷ 76 ∷ 53 ∷ 32 ∷ 54 ∷ []) ≡ 1 ∷ 1 ∷ 9 ∷ 10 ∷ [])
    -- `M0 0L1 1L2 2`: an L after an L has its own
    × (offsets_of (77 ∷ 48 ∷ 32 ∷ 48 ∷ 76 ∷ 49 ∷ 32 ∷ 49 ∷ 76 ∷ 50 ∷ 32 ∷ 50 ∷ []) ≡ 0 ∷ 4 ∷ 8 ∷ [])
    -- `M0 0 1 1L2 2l3 3`: a further pair has its M's, and what follows its own
    × (offsets_of (77 ∷ 48 ∷ 32 ∷ 48 ∷ 32 ∷ 49 ∷ 32 ∷ 49 ∷ 76 ∷ 50 ∷ 32 ∷ 50 ∷ 108 ∷ 51 ∷ 32 ∷ 51 ∷ []) ≡ 0 ∷ 0 ∷ 8 ∷ 12 ∷ [])
unfolding offsets_of offsets_from read_step_of offset_at next_due_of due_at_of due_again_of due_letter_of due_group_of after_of repeated_of needs_point_of first_control_of
    takes_up_of is_relative_of read_group_of read_move_of read_line_of read_horizontal_of read_vertical_of read_cubic_of read_smooth_cubic_of read_quad_of read_smooth_quad_of
    read_arc_of read_pair_of moved_of read_flags_of read_flag_of flag_standing read_number_of meaning_of is_letter_of number_of value_of digits_among val rise_of fall_of falls
    add_of round scan_number_of no_exponent_digit no_digit places_of end_of exponent_of mark_of fraction_of point_of whole_of past_mark_of past_all past_one stands
    among scan leading letters_of numbers_of of_bits of_int add
offset-readings = (refl, refl, refl)

-- p + (p - c) at 0.1 and 0.3, where 2·p - c is another float; and the current point mirrored in itself, where -0 becomes +0 and an infinity a NaN
pub mirror-bits :
    (to_bits binary32 (mirrored_of (point 0x3dcc_cccd 0) (point 0x3e99_999a 0)).x ≡ 0xbdcc_cccf)
    × (to_bits binary32 (sub binary32 (mul binary32 (of_bits binary32 0x4000_0000) (of_bits binary32 0x3dcc_cccd)) (of_bits binary32 0x3e99_999a)) ≡ 0xbdcc_ccce)
    × (to_bits binary32 (mirrored_of (point 0x8000_0000 0x7f80_0000) (point 0x8000_0000 0x7f80_0000)).x ≡ 0)
    × (to_bits binary32 (mirrored_of (point 0x8000_0000 0x7f80_0000) (point 0x8000_0000 0x7f80_0000)).y ≡ 0x7fc0_0000)
unfolding mirrored_of add_of sub_of to_bits add sub mul neg sum round units of_int of_bits
mirror-bits = (refl, refl, refl, refl)
