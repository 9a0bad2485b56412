-- Document 02's example of the season report, and single plans, held to the definitions by computation. Assumes nothing.
use Prim.Native.Nat.{ℕ}
use mathlib.Core.Path.{◌≡◌, refl}
use mathlib.Core.List.{List, [], ◌∷◌}
use lib.Ieee.{span, climb, size, odd, units, round, neg, sum, add, sub, mul, div, lt, eq, le, ne, of_int, of_fields, of_bits, to_bits, is_nan, fits, whole}
use Rattle.scan.specs.Bytes.{among}
use Rattle.scan.specs.Numbers.{whole_of, point_of, fraction_of, mark_of as mark_known-of-scan-numbers, exponent_of as exponent_of-of-scan-numbers, end_of, places_of, no_digit, no_exponent_digit, scan_number_of}
use Rattle.scan.specs.Runs.{stands, past_one, past_all, past_mark_of}
use Rattle.scan.specs.Scan.{leading, scan}
use Rattle.decimal_digits.specs.Digits.{digits_among, val}
use Rattle.decimal_digits.specs.Exponent.{capped, exponent_of as exponent_of-of-digits-exponent}
use Rattle.decimal.specs.Decimal.{falls, rise_of, fall_of, value_of, number_of}
use Rattle.floats.specs.Floats.{zero_f, one_f, epsilon_f, largest_f, min_of, max_of, clamp_of, clamp01_of}
use Rattle.root.specs.Root.{root_digits, root_of}
use Rattle.lengths.specs.Length.{square_sum_of, narrow_of, length_of as length_known-of-lengths}
use Rattle.math.specs.Math.{lerp_of, origin_f, add_of, sub_of, scale_of, length_of, distance_of, normalize_of, lerp_point_of}
use Rattle.table.specs.Spots.{before as before-of-table-spots, path_total, spot_at, spot_of}
use Rattle.path_segment.specs.Segments.{width_of, tables_of, has_table, segment_of, table_for, table_stored, length_for}
use Rattle.path_stored.specs.Layout.{kinds_of, fields_of_all, tables_of_all, running_of, lengths_of_all}
use Rattle.commands.specs.Stored.{letters_of, numbers_of}
use Rattle.svg_group.specs.Groups.{read_move_of, read_line_of, read_horizontal_of, read_vertical_of, read_cubic_of, read_quad_of, read_arc_of, read_group_of}
use Rattle.svg_group.specs.Letters.{is_letter_of, meaning_of}
use Rattle.svg_group.specs.Numbers.{read_number_of, flag_standing, read_flag_of, read_flags_of, moved_of, read_pair_of}
use Rattle.svg_step.specs.Steps.{is_relative_of, needs_point_of, repeated_of, after_of, due_group_of, due_letter_of, due_again_of, due_at_of, next_due_of, offset_at, read_step_of}
use Rattle.svg.specs.Texts.{read_from, commands_of, offsets_from, offsets_of}
use Rattle.arc.specs.Arcs.{is_fallback, fallback_shape, no_table, fallen_back, fitted, out_of_range, made_arc_of, arc_position_of, arc_tangent_of, arc_placed_of, arc_heading_of, arc_turned_of, arc_length_of}
use Rattle.arc.specs.Lines.{line_length_of, line_point_of, line_position_of, line_tangent_of, line_rotation_deg_of, made_line_of}
use Rattle.path_drawing.specs.Building.{build_from, build_of, drawers_from, drawers_of}
use Rattle.path_drawing.specs.Drawing.{fresh_of, arc_of, arc_stroke_of, draw_of}
use Rattle.station_lines.specs.Lines.{header_line, amount_line}
use Rattle.station_lines.specs.Numbers.{decimal_from, decimal_of, number_field}
use Rattle.station_sections.specs.Sections.{lines_to}
use Rattle.season_length.specs.Millimetres.{millimetres_of}
use Rattle.season_plan.specs.Rows.{row_of, times_in}
use Rattle.season_plan.specs.Plans.{Outcome, accepted, refused, weighed, read_of, plan_of, rows_of}
use Rattle.season_sheet.specs.Lengths.{more_of, measured}
use Rattle.season_sheet.specs.Sheet.{name_of, row_line, row_lines, used_in, section_of, lengths_of, lines_of}
use Rattle.season_feed.specs.Seasons.{line_from, outcomes_from, outcomes_of, rows_of_all, lengths_in, values_to, sheet_for, sheet_of}

-- the example: the sheet of `8`, LF, `M1 1L7 9`, `3`, LF, `M1e`
pub example-told :
    sheet_of (56 ∷ 10 ∷ 77 ∷ 49 ∷ 32 ∷ 49 ∷ 76 ∷ 55 ∷ 32 ∷ 57 ∷ 51 ∷ 10 ∷ 77 ∷ 49 ∷ 101 ∷ [])
    -- `readings 1`
    ≡ 114 ∷ 101 ∷ 97 ∷ 100 ∷ 105 ∷ 110 ∷ 103 ∷ 115 ∷ 32 ∷ 49 ∷ 10
    -- `refusals 1`
    ∷ 114 ∷ 101 ∷ 102 ∷ 117 ∷ 115 ∷ 97 ∷ 108 ∷ 115 ∷ 32 ∷ 49 ∷ 10
    -- `InvalidNumber 1`
    ∷ 73 ∷ 110 ∷ 118 ∷ 97 ∷ 108 ∷ 105 ∷ 100 ∷ 78 ∷ 117 ∷ 109 ∷ 98 ∷ 101 ∷ 114 ∷ 32 ∷ 49 ∷ 10
    -- `letters 2`
    ∷ 108 ∷ 101 ∷ 116 ∷ 116 ∷ 101 ∷ 114 ∷ 115 ∷ 32 ∷ 50 ∷ 10
    -- `M 1`
    ∷ 77 ∷ 32 ∷ 49 ∷ 10
    -- `L 1`
    ∷ 76 ∷ 32 ∷ 49 ∷ 10
    -- `kinds 1`
    ∷ 107 ∷ 105 ∷ 110 ∷ 100 ∷ 115 ∷ 32 ∷ 49 ∷ 10
    -- `line 1`
    ∷ 108 ∷ 105 ∷ 110 ∷ 101 ∷ 32 ∷ 49 ∷ 10
    -- `lengths 3`
    ∷ 108 ∷ 101 ∷ 110 ∷ 103 ∷ 116 ∷ 104 ∷ 115 ∷ 32 ∷ 51 ∷ 10
    -- `10000`
    ∷ 49 ∷ 48 ∷ 48 ∷ 48 ∷ 48 ∷ 10
    -- `10000`
    ∷ 49 ∷ 48 ∷ 48 ∷ 48 ∷ 48 ∷ 10
    -- `10000`
    ∷ 49 ∷ 48 ∷ 48 ∷ 48 ∷ 48 ∷ 10
    ∷ []
unfolding among whole_of point_of fraction_of mark_known-of-scan-numbers exponent_of-of-scan-numbers end_of places_of no_digit no_exponent_digit
    scan_number_of stands past_one past_all past_mark_of leading scan digits_among val capped exponent_of-of-digits-exponent falls rise_of fall_of
    value_of number_of zero_f one_f epsilon_f largest_f min_of max_of clamp_of clamp01_of root_digits root_of square_sum_of narrow_of length_known-of-lengths
    lerp_of origin_f add_of sub_of scale_of length_of distance_of normalize_of lerp_point_of before-of-table-spots path_total spot_at spot_of width_of
    tables_of has_table segment_of table_for length_for kinds_of fields_of_all table_stored tables_of_all running_of lengths_of_all letters_of numbers_of
    read_move_of read_line_of read_horizontal_of read_vertical_of read_cubic_of read_quad_of read_arc_of read_group_of is_letter_of meaning_of read_number_of
    flag_standing read_flag_of read_flags_of moved_of read_pair_of is_relative_of needs_point_of repeated_of after_of due_group_of due_letter_of due_again_of due_at_of
    next_due_of offset_at read_step_of read_from commands_of offsets_from offsets_of is_fallback fallback_shape no_table fallen_back fitted out_of_range
    made_arc_of arc_position_of arc_tangent_of arc_placed_of arc_heading_of arc_turned_of arc_length_of line_length_of line_point_of line_position_of
    line_tangent_of line_rotation_deg_of made_line_of build_from build_of drawers_from drawers_of fresh_of arc_of arc_stroke_of draw_of span climb size odd
    units round neg sum add sub mul div lt eq le ne of_int of_fields of_bits to_bits is_nan fits whole header_line amount_line decimal_from
    decimal_of number_field lines_to millimetres_of row_of times_in weighed read_of plan_of rows_of more_of measured name_of row_line row_lines used_in
    section_of lengths_of lines_of line_from outcomes_from outcomes_of rows_of_all lengths_in values_to sheet_for sheet_of
example-told = refl

-- a plan without a byte is accepted, and so is one that draws nothing: both have the length 0
pub nothing-drawn : (plan_of [] ≡ accepted [] [] 0) × (plan_of (77 ∷ 49 ∷ 32 ∷ 50 ∷ []) ≡ accepted (77 ∷ []) [] 0)
unfolding among whole_of point_of fraction_of mark_known-of-scan-numbers exponent_of-of-scan-numbers end_of places_of no_digit no_exponent_digit
    scan_number_of stands past_one past_all past_mark_of leading scan digits_among val capped exponent_of-of-digits-exponent falls rise_of fall_of
    value_of number_of zero_f one_f epsilon_f largest_f min_of max_of clamp_of clamp01_of root_digits root_of square_sum_of narrow_of length_known-of-lengths
    lerp_of origin_f add_of sub_of scale_of length_of distance_of normalize_of lerp_point_of before-of-table-spots path_total spot_at spot_of width_of
    tables_of has_table segment_of table_for length_for kinds_of fields_of_all table_stored tables_of_all running_of lengths_of_all letters_of numbers_of
    read_move_of read_line_of read_horizontal_of read_vertical_of read_cubic_of read_quad_of read_arc_of read_group_of is_letter_of meaning_of read_number_of
    flag_standing read_flag_of read_flags_of moved_of read_pair_of is_relative_of needs_point_of repeated_of after_of due_group_of due_letter_of due_again_of due_at_of
    next_due_of offset_at read_step_of read_from commands_of offsets_from offsets_of is_fallback fallback_shape no_table fallen_back fitted out_of_range
    made_arc_of arc_position_of arc_tangent_of arc_placed_of arc_heading_of arc_turned_of arc_length_of line_length_of line_point_of line_position_of
    line_tangent_of line_rotation_deg_of made_line_of build_from build_of drawers_from drawers_of fresh_of arc_of arc_stroke_of draw_of span climb size odd
    units round neg sum add sub mul div lt eq le ne of_int of_fields of_bits to_bits is_nan fits whole millimetres_of weighed read_of plan_of
nothing-drawn = (refl, refl)

-- `M0 0h3v4z`: H, V and their small letters are stored as L, and 3, 4 and 5 metres are 12,000 millimetres
pub stored-letters : plan_of (77 ∷ 48 ∷ 32 ∷ 48 ∷ 104 ∷ 51 ∷ 118 ∷ 52 ∷ 122 ∷ []) ≡ accepted (77 ∷ 76 ∷ 76 ∷ 90 ∷ []) (0 ∷ 0 ∷ 0 ∷ []) 12000
unfolding among whole_of point_of fraction_of mark_known-of-scan-numbers exponent_of-of-scan-numbers end_of places_of no_digit no_exponent_digit
    scan_number_of stands past_one past_all past_mark_of leading scan digits_among val capped exponent_of-of-digits-exponent falls rise_of fall_of
    value_of number_of zero_f one_f epsilon_f largest_f min_of max_of clamp_of clamp01_of root_digits root_of square_sum_of narrow_of length_known-of-lengths
    lerp_of origin_f add_of sub_of scale_of length_of distance_of normalize_of lerp_point_of before-of-table-spots path_total spot_at spot_of width_of
    tables_of has_table segment_of table_for length_for kinds_of fields_of_all table_stored tables_of_all running_of lengths_of_all letters_of numbers_of
    read_move_of read_line_of read_horizontal_of read_vertical_of read_cubic_of read_quad_of read_arc_of read_group_of is_letter_of meaning_of read_number_of
    flag_standing read_flag_of read_flags_of moved_of read_pair_of is_relative_of needs_point_of repeated_of after_of due_group_of due_letter_of due_again_of due_at_of
    next_due_of offset_at read_step_of read_from commands_of offsets_from offsets_of is_fallback fallback_shape no_table fallen_back fitted out_of_range
    made_arc_of arc_position_of arc_tangent_of arc_placed_of arc_heading_of arc_turned_of arc_length_of line_length_of line_point_of line_position_of
    line_tangent_of line_rotation_deg_of made_line_of build_from build_of drawers_from drawers_of fresh_of arc_of arc_stroke_of draw_of span climb size odd
    units round neg sum add sub mul div lt eq le ne of_int of_fields of_bits to_bits is_nan fits whole millimetres_of weighed read_of plan_of
stored-letters = refl

-- `M0 0H.0065` is 7 mm, and `M0 0H1e6` the longest that is accepted; `M0 0H2e6` is refused with 13, and its letters with it
pub weighed-plans :
    (plan_of (77 ∷ 48 ∷ 32 ∷ 48 ∷ 72 ∷ 46 ∷ 48 ∷ 48 ∷ 54 ∷ 53 ∷ []) ≡ accepted (77 ∷ 76 ∷ []) (0 ∷ []) 7)
    × (plan_of (77 ∷ 48 ∷ 32 ∷ 48 ∷ 72 ∷ 49 ∷ 101 ∷ 54 ∷ []) ≡ accepted (77 ∷ 76 ∷ []) (0 ∷ []) 1000000000)
    × (plan_of (77 ∷ 48 ∷ 32 ∷ 48 ∷ 72 ∷ 50 ∷ 101 ∷ 54 ∷ []) ≡ refused 13)
unfolding among whole_of point_of fraction_of mark_known-of-scan-numbers exponent_of-of-scan-numbers end_of places_of no_digit no_exponent_digit
    scan_number_of stands past_one past_all past_mark_of leading scan digits_among val capped exponent_of-of-digits-exponent falls rise_of fall_of
    value_of number_of zero_f one_f epsilon_f largest_f min_of max_of clamp_of clamp01_of root_digits root_of square_sum_of narrow_of length_known-of-lengths
    lerp_of origin_f add_of sub_of scale_of length_of distance_of normalize_of lerp_point_of before-of-table-spots path_total spot_at spot_of width_of
    tables_of has_table segment_of table_for length_for kinds_of fields_of_all table_stored tables_of_all running_of lengths_of_all letters_of numbers_of
    read_move_of read_line_of read_horizontal_of read_vertical_of read_cubic_of read_quad_of read_arc_of read_group_of is_letter_of meaning_of read_number_of
    flag_standing read_flag_of read_flags_of moved_of read_pair_of is_relative_of needs_point_of repeated_of after_of due_group_of due_letter_of due_again_of due_at_of
    next_due_of offset_at read_step_of read_from commands_of offsets_from offsets_of is_fallback fallback_shape no_table fallen_back fitted out_of_range
    made_arc_of arc_position_of arc_tangent_of arc_placed_of arc_heading_of arc_turned_of arc_length_of line_length_of line_point_of line_position_of
    line_tangent_of line_rotation_deg_of made_line_of build_from build_of drawers_from drawers_of fresh_of arc_of arc_stroke_of draw_of span climb size odd
    units round neg sum add sub mul div lt eq le ne of_int of_fields of_bits to_bits is_nan fits whole millimetres_of weighed read_of plan_of
weighed-plans = (refl, refl, refl)
