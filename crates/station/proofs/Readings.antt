-- Document 01's example of the station tool, held to the definition of its output by computation. Assumes nothing.
use Prim.Native.Nat.{ℕ}
use mathlib.Core.Path.{◌≡◌, refl}
use mathlib.Core.List.{List, [], ◌∷◌}
use lib.Ieee.{span, climb, size, odd, units, round, neg, sum, add, sub, mul, div, lt, eq, le, ne, of_int, of_fields, of_bits, to_bits, is_nan, fits, whole}
use Rattle.scan.specs.Bytes.{among}
use Rattle.scan.specs.Numbers.{whole_of, point_of, fraction_of, mark_of as mark_known-of-scan-numbers, exponent_of as exponent_of-of-scan-numbers, end_of, places_of, no_digit, no_exponent_digit, scan_number_of}
use Rattle.scan.specs.Runs.{stands, past_one, past_all, past_mark_of}
use Rattle.scan.specs.Scan.{leading, scan}
use Rattle.decimal_digits.specs.Digits.{digits_among, val}
use Rattle.decimal_digits.specs.Exponent.{capped, exponent_of as exponent_of-of-digits-exponent}
use Rattle.decimal.specs.Decimal.{falls, rise_of, fall_of, value_of, number_of}
use Rattle.floats.specs.Floats.{zero_f, one_f, epsilon_f, largest_f, min_of, max_of, clamp_of, clamp01_of}
use Rattle.root.specs.Root.{root_digits, root_of}
use Rattle.lengths.specs.Length.{square_sum_of, narrow_of, length_of as length_known-of-lengths}
use Rattle.math.specs.Math.{lerp_of, origin_f, add_of, sub_of, scale_of, length_of, distance_of, normalize_of, lerp_point_of}
use Rattle.table.specs.Lookup.{first_not_below, target_of, share_of, mark_of as mark_known-of-table-lookup, raw_in_part, raw_at, raw_of}
use Rattle.table.specs.Spots.{before as before-of-table-spots, path_total, spot_at, spot_of}
use Rattle.path_segment.specs.Segments.{width_of, tables_of, has_table, segment_of, table_for, table_stored, length_for}
use Rattle.path_stored.specs.Layout.{kinds_of, fields_of_all, tables_of_all, running_of, lengths_of_all}
use Rattle.path_stored.specs.Stored.{before as before-of-stored-stored, are_known, tables_are_sound, is_stored, segment_in, table_in}
use Rattle.commands.specs.Stored.{letters_of, numbers_of}
use Rattle.svg_group.specs.Groups.{read_move_of, read_line_of, read_horizontal_of, read_vertical_of, read_cubic_of, read_quad_of, read_arc_of, read_group_of}
use Rattle.svg_group.specs.Letters.{is_letter_of, meaning_of}
use Rattle.svg_group.specs.Numbers.{read_number_of, flag_standing, read_flag_of, read_flags_of, moved_of, read_pair_of}
use Rattle.svg_step.specs.Steps.{is_relative_of, needs_point_of, repeated_of, after_of, due_group_of, due_letter_of, due_again_of, due_at_of, next_due_of, offset_at, read_step_of}
use Rattle.svg.specs.Texts.{read_from, commands_of, offsets_from, offsets_of}
use Rattle.arc.specs.Arcs.{is_fallback, fallback_shape, no_table, fallen_back, fitted, out_of_range, made_arc_of, arc_position_of, arc_tangent_of, arc_placed_of, arc_heading_of, arc_turned_of, arc_length_of}
use Rattle.arc.specs.Lines.{line_length_of, line_point_of, line_position_of, line_tangent_of, line_rotation_deg_of, made_line_of}
use Rattle.path_drawing.specs.Building.{build_from, build_of, drawers_from, drawers_of}
use Rattle.path_drawing.specs.Drawing.{fresh_of, arc_of, arc_stroke_of, draw_of}
use Rattle.path_place.specs.Cursors.{cursor_of}
use Rattle.path_place.specs.Places.{raw_in, raw_for, table_start, raw_within, place_in}
use Rattle.path_heading.specs.Headings.{sample_of, heading_of}
use Rattle.path_query.specs.Flights.{flown_within, flown_of, flight_of}
use Rattle.text_reader.specs.Plans.{judged, first_line_of}
use Rattle.station_lines.specs.Lines.{bits_fields, argument_fields, command_line, point_fields, kind_name, segment_line, header_line, segment_field, station_line}
use Rattle.station_lines.specs.Numbers.{hex_digit, hex_digits, decimal_from, decimal_of, bits_field, number_field}
use Rattle.station_commands.specs.Passes.{command_lines}
use Rattle.station_sections.specs.Sections.{lines_to, segment_lines, progress_of, station_of, station_lines}
use Rattle.station_listing.specs.Stations.{sections_of, read_of, plan_of, stations_of}

pub example-listed :
    -- `3`, LF, `M0 0L3 4`
    stations_of (51 ∷ 10 ∷ 77 ∷ 48 ∷ 32 ∷ 48 ∷ 76 ∷ 51 ∷ 32 ∷ 52 ∷ [])
    -- `commands 2`
    ≡ 99 ∷ 111 ∷ 109 ∷ 109 ∷ 97 ∷ 110 ∷ 100 ∷ 115 ∷ 32 ∷ 50 ∷ 10
    -- `M 00000000 00000000 0`
    ∷ 77 ∷ 32 ∷ 48 ∷ 48 ∷ 48 ∷ 48 ∷ 48 ∷ 48 ∷ 48 ∷ 48 ∷ 32 ∷ 48 ∷ 48 ∷ 48 ∷ 48 ∷ 48 ∷ 48 ∷ 48 ∷ 48 ∷ 32 ∷ 48 ∷ 10
    -- `L 40400000 40800000 4`
    ∷ 76 ∷ 32 ∷ 52 ∷ 48 ∷ 52 ∷ 48 ∷ 48 ∷ 48 ∷ 48 ∷ 48 ∷ 32 ∷ 52 ∷ 48 ∷ 56 ∷ 48 ∷ 48 ∷ 48 ∷ 48 ∷ 48 ∷ 32 ∷ 52 ∷ 10
    -- `segments 1`
    ∷ 115 ∷ 101 ∷ 103 ∷ 109 ∷ 101 ∷ 110 ∷ 116 ∷ 115 ∷ 32 ∷ 49 ∷ 10
    -- `line 40A00000 1`
    ∷ 108 ∷ 105 ∷ 110 ∷ 101 ∷ 32 ∷ 52 ∷ 48 ∷ 65 ∷ 48 ∷ 48 ∷ 48 ∷ 48 ∷ 48 ∷ 32 ∷ 49 ∷ 10
    -- `stations 3`
    ∷ 115 ∷ 116 ∷ 97 ∷ 116 ∷ 105 ∷ 111 ∷ 110 ∷ 115 ∷ 32 ∷ 51 ∷ 10
    -- `0 0 00000000 00000000 3F19999A 3F4CCCCD`
    ∷ 48 ∷ 32 ∷ 48 ∷ 32 ∷ 48 ∷ 48 ∷ 48 ∷ 48 ∷ 48 ∷ 48 ∷ 48 ∷ 48 ∷ 32 ∷ 48 ∷ 48 ∷ 48 ∷ 48 ∷ 48 ∷ 48 ∷ 48 ∷ 48 ∷ 32 ∷ 51 ∷ 70 ∷ 49 ∷ 57 ∷ 57 ∷ 57 ∷ 57 ∷ 65 ∷ 32 ∷ 51 ∷ 70 ∷ 52 ∷ 67 ∷ 67 ∷ 67 ∷ 67 ∷ 68 ∷ 10
    -- `1 0 3FC00000 40000000 3F19999A 3F4CCCCD`
    ∷ 49 ∷ 32 ∷ 48 ∷ 32 ∷ 51 ∷ 70 ∷ 67 ∷ 48 ∷ 48 ∷ 48 ∷ 48 ∷ 48 ∷ 32 ∷ 52 ∷ 48 ∷ 48 ∷ 48 ∷ 48 ∷ 48 ∷ 48 ∷ 48 ∷ 32 ∷ 51 ∷ 70 ∷ 49 ∷ 57 ∷ 57 ∷ 57 ∷ 57 ∷ 65 ∷ 32 ∷ 51 ∷ 70 ∷ 52 ∷ 67 ∷ 67 ∷ 67 ∷ 67 ∷ 68 ∷ 10
    -- `2 0 40400000 40800000 3F19999A 3F4CCCCD`
    ∷ 50 ∷ 32 ∷ 48 ∷ 32 ∷ 52 ∷ 48 ∷ 52 ∷ 48 ∷ 48 ∷ 48 ∷ 48 ∷ 48 ∷ 32 ∷ 52 ∷ 48 ∷ 56 ∷ 48 ∷ 48 ∷ 48 ∷ 48 ∷ 48 ∷ 32 ∷ 51 ∷ 70 ∷ 49 ∷ 57 ∷ 57 ∷ 57 ∷ 57 ∷ 65 ∷ 32 ∷ 51 ∷ 70 ∷ 52 ∷ 67 ∷ 67 ∷ 67 ∷ 67 ∷ 68 ∷ 10
    ∷ []
unfolding among whole_of point_of fraction_of mark_known-of-scan-numbers exponent_of-of-scan-numbers end_of places_of no_digit no_exponent_digit
    scan_number_of stands past_one past_all past_mark_of leading scan digits_among val capped exponent_of-of-digits-exponent falls rise_of fall_of
    value_of number_of zero_f one_f epsilon_f largest_f min_of max_of clamp_of clamp01_of root_digits root_of square_sum_of narrow_of length_known-of-lengths
    lerp_of origin_f add_of sub_of scale_of length_of distance_of normalize_of lerp_point_of first_not_below target_of share_of mark_known-of-table-lookup
    raw_in_part raw_at raw_of before-of-table-spots path_total spot_at spot_of width_of tables_of has_table segment_of table_for length_for kinds_of
    fields_of_all table_stored tables_of_all running_of lengths_of_all before-of-stored-stored are_known tables_are_sound is_stored segment_in table_in
    letters_of numbers_of read_move_of read_line_of read_horizontal_of read_vertical_of read_cubic_of read_quad_of read_arc_of read_group_of is_letter_of
    meaning_of read_number_of flag_standing read_flag_of read_flags_of moved_of read_pair_of is_relative_of needs_point_of repeated_of after_of due_group_of
    due_letter_of due_again_of due_at_of next_due_of offset_at read_step_of read_from commands_of offsets_from offsets_of is_fallback fallback_shape no_table
    fallen_back fitted out_of_range made_arc_of arc_position_of arc_tangent_of arc_placed_of arc_heading_of arc_turned_of arc_length_of line_length_of
    line_point_of line_position_of line_tangent_of line_rotation_deg_of made_line_of build_from build_of drawers_from drawers_of fresh_of arc_of arc_stroke_of
    draw_of cursor_of raw_in raw_for table_start raw_within place_in sample_of heading_of flown_within flown_of flight_of
    judged first_line_of bits_fields argument_fields command_line point_fields kind_name segment_line header_line segment_field station_line hex_digit
    hex_digits decimal_from decimal_of bits_field number_field command_lines lines_to segment_lines progress_of station_of station_lines sections_of
    read_of plan_of stations_of span climb size odd units round neg sum add sub mul div lt eq le ne of_int of_fields of_bits to_bits is_nan fits
    whole
example-listed = refl
