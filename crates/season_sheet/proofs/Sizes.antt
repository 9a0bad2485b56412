-- How long a sheet is at most: 1,024 bytes. Assumes nothing.
use Prim.Native.Nat.{ℕ, zero, suc, ◌+◌, ◌/◌, ◌%◌, ◌≤◌}
use mathlib.Core.Path.{◌≡◌, refl, subst}
use mathlib.Core.Bool.{Bool, true, false, cond}
use mathlib.Core.List.{List, [], ◌∷◌, ◌++◌}
use native.Mathlib.Omega.{arith}
use lib.Dec.{ltb, eqb}
use lib.ListN.{length, length-append}
use Rattle.station_lines.specs.Numbers.{decimal_from, decimal_of, number_field}
use Rattle.station_lines.specs.Lines.{feed, header_line, amount_line}
use Rattle.station_sections.specs.Sections.{lines_to}
use Rattle.season_sheet.specs.Sheet.{name_of, count_in, row_line, row_lines, used_in, section_of, lengths_word, lengths_of, readings_word, refusals_word, letters_word, kinds_word, lines_of}
use Rattle.season_sheet.specs.declared.measures.Lengths.{Lengths}

-- ---- a line

digits-most : (n value : ℕ) → length (decimal_from n value) ≤ suc n
unfolding decimal_from
digits-most zero value = omega arith
digits-most (suc n) value = by (digits-most n (value / 10)) (ltb value 10)
  where
    by : length (decimal_from n (value / 10)) ≤ suc n → (b : Bool) → length (cond b ((48 + value) ∷ []) (decimal_from n (value / 10) ++ ((48 + value % 10) ∷ []))) ≤ suc (suc n)
    by fewer true = omega arith
    by fewer false = omega (arith, fewer, length-append (decimal_from n (value / 10)) ((48 + value % 10) ∷ []))

decimal-most : (value : ℕ) → length (decimal_of value) ≤ 21
unfolding decimal_of
decimal-most value = digits-most 20 value

header-most : (word : List ℕ) (count : ℕ) → length (header_line word count) ≤ length word + 23
unfolding header_line number_field
header-most word count =
    omega (arith, length-append word ((32 ∷ decimal_of count) ++ feed), length-append (32 ∷ decimal_of count) feed, decimal-most count)

amount-most : (value : ℕ) → length (amount_line value) ≤ 22
unfolding amount_line
amount-most value = omega (arith, length-append (decimal_of value) feed, decimal-most value)

-- ---- the rows

row-most : (counts : List ℕ) (row : ℕ) → length (row_line counts row) ≤ length (name_of row) + 23
unfolding row_line
row-most counts row = by (eqb (count_in counts row) 0)
  where
    by : (b : Bool) → length (cond b [] (header_line (name_of row) (count_in counts row))) ≤ length (name_of row) + 23
    by true = omega arith
    by false = header-most (name_of row) (count_in counts row)

-- the lines of so many rows with counts of 21 digits
unfoldable room_for : ℕ → ℕ → ℕ
room_for from zero = 0
room_for from (suc many) = room_for from many + (length (name_of (from + many)) + 23)

rows-most : (counts : List ℕ) (from many : ℕ) → length (row_lines counts from many) ≤ room_for from many
unfolding row_lines lines_to room_for
rows-most counts from zero = omega arith
rows-most counts from (suc many) =
    omega (arith, length-append (lines_to (λ k. row_line counts (from + k)) many) (row_line counts (from + many)), rows-most counts from many, row-most counts (from + many))

section-most : (word counts : List ℕ) (from many : ℕ) → length (section_of word counts from many) ≤ length word + 23 + room_for from many
unfolding section_of
section-most word counts from many =
    omega (arith, length-append (header_line word (used_in counts from many)) (row_lines counts from many), header-most word (used_in counts from many), rows-most counts from many)

-- the three sections have 24 rows
rooms : (room_for 1 13 ≡ 436) × (room_for 14 6 ≡ 144) × (room_for 20 5 ≡ 139)
unfolding room_for name_of
rooms = (refl, refl, refl)

-- ---- the lengths

lengths-most : (read : ℕ) (lengths : Lengths) → length (lengths_of read lengths) ≤ 96
unfolding lengths_of
lengths-most read lengths = by (amount_line lengths.shortest) (amount_line lengths.longest) (amount_line lengths.sum)
    (amount-most lengths.shortest) (amount-most lengths.longest) (amount-most lengths.sum) (eqb read 0)
  where
    by : (a b c : List ℕ) → length a ≤ 22 → length b ≤ 22 → length c ≤ 22 → (t : Bool) → length (cond t (header_line lengths_word 0) (header_line lengths_word 3 ++ (a ++ (b ++ c)))) ≤ 96
    by a b c ha hb hc true = let h : length (header_line lengths_word 0) ≤ 30 = header-most lengths_word 0 in omega (arith, h)
    by a b c ha hb hc false =
        let h : length (header_line lengths_word 3) ≤ 30 = header-most lengths_word 3 in
        omega (arith, length-append (header_line lengths_word 3) (a ++ (b ++ c)), length-append a (b ++ c), length-append b c, h, ha, hb, hc)

-- ---- the whole

joined : (a b c d e : List ℕ) → length a ≤ 31 → length b ≤ 31 + 436 → length c ≤ 30 + 144 → length d ≤ 28 + 139 → length e ≤ 96 → length (a ++ (b ++ (c ++ (d ++ e)))) ≤ 1024
joined a b c d e ha hb hc hd he =
    omega (arith, length-append a (b ++ (c ++ (d ++ e))), length-append b (c ++ (d ++ e)), length-append c (d ++ e), length-append d e, ha, hb, hc, hd, he)

pub lines-short : (counts : List ℕ) (lengths : Lengths) → length (lines_of counts lengths) ≤ 1024
unfolding lines_of
lines-short counts lengths =
    joined (header_line readings_word (count_in counts 0)) (section_of refusals_word counts 1 13) (section_of letters_word counts 14 6) (section_of kinds_word counts 20 5)
    (lengths_of (count_in counts 0) lengths)
    (header-most readings_word (count_in counts 0))
    (subst (λ (n : ℕ). length (section_of refusals_word counts 1 13) ≤ 31 + n) rooms.0 (section-most refusals_word counts 1 13))
    (subst (λ (n : ℕ). length (section_of letters_word counts 14 6) ≤ 30 + n) rooms.1 (section-most letters_word counts 14 6))
    (subst (λ (n : ℕ). length (section_of kinds_word counts 20 5) ≤ 28 + n) rooms.2 (section-most kinds_word counts 20 5))
    (lengths-most (count_in counts 0) lengths)
