-- Numbers, flags and pairs where one is due (document 01, "The answers" and "Permissive reading"). Places count bytes from 0. Definitions only.
use Rattle.std.specs.Prelude.{ℕ, ◌+◌, Bool, true, false, cond, List, ltb, eqb, Result, Ok, Err, length, get_or}
use Rattle.answers.specs.declared.refusals.Refusal.{Refusal}
use Rattle.answers.specs.declared.refusals.Refusal.TheVariants.{UnexpectedEnd, ExpectedFlag}
use Rattle.scan.specs.Runs.{past_separators_of}
use Rattle.decimal.specs.Decimal.{number_of}
use Rattle.decimal.specs.declared.numbers.Read.{Read}
use Rattle.math.specs.Math.{add_of}
use Rattle.math.specs.declared.points.Point.{Point}
use Rattle.svg_group.specs.declared.numbers.Flag.{Flag}
use Rattle.svg_group.specs.declared.numbers.Flags.{Flags}
use Rattle.svg_group.specs.declared.numbers.Coordinates.{Coordinates}

-- something that is read and what is read from past it, or its refusal
abbrev pub and_then : {A B : Type 0} → Result A Refusal → (A → Result B Refusal) → Result B Refusal
and_then (Ok value) go = go value
and_then (Err refusal) go = Err refusal

-- ---- a number

-- 2: "after separators the text ends where a further number or flag of a begun group is due", with "offset (the text's length)"
unfoldable pub read_number_of : List ℕ → ℕ → Result Read Refusal
read_number_of text at =
    let start = past_separators_of text at in
    cond (ltb start (length text)) (number_of text start) (Err (UnexpectedEnd (length text)))

-- ---- a flag

abbrev pub flag_at : Bool → ℕ → Flag
flag_at set next = record { set = set; next = next }

-- 5: "byte at a flag's place is not 0 or 1"
unfoldable pub flag_standing : ℕ → ℕ → Result Flag Refusal
flag_standing at byte = cond (eqb byte 48) (Ok (flag_at false (at + 1))) (cond (eqb byte 49) (Ok (flag_at true (at + 1))) (Err (ExpectedFlag at)))

unfoldable pub read_flag_of : List ℕ → ℕ → Result Flag Refusal
read_flag_of text at =
    let start = past_separators_of text at in
    cond (ltb start (length text)) (flag_standing start (get_or text start 0)) (Err (UnexpectedEnd (length text)))

abbrev pub flags_at : Bool → Bool → ℕ → Flags
flags_at large sweep next = record { large = large; sweep = sweep; next = next }

-- the two flags of an arc
unfoldable pub read_flags_of : List ℕ → ℕ → Result Flags Refusal
read_flags_of text at =
    and_then (read_flag_of text at) (λ large.
    and_then (read_flag_of text large.next) (λ sweep.
    Ok (flags_at large.set sweep.set sweep.next)))

-- ---- a pair

-- "Lower case adds to the current point"
unfoldable pub moved_of : Bool → Point → Point → Point
moved_of true current point = add_of current point
moved_of false current point = point

-- a point and the place past it
abbrev pub pair_at : Point → ℕ → Coordinates
pair_at point next = record { x = point.x; y = point.y; next = next }

abbrev pub point_of : Coordinates → Point
point_of pair = record { x = pair.x; y = pair.y }

unfoldable pub read_pair_of : List ℕ → ℕ → Bool → Point → Result Coordinates Refusal
read_pair_of text at relative current =
    and_then (read_number_of text at) (λ x.
    and_then (read_number_of text x.end) (λ y.
    Ok (pair_at (moved_of relative current (record { x = x.value; y = y.value })) y.end)))
