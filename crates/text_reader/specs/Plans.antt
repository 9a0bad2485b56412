-- The two parts of a plan (document 01, "The station tool"): its first line, and the text of its path. Places count bytes from 0. Definitions only.
use Rattle.std.specs.Prelude.{ℕ, ◌+◌, ◌-◌, ◌&&◌, cond, List, Result, Ok, Err, leb, eqb, get_or, drop}
use Rattle.answers.specs.declared.refusals.Refusal.{Refusal}
use Rattle.answers.specs.declared.refusals.Refusal.TheVariants.{Range}
use Rattle.scan.specs.Runs.{past_digits_of}
use Rattle.decimal_digits.specs.Digits.{digits_in, val}
use Rattle.svg_step.specs.Steps.{Step, read_step_of}
use Rattle.svg_step.specs.declared.steps.Reader.{Reader}
use Rattle.text_reader.specs.declared.line.FirstLine.{FirstLine}

abbrev pub stations : ℕ → ℕ → FirstLine
stations count next = record { count = count; next = next }

-- "stations not 2 to 1,000": "out of range 13 with its number"
unfoldable pub judged : ℕ → ℕ → Result FirstLine Refusal
judged count next = cond (leb 2 count && leb count 1000) (Ok (stations count next)) (Err (Range count))

-- "the number of stations in 1 to 9 digits, LF"; "of another form it is 13 with 0"
unfoldable pub first_line_of : List ℕ → ℕ → Result FirstLine Refusal
first_line_of text at =
    let end = past_digits_of text at in
    cond (leb 1 (end - at) && leb (end - at) 9 && eqb (get_or text end 0) 10)
    (judged (val (digits_in text at end)) (end + 1))
    (Err (Range 0))

-- where reading goes on: past a line that is read, and at its start where it is refused
unfoldable pub past_of : Result FirstLine Refusal → ℕ → ℕ
past_of (Ok line) at = line.next
past_of (Err reason) at = at

-- a step of the path whose text starts at a place: its places and offsets count from there
unfoldable pub step_of : List ℕ → ℕ → Reader → Step
step_of text at state = read_step_of (drop at text) state
