-- The equations of `Stations` settle the tool's answer and its output; and no listing is empty. Assumes nothing.
use Prim.Native.Nat.{ℕ, ◌<◌}
use mathlib.Core.Path.{◌≡◌, sym, ◌∙◌}
use mathlib.Core.Bool.{Bool, true, false, cond}
use mathlib.Core.List.{List}
use native.Mathlib.Omega.{arith}
use lib.Dec.{ltb}
use lib.ListN.{length, drop}
use Rattle.answers.specs.declared.refusals.Refusal.{Refusal}
use Rattle.commands.specs.Stored.{letters_of}
use Rattle.commands.specs.declared.command.PathCommand.{PathCommand}
use Rattle.svg.specs.Texts.{Outcome, commands, refusal, commands_of, offsets_of}
use Rattle.path_drawing.specs.Building.{Built, path, refusal as unbuilt, build_of}
use Rattle.text_reader.specs.Plans.{first_line_of}
use Rattle.text_reader.specs.declared.line.FirstLine.{FirstLine}
use Rattle.std.specs.Prelude.{Result, Ok, Err}
use Rattle.station_lines.specs.Lines.{header_line, refusal_line}
use Rattle.station_listing.specs.Stations.{sections_of, built_of, read_of, plan_of, judged_of, stations_of, Stations}

-- any two allowed results are equal
pub stations-unique : (input before after other : List ℕ) (r s : ℕ) → Stations input before r after → Stations input before s other → (r ≡ s) × (after ≡ other)
stations-unique input before after other r s p q = (p.takes.count ∙ sym q.takes.count, p.bytes ∙ sym q.bytes)

-- ---- each listing starts with a word

either : (b : Bool) (xs ys : List ℕ) → 0 < length xs → 0 < length ys → 0 < length (cond b xs ys)
either true xs ys g h = g
either false xs ys g h = h

some-refusal : (reason : Refusal) → 0 < length (refusal_line reason)
unfolding refusal_line
some-refusal reason = omega arith

some-built : (count : ℕ) (list : List PathCommand) (offsets : List ℕ) (built : Built) → 0 < length (built_of count list offsets built)
unfolding sections_of header_line
some-built count list offsets (path segments) = omega arith
some-built count list offsets (unbuilt reason) = some-refusal reason

some_read : (count : ℕ) (offsets : List ℕ) (o : Outcome) → 0 < length (read_of count offsets o)
unfolding read_of
some_read count offsets (commands list) = either (ltb 256 (length (letters_of list))) _ _ (some-refusal _) (some-built count list offsets (build_of list))
some_read count offsets (refusal reason) = some-refusal reason

some-plan : (count : ℕ) (text : List ℕ) → 0 < length (plan_of count text)
unfolding plan_of
some-plan count text = either (ltb 4096 (length text)) _ _ (some-refusal _) (some_read count (offsets_of text) (commands_of text))

some-judged : (input : List ℕ) (line : Result FirstLine Refusal) → 0 < length (judged_of input line)
some-judged input (Ok line) = some-plan line.count (drop line.next input)
some-judged input (Err reason) = some-refusal reason

pub some-listing : (input : List ℕ) → 0 < length (stations_of input)
unfolding stations_of
some-listing input = some-judged input (first_line_of input 0)
