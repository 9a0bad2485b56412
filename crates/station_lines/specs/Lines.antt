-- The lines of the station tool (document 01, "The station tool"): bytes, each line with its LF. Definitions only.
use Rattle.std.specs.Prelude.{ℕ, ◌<◌, List, [], ◌∷◌, ◌++◌, get_or, Float, Option, Some, None}
use Rattle.answers.specs.Answers.{number_of, carried_of, listed}
use Rattle.answers.specs.declared.refusals.Refusal.{Refusal}
use Rattle.answers.specs.declared.refusals.Refusal.TheVariants.{TooLong, UnexpectedEnd, ExpectedNumber, InvalidNumber, ExpectedFlag}
use Rattle.answers.specs.declared.refusals.Refusal.TheVariants.{UnsupportedCommand, MissingMoveTo, NoRoom, BadList, RotationRange, NotFinite, BadPath, Range}
use Rattle.math.specs.declared.points.Point.{Point}
use Rattle.commands.specs.Stored.{letter_of, arguments_of}
use Rattle.commands.specs.declared.command.PathCommand.{PathCommand}
use Rattle.station_lines.specs.Numbers.{bits_field, number_field, decimal_of}

-- numbers as bits, each after a space
unfoldable pub bits_fields : List Float → List ℕ
unfolding bits_field
bits_fields [] = []
bits_fields (value ∷ values) = bits_field value ++ bits_fields values

abbrev pub feed : List ℕ
feed = 10 ∷ []

-- "Command: letter, numbers as bits", and the offset of the letter that made it (document 02, L5), in bytes of the path's text
unfoldable pub argument_fields : PathCommand → List ℕ
unfolding bits_fields
argument_fields command = bits_fields (arguments_of command)

unfoldable pub command_line : PathCommand → ℕ → List ℕ
unfolding argument_fields number_field
command_line command offset = letter_of command ∷ argument_fields command ++ (number_field offset ++ feed)

unfoldable pub point_fields : Point → List ℕ
unfolding bits_fields
point_fields point = bits_fields (point.x ∷ point.y ∷ [])

-- "Segment: line, quad, cubic, arc or fallback, and running length", and the number of its command (document 02, L5), from 0
abbrev pub names : List (List ℕ)
names = (108 ∷ 105 ∷ 110 ∷ 101 ∷ []) ∷ (113 ∷ 117 ∷ 97 ∷ 100 ∷ []) ∷ (99 ∷ 117 ∷ 98 ∷ 105 ∷ 99 ∷ []) ∷ (97 ∷ 114 ∷ 99 ∷ []) ∷ []

abbrev pub last_name : List ℕ
last_name = 102 ∷ 97 ∷ 108 ∷ 108 ∷ 98 ∷ 97 ∷ 99 ∷ 107 ∷ []

unfoldable pub kind_name : ℕ → List ℕ
kind_name kind = get_or names kind last_name

unfoldable pub segment_line : ℕ → Float → ℕ → List ℕ
unfolding kind_name bits_field number_field
segment_line kind running command = kind_name kind ++ (bits_field running ++ (number_field command ++ feed))

-- "Output, each section after its count": a word, a space, a count
unfoldable pub header_line : List ℕ → ℕ → List ℕ
unfolding number_field
header_line word count = word ++ (number_field count ++ feed)

-- a number alone
unfoldable pub amount_line : ℕ → List ℕ
unfolding decimal_of
amount_line value = decimal_of value ++ feed

-- "segment number (a minus sign if none)"
unfoldable pub segment_field : Option ℕ → List ℕ
unfolding decimal_of
segment_field (Some number) = 32 ∷ decimal_of number
segment_field None = 32 ∷ 45 ∷ []

-- "Station k: k, segment number (a minus sign if none), x, y, tangent"
unfoldable pub station_line : ℕ → Option ℕ → Point → Point → List ℕ
unfolding decimal_of segment_field point_fields
station_line k found position tangent = decimal_of k ++ (segment_field found ++ (point_fields position ++ (point_fields tangent ++ feed)))

-- values to the base 10, each after a space
unfoldable pub value_fields : List ℕ → List ℕ
unfolding number_field
value_fields [] = []
value_fields (value ∷ values) = number_field value ++ value_fields values

-- "what it carries": numbers, and a letter as itself
unfoldable pub carried_fields : Refusal → List ℕ
unfolding value_fields
carried_fields (TooLong size) = value_fields (listed (carried_of (TooLong size)))
carried_fields (UnexpectedEnd at) = value_fields (listed (carried_of (UnexpectedEnd at)))
carried_fields (ExpectedNumber at) = value_fields (listed (carried_of (ExpectedNumber at)))
carried_fields (InvalidNumber at) = value_fields (listed (carried_of (InvalidNumber at)))
carried_fields (ExpectedFlag at) = value_fields (listed (carried_of (ExpectedFlag at)))
carried_fields (UnsupportedCommand letter at) = 32 ∷ letter ∷ number_field at
carried_fields (MissingMoveTo at) = value_fields (listed (carried_of (MissingMoveTo at)))
carried_fields (NoRoom needs) = value_fields (listed (carried_of (NoRoom needs)))
carried_fields (BadList command) = value_fields (listed (carried_of (BadList command)))
carried_fields (RotationRange segment) = value_fields (listed (carried_of (RotationRange segment)))
carried_fields (NotFinite number) = value_fields (listed (carried_of (NotFinite number)))
carried_fields BadPath = value_fields (listed (carried_of BadPath))
carried_fields (Range found) = value_fields (listed (carried_of (Range found)))

-- "A refusal prints only `refused`, its number and what it carries."
unfoldable pub refusal_line : Refusal → List ℕ
unfolding number_field carried_fields
refusal_line refusal = (114 ∷ 101 ∷ 102 ∷ 117 ∷ 115 ∷ 101 ∷ 100 ∷ []) ++ (number_field (number_of refusal) ++ (carried_fields refusal ++ feed))

-- a segment's number has at most three digits
abbrev pub FewSegments : Option ℕ → Type 0
FewSegments (Some number) = number < 1000
FewSegments None = Unit {0}
