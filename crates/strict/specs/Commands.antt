-- The letters of the commands, and what a reader of one command promises. Definitions only.
use Rattle.std.specs.Prelude.{ℕ, ◌≡◌, Bool, true, false, List, [], ◌∷◌, ◌++◌, ltb, Option, Some, None}
use Rattle.scan.specs.Bytes.{among}
use Rattle.scan.specs.Runs.{stands}
use Rattle.strict_grammar.specs.Spans.{Span, ◌·◌, ◌∥◌, opt, star, sequence}
use Rattle.strict_grammar.specs.Grammar.{wsp, comma-wsp, moveto, drawto-command}
use Rattle.strict_grammar.specs.Words.{Past, Lacks, Goes}
use Rattle.strict_grammar.specs.declared.Edition.{Edition}
use Rattle.strict_grammar.specs.declared.Edition.TheVariants.{Svg11, Svg2}
use Rattle.strict_argument.specs.Reading.{argument_of}
use Rattle.strict_argument.specs.declared.groups.Kind.{Kind}
use Rattle.strict_argument.specs.declared.groups.Kind.TheVariants.{Coordinate, Pair, TwoPairs, ThreePairs, Arc}
use Rattle.strict.specs.declared.commands.Letter.{Letter}
use Rattle.strict.specs.declared.commands.Letter.TheVariants.{Moves, Closes, Takes, Other}

-- M and Z in both cases
abbrev pub move_letters : List ℕ
move_letters = 77 ∷ 109 ∷ []

abbrev pub close_letters : List ℕ
close_letters = 90 ∷ 122 ∷ []

-- the letters that take arguments of a kind: H V, L T, S Q, C and A in both cases
abbrev pub letters_of : Kind → List ℕ
letters_of Coordinate = 72 ∷ 104 ∷ 86 ∷ 118 ∷ []
letters_of Pair = 76 ∷ 108 ∷ 84 ∷ 116 ∷ []
letters_of TwoPairs = 83 ∷ 115 ∷ 81 ∷ 113 ∷ []
letters_of ThreePairs = 67 ∷ 99 ∷ []
letters_of Arc = 65 ∷ 97 ∷ []

-- all of them
abbrev pub command_letters : List ℕ
command_letters = move_letters ++ close_letters ++ letters_of Coordinate ++ letters_of Pair ++ letters_of TwoPairs ++ letters_of ThreePairs ++ letters_of Arc

-- what a byte begins
abbrev pub LetterOf : ℕ → Letter → Type 0
LetterOf byte Moves = among byte move_letters ≡ true
LetterOf byte Closes = among byte close_letters ≡ true
LetterOf byte (Takes kind) = among byte (letters_of kind) ≡ true
LetterOf byte Other = among byte command_letters ≡ false

-- what the byte at a place begins
abbrev pub LetterAt : List ℕ → ℕ → Letter → Type 0
LetterAt text at Moves = stands text at move_letters ≡ true
LetterAt text at Closes = stands text at close_letters ≡ true
LetterAt text at (Takes kind) = stands text at (letters_of kind) ≡ true
LetterAt text at Other = stands text at command_letters ≡ false

-- an answer is right for a production at a place: a word of it ends there, and where another one ends C holds; or none, where it has none
abbrev pub Reaches : Span → (ℕ → Type 0) → ℕ → Option ℕ → Type 0
Reaches P C i (Some end) = Past P C i end
Reaches P C i None = Lacks P i

-- white space, and a sequence of arguments of a kind
abbrev pub Arguments : Edition → List ℕ → Kind → Span
Arguments edition text kind = star (wsp edition text) · sequence (argument_of edition text kind) (opt (comma-wsp edition text))

-- a separator or none, and an argument of a kind
abbrev pub Item : Edition → List ℕ → Kind → Span
Item edition text kind = opt (comma-wsp edition text) · argument_of edition text kind

-- past all further arguments: other items from the same place end where a sequence could go on
abbrev pub Further : Edition → List ℕ → Kind → ℕ → ℕ → Type 0
Further edition text kind i r = Past (star (Item edition text kind)) (Goes edition text) i r

-- what may stand where a command is due: a moveto, and after one also a drawto-command
abbrev pub Command : Edition → List ℕ → Bool → Span
Command edition text true = moveto edition text ∥ drawto-command edition text
Command edition text false = moveto edition text

-- whether the first moveto is the whole path, by the white space before it: "wsp* moveto? | (moveto drawto_command*)?" of SVG 2
abbrev pub alone_of : Edition → ℕ → Bool
alone_of Svg11 white = false
alone_of Svg2 white = ltb 0 white
