-- Of what each command of a text is made (document 01, "Permissive reading"; document 02, L5): the meaning of its letter, for every kind of command, and the nearest values of the numbers after it.
-- Places count bytes from 0. What the reader's own definitions read is not cited. The first control of S and T is in svg/specs/Smooth.antt. Definitions only.
use Rattle.std.specs.Prelude.{ℕ, ◌+◌, ◌≤◌, ◌≡◌, Bool, true, false, ◌&&◌, cond, List, [], ◌∷◌, leb, Float, length, get_or}
use Rattle.std.specs.Float.{binary32}
use Rattle.std.specs.Float.Ieee.{add}
use Rattle.scan.specs.Runs.{past_separators_of}
use Rattle.decimal_nearest.specs.Nearest.{ValueAt}
use Rattle.math.specs.declared.points.Point.{Point}
use Rattle.commands.specs.declared.command.PathCommand.{PathCommand}
use Rattle.commands.specs.declared.command.PathCommand.TheVariants.{MoveTo, LineTo, QuadTo, CubicTo, ArcTo, ClosePath}
use Rattle.svg_group.specs.Letters.{is_letter_of, meaning_of}
use Rattle.svg_group.specs.declared.letters.Kind.{Kind}
use Rattle.svg_group.specs.declared.letters.Kind.TheVariants.{Move, Line, Horizontal, Vertical, Cubic, SmoothCubic, Quad, SmoothQuad, Arc}
use Rattle.svg_group.specs.declared.letters.Letter.{Letter}
use Rattle.svg_group.specs.declared.letters.Letter.TheVariants.{Draws, Closes, Unknown}
use Rattle.svg.specs.Smooth.{Entry, made_by, end_of, start_of}

-- ---- numbers, pairs and flags from a place on, and where they end

-- past separators stands a number, of which this is the nearest value
abbrev pub NumberFrom : List ℕ → ℕ → Float → ℕ → Type 0
NumberFrom text from x next = ValueAt text (past_separators_of text from) x next

-- "Lower case adds to the current point": one coordinate of it
abbrev pub shifted : Bool → Float → Float → Float
shifted true from value = add binary32 from value
shifted false from value = value

pub record PairFrom (text : List ℕ) (from : ℕ) (relative : Bool) (current point : Point) (next : ℕ) : Type 0 where
  pub x : Float
  pub y : Float
  pub between : ℕ
  pub first : NumberFrom text from x between
  pub second : NumberFrom text between y next
  pub is : point ≡ record { x = shifted relative current.x x; y = shifted relative current.y y }

-- past separators stands a 0 or a 1, one byte
pub record FlagFrom (text : List ℕ) (from : ℕ) (set : Bool) (next : ℕ) : Type 0 where
  pub stands : get_or text (past_separators_of text from) 0 ≡ cond set 49 48
  pub ends : next ≡ past_separators_of text from + 1

-- ---- one group of numbers makes a command

-- two radii, which are no point and stay as they are written, a rotation, two flags and the end
pub record ArcFrom (text : List ℕ) (from : ℕ) (relative : Bool) (current : Point) (command : PathCommand) (next : ℕ) : Type 0 where
  pub radii : Point
  pub rotation : Float
  pub large : Bool
  pub sweep : Bool
  pub end : Point
  pub second : ℕ
  pub third : ℕ
  pub fourth : ℕ
  pub fifth : ℕ
  pub radii-from : PairFrom text from false current radii second
  pub rotation-from : NumberFrom text second rotation third
  pub large-from : FlagFrom text third large fourth
  pub sweep-from : FlagFrom text fourth sweep fifth
  pub end-from : PairFrom text fifth relative current end next
  pub is : command ≡ ArcTo radii rotation large sweep end

-- two pairs, one after the other
pub record TwoFrom (text : List ℕ) (from : ℕ) (relative : Bool) (current one other : Point) (next : ℕ) : Type 0 where
  pub between : ℕ
  pub first : PairFrom text from relative current one between
  pub second : PairFrom text between relative current other next

-- By the kind. `own` says that the letter stands before these numbers, and is not repeated: "M: first pair MoveTo, more pairs LineTo. H and V give LineTo", whose other coordinate is the current
-- point's.
abbrev pub Drawn : List ℕ → ℕ → Bool → Bool → Point → Kind → PathCommand → ℕ → Type 0
Drawn text from own relative current Move command next = (end : Point) × PairFrom text from relative current end next × (command ≡ cond own (MoveTo end) (LineTo end))
Drawn text from own relative current Line command next = (end : Point) × PairFrom text from relative current end next × (command ≡ LineTo end)
Drawn text from own relative current Horizontal command next = (x : Float) × NumberFrom text from x next × (command ≡ LineTo (record { x = shifted relative current.x x; y = current.y }))
Drawn text from own relative current Vertical command next = (y : Float) × NumberFrom text from y next × (command ≡ LineTo (record { x = current.x; y = shifted relative current.y y }))
Drawn text from own relative current Cubic command next =
    (control1 : Point) × (control2 : Point) × (end : Point) × (second : ℕ)
    × PairFrom text from relative current control1 second × TwoFrom text second relative current control2 end next × (command ≡ CubicTo control1 control2 end)
Drawn text from own relative current SmoothCubic command next =
    (first : Point) × (control2 : Point) × (end : Point) × TwoFrom text from relative current control2 end next × (command ≡ CubicTo first control2 end)
Drawn text from own relative current Quad command next = (control : Point) × (end : Point) × TwoFrom text from relative current control end next × (command ≡ QuadTo control end)
Drawn text from own relative current SmoothQuad command next = (first : Point) × (end : Point) × PairFrom text from relative current end next × (command ≡ QuadTo first end)
Drawn text from own relative current Arc command next = ArcFrom text from relative current command next

-- ---- the letter

-- Of a command whose first byte past separators stands at `at`: the numbers of its group start past its letter, or at once where the letter is repeated. "with none it is absolute"; a Z has no
-- numbers and is not repeated.
abbrev pub ByMeaning : List ℕ → ℕ → Bool → ℕ → Bool → Point → PathCommand → ℕ → Letter → Type 0
ByMeaning text at own letter placed current command next (Draws kind) = Drawn text (past_separators_of text (cond own (at + 1) at)) own (leb 97 letter && placed) current kind command next
ByMeaning text at own letter placed current command next Closes = (own ≡ true) × (command ≡ ClosePath) × (next ≡ at + 1)
ByMeaning text at own letter placed current command next Unknown = ⊥

-- a command from a place on, past one that the letter `last` made, with or without a current point
pub record Makes (text : List ℕ) (from last : ℕ) (placed : Bool) (current : Point) (letter : ℕ) (command : PathCommand) (next : ℕ) : Type 0 where
  pub letter-is : letter ≡ made_by text from last
  pub made : let at = past_separators_of text from in ByMeaning text at (is_letter_of (get_or text at 0)) letter placed current command next (meaning_of letter)

-- ---- the text: each command from where the one before it ends, in the subpath that it goes on, up to the text's end

abbrev pub Reads : List ℕ → ℕ → ℕ → Bool → Point → Point → List Entry → Type 0
Reads text from last placed current start [] = length text ≤ past_separators_of text from
Reads text from last placed current start (entry ∷ rest) =
    (next : ℕ) × Makes text from last placed current entry.letter entry.command next
    × Reads text next entry.letter true (end_of start entry.command) (start_of start entry.command) rest
