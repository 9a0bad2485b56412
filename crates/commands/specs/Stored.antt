-- The stored form of path commands (document 01, "Permissive reading"). Coordinates and radii are `f32` values in path units, a rotation in degrees.
-- Definitions only.
use Rattle.std.specs.Prelude.{ℕ, ◌≡◌, Bool, true, false, List, [], ◌∷◌, ◌++◌, Float, set}
use Rattle.std.specs.Float.{binary32}
use Rattle.std.specs.Float.Ieee.{of_bits}
use Rattle.std.proofs.lemmas.List.Edits.{sets}
use Rattle.commands.specs.declared.command.PathCommand.{PathCommand}
use Rattle.commands.specs.declared.command.PathCommand.TheVariants.{MoveTo, LineTo, QuadTo, CubicTo, ArcTo, ClosePath}

-- "It is stored as a letter in a byte buffer (M L Q C A Z)"
abbrev pub letter_of : PathCommand → ℕ
letter_of (MoveTo end) = 77
letter_of (LineTo end) = 76
letter_of (QuadTo control end) = 81
letter_of (CubicTo control1 control2 end) = 67
letter_of (ArcTo radii rotation large sweep end) = 65
letter_of ClosePath = 90

-- "flags are +0 or 1"
abbrev pub flag_of : Bool → Float
flag_of true = of_bits binary32 0x3f80_0000
flag_of false = of_bits binary32 0

-- "and 2, 2, 4, 6, 7 or 0 numbers in an f32 buffer"
abbrev pub arguments_of : PathCommand → List Float
arguments_of (MoveTo end) = end.x ∷ end.y ∷ []
arguments_of (LineTo end) = end.x ∷ end.y ∷ []
arguments_of (QuadTo control end) = control.x ∷ control.y ∷ end.x ∷ end.y ∷ []
arguments_of (CubicTo control1 control2 end) = control1.x ∷ control1.y ∷ control2.x ∷ control2.y ∷ end.x ∷ end.y ∷ []
arguments_of (ArcTo radii rotation large sweep end) = radii.x ∷ radii.y ∷ rotation ∷ flag_of large ∷ flag_of sweep ∷ end.x ∷ end.y ∷ []
arguments_of ClosePath = []

-- a list of commands in the two buffers: its letters
unfoldable pub letters_of : List PathCommand → List ℕ
letters_of [] = []
letters_of (command ∷ commands) = letter_of command ∷ letters_of commands

-- and its numbers, command after command
unfoldable pub numbers_of : List PathCommand → List Float
numbers_of [] = []
numbers_of (command ∷ commands) = arguments_of command ++ numbers_of commands

-- one command is stored: its letter at `letter_at`, its numbers from `at` on
pub record Store (letter_at at : ℕ) (command : PathCommand) (letters : List ℕ) (numbers : List Float) (letters' : List ℕ) (numbers' : List Float) : Type 0 where
  pub letter : letters' ≡ set letters letter_at (letter_of command)
  pub arguments : numbers' ≡ sets numbers at (arguments_of command)
