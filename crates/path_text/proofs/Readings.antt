-- Document 01's "Readings to check" whole, as one statement: the nine answers, and that the list of `ZL1 2` builds no segment. Assumes nothing.
use Prim.Native.Nat.{ℕ}
use mathlib.Core.Path.{◌≡◌, refl}
use mathlib.Core.List.{List, [], ◌∷◌}
use lib.Ieee.{binary32, of_bits}
use Rattle.answers.specs.declared.refusals.Refusal.TheVariants.{UnexpectedEnd, ExpectedNumber, InvalidNumber, ExpectedFlag, MissingMoveTo}
use Rattle.math.specs.declared.points.Point.{Point}
use Rattle.commands.specs.declared.command.PathCommand.TheVariants.{MoveTo, LineTo, CubicTo, ClosePath}
use Rattle.svg.specs.Texts.{Outcome, commands, refusal}
use Rattle.svg.specs.Readings.{read_path_of}
use Rattle.svg.proofs.Readings.{readings}
use Rattle.path_drawing.specs.Drawing.{fresh_of, draw_of}
use Rattle.path_drawing.specs.Building.{path, build_from, build_of}

-- a point by the bits of its coordinates
abbrev point : ℕ → ℕ → Point
point x y = record { x = of_bits binary32 x; y = of_bits binary32 y }

-- a text into buffers with room for it
abbrev read : List ℕ → Outcome
read text = read_path_of text 8 16 8

pub readings-whole :
    -- the empty text
    (read [] ≡ commands [])
    -- `M`
    × (read (77 ∷ []) ≡ refusal (ExpectedNumber 1))
    -- `M1`
    × (read (77 ∷ 49 ∷ []) ≡ refusal (UnexpectedEnd 2))
    -- `M1e 2`
    × (read (77 ∷ 49 ∷ 101 ∷ 32 ∷ 50 ∷ []) ≡ refusal (InvalidNumber 2))
    -- `M1 2Z3 4`
    × (read (77 ∷ 49 ∷ 32 ∷ 50 ∷ 90 ∷ 51 ∷ 32 ∷ 52 ∷ []) ≡ refusal (MissingMoveTo 5))
    -- `m1 2 3 4`
    × (read (109 ∷ 49 ∷ 32 ∷ 50 ∷ 32 ∷ 51 ∷ 32 ∷ 52 ∷ []) ≡ commands (MoveTo (point 0x3f80_0000 0x4000_0000) ∷ LineTo (point 0x4080_0000 0x40c0_0000) ∷ []))
    -- `ZL1 2`
    × (read (90 ∷ 76 ∷ 49 ∷ 32 ∷ 50 ∷ []) ≡ commands (ClosePath ∷ LineTo (point 0x3f80_0000 0x4000_0000) ∷ []))
    -- `M0 0S1 2 3 4`
    × (read (77 ∷ 48 ∷ 32 ∷ 48 ∷ 83 ∷ 49 ∷ 32 ∷ 50 ∷ 32 ∷ 51 ∷ 32 ∷ 52 ∷ [])
    ≡ commands (MoveTo (point 0 0) ∷ CubicTo (point 0 0) (point 0x3f80_0000 0x4000_0000) (point 0x4040_0000 0x4080_0000) ∷ []))
    -- `M0 0A1 1 0 2 0 3 4`
    × (read (77 ∷ 48 ∷ 32 ∷ 48 ∷ 65 ∷ 49 ∷ 32 ∷ 49 ∷ 32 ∷ 48 ∷ 32 ∷ 50 ∷ 32 ∷ 48 ∷ 32 ∷ 51 ∷ 32 ∷ 52 ∷ []) ≡ refusal (ExpectedFlag 11))
    -- the list of `ZL1 2` builds no segment
    × (build_of (ClosePath ∷ LineTo (point 0x3f80_0000 0x4000_0000) ∷ []) ≡ path [])
unfolding build_of build_from draw_of fresh_of
readings-whole = let r = readings in (r.0, r.1, r.2, r.3, r.4, r.5, r.6, r.7, r.8, refl)
