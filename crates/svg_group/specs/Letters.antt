-- The letters of commands (document 01, "Permissive reading"). A letter is its byte. Definitions only.
use Rattle.std.specs.Prelude.{ℕ, Bool, ◌&&◌, ◌||◌, cond, [], ◌∷◌, leb}
use Rattle.scan.specs.Bytes.{among}
use Rattle.svg_group.specs.declared.letters.Kind.{Kind}
use Rattle.svg_group.specs.declared.letters.Kind.TheVariants.{Move, Line, Horizontal, Vertical, Cubic, SmoothCubic, Quad, SmoothQuad, Arc}
use Rattle.svg_group.specs.declared.letters.Letter.{Letter}
use Rattle.svg_group.specs.declared.letters.Letter.TheVariants.{Draws, Closes, Unknown}

-- A to Z and a to z
unfoldable pub is_letter_of : ℕ → Bool
is_letter_of byte = (leb 65 byte && leb byte 90) || (leb 97 byte && leb byte 122)

-- MLHVCSQTAZ in either case; a letter other than these has no meaning here
unfoldable pub meaning_of : ℕ → Letter
meaning_of letter =
    cond (among letter (77 ∷ 109 ∷ [])) (Draws Move)
    (cond (among letter (76 ∷ 108 ∷ [])) (Draws Line)
    (cond (among letter (72 ∷ 104 ∷ [])) (Draws Horizontal)
    (cond (among letter (86 ∷ 118 ∷ [])) (Draws Vertical)
    (cond (among letter (67 ∷ 99 ∷ [])) (Draws Cubic)
    (cond (among letter (83 ∷ 115 ∷ [])) (Draws SmoothCubic)
    (cond (among letter (81 ∷ 113 ∷ [])) (Draws Quad)
    (cond (among letter (84 ∷ 116 ∷ [])) (Draws SmoothQuad)
    (cond (among letter (65 ∷ 97 ∷ [])) (Draws Arc)
    (cond (among letter (90 ∷ 122 ∷ [])) Closes
    Unknown)))))))))

-- "2, 2, 4, 6, 7 or 0 numbers": those of the command that a group makes, where "H and V give LineTo" and S and
-- T are stored as a cubic and a quad
abbrev pub width_of : Kind → ℕ
width_of Move = 2
width_of Line = 2
width_of Horizontal = 2
width_of Vertical = 2
width_of Cubic = 6
width_of SmoothCubic = 6
width_of Quad = 4
width_of SmoothQuad = 4
width_of Arc = 7
