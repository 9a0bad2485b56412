-- The letters' meanings, one by one: each of MLHVCSQTAZ in either case, as document 01 lists them. Assumes nothing.
use mathlib.Core.Path.{◌≡◌, refl}
use Rattle.scan.specs.Bytes.{among}
use Rattle.svg_group.specs.Letters.{meaning_of}
use Rattle.svg_group.specs.declared.letters.Kind.TheVariants.{Move, Line, Horizontal, Vertical, Cubic, SmoothCubic, Quad, SmoothQuad, Arc}
use Rattle.svg_group.specs.declared.letters.Letter.TheVariants.{Draws, Closes}

pub upper-case :
    (meaning_of 77 ≡ Draws Move) × (meaning_of 76 ≡ Draws Line) × (meaning_of 72 ≡ Draws Horizontal) × (meaning_of 86 ≡ Draws Vertical) × (meaning_of 67 ≡ Draws Cubic)
    × (meaning_of 83 ≡ Draws SmoothCubic) × (meaning_of 81 ≡ Draws Quad) × (meaning_of 84 ≡ Draws SmoothQuad) × (meaning_of 65 ≡ Draws Arc) × (meaning_of 90 ≡ Closes)
unfolding meaning_of among
upper-case = (refl, refl, refl, refl, refl, refl, refl, refl, refl, refl)

pub lower-case :
    (meaning_of 109 ≡ Draws Move) × (meaning_of 108 ≡ Draws Line) × (meaning_of 104 ≡ Draws Horizontal) × (meaning_of 118 ≡ Draws Vertical) × (meaning_of 99 ≡ Draws Cubic)
    × (meaning_of 115 ≡ Draws SmoothCubic) × (meaning_of 113 ≡ Draws Quad) × (meaning_of 116 ≡ Draws SmoothQuad) × (meaning_of 97 ≡ Draws Arc) × (meaning_of 122 ≡ Closes)
unfolding meaning_of among
lower-case = (refl, refl, refl, refl, refl, refl, refl, refl, refl, refl)
