-- The classes of bytes of a path text (document 01, "Permissive reading" and "Strict reading"). A class is the list of its bytes. Definitions only.
use Rattle.std.specs.Prelude.{ℕ, ◌<◌, ◌≡◌, Bool, false, ◌||◌, List, [], ◌∷◌, eqb}

-- whether a byte is of a class
unfoldable pub among : ℕ → List ℕ → Bool
among byte [] = false
among byte (x ∷ xs) = eqb byte x || among byte xs

-- the answers of a test decide a class: of each byte they say whether it is of the class
abbrev pub Decides : (ℕ → Bool → Type 0) → List ℕ → Type 0
Decides answers class = (byte : ℕ) (is : Bool) → byte < 256 → answers byte is → is ≡ among byte class

-- the digits 0 to 9
abbrev pub digits : List ℕ
digits = 48 ∷ 49 ∷ 50 ∷ 51 ∷ 52 ∷ 53 ∷ 54 ∷ 55 ∷ 56 ∷ 57 ∷ []

-- + and -
abbrev pub signs : List ℕ
signs = 43 ∷ 45 ∷ []

-- the point of a number
abbrev pub points : List ℕ
points = 46 ∷ []

-- E and e
abbrev pub exponent_marks : List ℕ
exponent_marks = 69 ∷ 101 ∷ []

abbrev pub commas : List ℕ
commas = 44 ∷ []

-- "white space is without FF": space, tab, CR, LF, in the order of the grammar's wsp
abbrev pub white_space : List ℕ
white_space = 32 ∷ 9 ∷ 13 ∷ 10 ∷ []

-- "Separators: comma, space, tab, LF, FF, CR"
abbrev pub separators : List ℕ
separators = 44 ∷ 32 ∷ 9 ∷ 10 ∷ 12 ∷ 13 ∷ []

-- "byte at a flag's place is not 0 or 1": those two digits
abbrev pub flags : List ℕ
flags = 48 ∷ 49 ∷ []

-- "a number must start (digit, + - .)"
abbrev pub number_starts : List ℕ
number_starts = 43 ∷ 45 ∷ 46 ∷ 48 ∷ 49 ∷ 50 ∷ 51 ∷ 52 ∷ 53 ∷ 54 ∷ 55 ∷ 56 ∷ 57 ∷ []
