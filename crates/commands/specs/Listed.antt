-- Stored commands read back (document 01, "Permissive reading"). Commands count from 0. Definitions only.
-- "A list is malformed at the first unknown letter, missing number or other flag; left-over numbers make it malformed at the number of commands."
use Rattle.std.specs.Prelude.{ℕ, suc, ◌+◌, Bool, ◌&&◌, ◌||◌, cond, List, [], ◌∷◌, ltb, eqb, Option, Some, None, Float, length, get_or, drop}
use Rattle.std.specs.Float.{nan}
use Rattle.math.specs.declared.points.Point.{Point}
use Rattle.floats.specs.Floats.{bits_of}
use Rattle.commands.specs.Stored.{arguments_of}
use Rattle.commands.specs.declared.command.PathCommand.{PathCommand}
use Rattle.commands.specs.declared.command.PathCommand.TheVariants.{MoveTo, LineTo, QuadTo, CubicTo, ArcTo, ClosePath}

-- a command's number, counted from 0
abbrev pub number_at : List Float → ℕ → Float
number_at numbers i = get_or numbers i nan

abbrev pub point_at : List Float → ℕ → Point
point_at numbers i = record { x = number_at numbers i; y = number_at numbers (i + 1) }

-- "flags are +0 or 1 (-0 is another)": a number is judged by its bits
abbrev pub is_flag : ℕ → Bool
is_flag bits = eqb bits 0 || eqb bits 0x3f80_0000

abbrev pub is_set : ℕ → Bool
is_set bits = eqb bits 0x3f80_0000

-- an arc's numbers, in which two flags stand
unfoldable pub arc_of : List Float → Option PathCommand
arc_of numbers =
    let large = bits_of (number_at numbers 3) in
    let sweep = bits_of (number_at numbers 4) in
    cond (is_flag large && is_flag sweep) (Some (ArcTo (point_at numbers 0) (number_at numbers 2) (is_set large) (is_set sweep) (point_at numbers 5))) None

-- "missing number": what needs so many numbers is bad where there are fewer
abbrev pub enough : ℕ → List Float → Option PathCommand → Option PathCommand
enough count numbers decoded = cond (ltb (length numbers) count) None decoded

-- the command of a letter and of the numbers from its first on
unfoldable pub command_of : ℕ → List Float → Option PathCommand
command_of letter numbers =
    cond (eqb letter 77) (enough 2 numbers (Some (MoveTo (point_at numbers 0))))
    (cond (eqb letter 76) (enough 2 numbers (Some (LineTo (point_at numbers 0))))
    (cond (eqb letter 81) (enough 4 numbers (Some (QuadTo (point_at numbers 0) (point_at numbers 2))))
    (cond (eqb letter 67) (enough 6 numbers (Some (CubicTo (point_at numbers 0) (point_at numbers 2) (point_at numbers 4))))
    (cond (eqb letter 65) (enough 7 numbers (arc_of numbers))
    (cond (eqb letter 90) (Some ClosePath)
    None)))))

-- a stored list: its commands, or the number of the command at which it is malformed
pub data Listing : Type 0 where
  well_formed : List PathCommand → Listing
  malformed : ℕ → Listing

abbrev pub prepend : PathCommand → Listing → Listing
prepend command (well_formed commands) = well_formed (command ∷ commands)
prepend command (malformed k) = malformed k

-- what follows the command numbered k, where the rest is read from the numbers past its own
abbrev pub follow : ℕ → List Float → Option PathCommand → (List Float → Listing) → Listing
follow k numbers (Some command) rest = prepend command (rest (drop (length (arguments_of command)) numbers))
follow k numbers None rest = malformed k

-- the list whose first command is numbered k
unfoldable pub listed : ℕ → List ℕ → List Float → Listing
listed k [] [] = well_formed []
listed k [] (number ∷ numbers) = malformed k
listed k (letter ∷ letters) numbers = follow k numbers (command_of letter numbers) (listed (suc k) letters)
