-- What is stored reads back to the same commands, and passes the check. Assumes nothing.
use Prim.Native.Nat.{ℕ, suc, ◌≤◌}
use mathlib.Core.Path.{◌≡◌, refl, sym, ap, ◌∙◌}
use mathlib.Core.Bool.{Bool, true, false}
use mathlib.Core.List.{List, [], ◌∷◌, ◌++◌}
use Rattle.std.specs.Prelude.{Option, Some}
use native.Mathlib.Omega.{arith}
use lib.Ieee.{Float, to_bits, of_bits}
use lib.ListN.{length}
use lib.Seq.{drop-append_seam}
use Rattle.answers.specs.Answers.{accepted}
use Rattle.floats.specs.Floats.{bits_of}
use Rattle.commands.specs.Stored.{letter_of, flag_of, arguments_of, letters_of, numbers_of}
use Rattle.commands.specs.Listed.{is_flag, is_set, command_of, well_formed, prepend, follow, listed}
use Rattle.commands.specs.Checked.{judged, check_commands_of}
use Rattle.commands.specs.declared.command.PathCommand.{PathCommand}
use Rattle.commands.specs.declared.command.PathCommand.TheVariants.{MoveTo, LineTo, QuadTo, CubicTo, ArcTo, ClosePath}
use Rattle.commands.proofs.Decoding.{is_move, is-line, is-quad, is-cubic, is-arc, is-close, arc-flagged}
use Rattle.commands.proofs.Listing.{check-few}

-- ---- one command

flag_is : (b : Bool) → is_flag (bits_of (flag_of b)) ≡ true
unfolding to_bits of_bits
flag_is true = refl
flag_is false = refl

set_is : (b : Bool) → b ≡ is_set (bits_of (flag_of b))
unfolding to_bits of_bits
set_is true = refl
set_is false = refl

command-back : (command : PathCommand) (rest : List Float) → command_of (letter_of command) (arguments_of command ++ rest) ≡ Some command
command-back (MoveTo end) rest = sym (is_move 77 (end.x ∷ end.y ∷ rest) end refl refl (omega arith))
command-back (LineTo end) rest = sym (is-line 76 (end.x ∷ end.y ∷ rest) end refl refl (omega arith))
command-back (QuadTo control end) rest = sym (is-quad 81 (control.x ∷ control.y ∷ end.x ∷ end.y ∷ rest) control end refl refl refl (omega arith))
command-back (CubicTo control1 control2 end) rest =
    sym (is-cubic 67 (control1.x ∷ control1.y ∷ control2.x ∷ control2.y ∷ end.x ∷ end.y ∷ rest) control1 control2 end refl refl refl refl (omega arith))
command-back (ArcTo radii rotation large sweep end) rest =
    let numbers = radii.x ∷ radii.y ∷ rotation ∷ flag_of large ∷ flag_of sweep ∷ end.x ∷ end.y ∷ rest in
    sym
    (arc-flagged numbers 0 refl refl (flag_is large) (flag_is sweep) refl (set_is large) (set_is sweep) refl
    ∙ is-arc 65 numbers refl (omega arith))
command-back ClosePath rest = sym (is-close 90 rest refl)

-- ---- a list

pub read_back : (k : ℕ) (commands : List PathCommand) → listed k (letters_of commands) (numbers_of commands) ≡ well_formed commands
unfolding listed letters_of numbers_of
read_back k [] = refl
read_back k (command ∷ commands) =
    ap (λ (d : Option PathCommand). follow k (arguments_of command ++ numbers_of commands) d (listed (suc k) (letters_of commands))) (command-back command (numbers_of commands))
    ∙ ap (λ (l : List Float). prepend command (listed (suc k) (letters_of commands) l)) (drop-append_seam (arguments_of command) (numbers_of commands))
    ∙ ap (prepend command) (read_back (suc k) commands)

pub length-letters : (commands : List PathCommand) → length (letters_of commands) ≡ length commands
unfolding letters_of
length-letters [] = refl
length-letters (command ∷ commands) = ap suc (length-letters commands)

pub stored-passes : (commands : List PathCommand) → length commands ≤ 65536 → check_commands_of (letters_of commands) (numbers_of commands) ≡ accepted []
stored-passes commands few =
    check-few (letters_of commands) (numbers_of commands) (omega (arith, length-letters commands)) ∙ ap judged (read_back 0 commands)
