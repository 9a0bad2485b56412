-- A stored list read from a command on: what a loop over it knows after a command, at a bad one and at the end. Assumes nothing.
use Prim.Native.Nat.{ℕ, suc, ◌+◌, ◌≤◌, ◌<◌}
use mathlib.Core.Path.{◌≡◌, refl, sym, ap, subst, ◌∙◌}
use mathlib.Core.Bool.{Bool, true, false, cond, ◌&&◌}
use mathlib.Core.List.{List, []}
use Rattle.std.specs.Prelude.{Option, Some, None}
use native.Mathlib.Omega.{arith}
use native.Mathlib.Numerals.{add-one}
use borrow.Author.Tests.{ltb-false, le-ltb}
use lib.Dec.{ltb, eqb}
use lib.Ieee.{Float, nan}
use lib.ListN.{length, get_or, drop, drop_of_length-le}
use lib.Seq.{drop-cons, drop-drop}
use Rattle.floats.specs.Floats.{bits_of}
use Rattle.commands.specs.Stored.{arguments_of}
use Rattle.commands.specs.Listed.{is_flag, number_at, arc_of, command_of, Listing, well_formed, malformed, prepend, follow, listed}
use Rattle.commands.specs.Checked.{judged, check_commands_of}
use Rattle.commands.specs.declared.command.PathCommand.{PathCommand}

-- ---- a command that is read back takes numbers that are there

cond-elim : (P : Option PathCommand → Type 0) (b : Bool) (x y : Option PathCommand) → (b ≡ true → P x) → (b ≡ false → P y) → P (cond b x y)
cond-elim P true x y f g = f refl
cond-elim P false x y f g = g refl

Takes : List Float → Option PathCommand → Type 0
Takes numbers (Some command) = length (arguments_of command) ≤ length numbers
Takes numbers None = Unit

module _ (numbers : List Float) where
  enough-takes : (count : ℕ) (decoded : Option PathCommand) → (count ≤ length numbers → Takes numbers decoded) → Takes numbers (cond (ltb (length numbers) count) None decoded)
  unfolding Takes
  enough-takes count decoded f = cond-elim (Takes numbers) (ltb (length numbers) count) None decoded (λ e. tt) (λ e. f (ltb-false (length numbers) count e))

  arc-takes : 7 ≤ length numbers → Takes numbers (arc_of numbers)
  unfolding Takes arc_of
  arc-takes h =
      cond-elim (Takes numbers) (is_flag (bits_of (number_at numbers 3)) && is_flag (bits_of (number_at numbers 4))) _ None (λ e. h) (λ e. tt)

  command-takes : (letter : ℕ) → Takes numbers (command_of letter numbers)
  unfolding Takes command_of
  command-takes letter =
      cond-elim (Takes numbers) (eqb letter 77) _ _ (λ e. enough-takes 2 _ (λ h. h))
      (λ e. cond-elim (Takes numbers) (eqb letter 76) _ _ (λ e. enough-takes 2 _ (λ h. h))
      (λ e. cond-elim (Takes numbers) (eqb letter 81) _ _ (λ e. enough-takes 4 _ (λ h. h))
      (λ e. cond-elim (Takes numbers) (eqb letter 67) _ _ (λ e. enough-takes 6 _ (λ h. h))
      (λ e. cond-elim (Takes numbers) (eqb letter 65) _ _ (λ e. enough-takes 7 _ arc-takes)
      (λ e. cond-elim (Takes numbers) (eqb letter 90) _ None (λ e. omega arith) (λ e. tt))))))

  pub command-fits : (letter : ℕ) (command : PathCommand) → command_of letter numbers ≡ Some command → length (arguments_of command) ≤ length numbers
  unfolding Takes
  command-fits letter command e = subst (Takes numbers) e (command-takes letter)

-- ---- one command further

-- the list from the letter at `letter_at` on, whose first number stands at `at`
unfoldable pub listed_from : List ℕ → List Float → ℕ → ℕ → Listing
listed_from letters numbers letter_at at = listed letter_at (drop letter_at letters) (drop at numbers)

module _ (letters : List ℕ) (numbers : List Float) (letter_at at : ℕ) (inside : letter_at < length letters) where
  split : listed_from letters numbers letter_at at ≡ follow letter_at (drop at numbers) (command_of (get_or letters letter_at 0) (drop at numbers)) (listed (suc letter_at) (drop (suc letter_at) letters))
  unfolding listed_from listed
  split = ap (λ (l : List ℕ). listed letter_at l (drop at numbers)) (drop-cons letters letter_at 0 inside)

  pub from_next :
      (command : PathCommand) → command_of (get_or letters letter_at 0) (drop at numbers) ≡ Some command
      → listed_from letters numbers letter_at at ≡ prepend command (listed_from letters numbers (letter_at + 1) (at + length (arguments_of command)))
  unfolding listed_from
  from_next command e =
      split
      ∙ ap (λ (d : Option PathCommand). follow letter_at (drop at numbers) d (listed (suc letter_at) (drop (suc letter_at) letters))) e
      ∙ ap (λ (l : List Float). prepend command (listed (suc letter_at) (drop (suc letter_at) letters) l)) (drop-drop (length (arguments_of command)) at numbers)
      ∙ ap (λ (k : ℕ). prepend command (listed k (drop k letters) (drop (at + length (arguments_of command)) numbers))) (sym (add-one letter_at))

  pub from-bad : command_of (get_or letters letter_at 0) (drop at numbers) ≡ None → listed_from letters numbers letter_at at ≡ malformed letter_at
  from-bad e = split ∙ ap (λ (d : Option PathCommand). follow letter_at (drop at numbers) d (listed (suc letter_at) (drop (suc letter_at) letters))) e

module _ (letters : List ℕ) (numbers : List Float) (letter_at at : ℕ) (past : length letters ≤ letter_at) where
  pub from-left-over : at < length numbers → listed_from letters numbers letter_at at ≡ malformed letter_at
  unfolding listed_from listed
  from-left-over h = ap (λ (l : List ℕ). listed letter_at l (drop at numbers)) (drop_of_length-le letters past) ∙ ap (listed letter_at []) (drop-cons numbers at nan h)

  pub from_end : length numbers ≤ at → listed_from letters numbers letter_at at ≡ well_formed []
  unfolding listed_from listed
  from_end h = ap (λ (l : List ℕ). listed letter_at l (drop at numbers)) (drop_of_length-le letters past) ∙ ap (listed letter_at []) (drop_of_length-le numbers h)

-- ---- what the check keeps

judged-prepend : (command : PathCommand) (listing : Listing) → judged (prepend command listing) ≡ judged listing
judged-prepend command (well_formed commands) = refl
judged-prepend command (malformed k) = refl

pub judged-next :
    (letters : List ℕ) (numbers : List Float) (letter_at at width : ℕ) (command : PathCommand)
    → letter_at < length letters → width ≡ length (arguments_of command)
    → command_of (get_or letters letter_at 0) (drop at numbers) ≡ Some command
    → judged (listed_from letters numbers (letter_at + 1) (at + width)) ≡ judged (listed_from letters numbers letter_at at)
judged-next letters numbers letter_at at width command inside w e =
    rw w (sym (ap judged (from_next letters numbers letter_at at inside command e) ∙ judged-prepend command (listed_from letters numbers (letter_at + 1) (at + length (arguments_of command)))))

pub check-few : (letters : List ℕ) (numbers : List Float) → length letters ≤ 65536 → check_commands_of letters numbers ≡ judged (listed 0 letters numbers)
unfolding check_commands_of
check-few letters numbers few = simp (le-ltb 65536 (length letters) few)
