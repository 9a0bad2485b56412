-- A step of the reader, and with it a whole text, refuses with 4 only at an exponent without a digit: what is due before a group refuses with other
-- numbers. Assumes nothing.
use Prim.Native.Nat.{ℕ, zero, suc, ◌+◌}
use mathlib.Core.Path.{◌≡◌, refl, subst}
use mathlib.Core.Bool.{Bool, true, false, cond}
use mathlib.Core.List.{List}
use native.Mathlib.Omega.{arith}
use lib.Dec.{ltb}
use lib.ListN.{length, get_or}
use Rattle.std.specs.Prelude.{Option, Some, None, Result, Ok, Err}
use Rattle.answers.specs.declared.refusals.Refusal.{Refusal}
use Rattle.answers.specs.declared.refusals.Refusal.TheVariants.{ExpectedNumber, UnsupportedCommand, MissingMoveTo, InvalidNumber}
use Rattle.scan.specs.Bytes.{among, number_starts}
use Rattle.scan.specs.Runs.{past_separators_of}
use Rattle.math.specs.declared.points.Point.{Point}
use Rattle.commands.specs.declared.command.PathCommand.{PathCommand}
use Rattle.svg_group.specs.Numbers.{and_then}
use Rattle.svg_group.specs.Letters.{is_letter_of, meaning_of}
use Rattle.svg_group.specs.Groups.{read_group_of}
use Rattle.svg_group.specs.declared.letters.Kind.{Kind}
use Rattle.svg_group.specs.declared.letters.Letter.{Letter}
use Rattle.svg_group.specs.declared.letters.Letter.TheVariants.{Draws, Closes, Unknown}
use Rattle.svg_group.specs.declared.groups.Group.{Group}
use Rattle.svg_step.specs.Steps.{fresh_of, is_relative_of, needs_point_of, repeated_of, first_control_of, due_group_of, begun, due_letter_of, again, due_again_of, due_at_of, next_due_of, offset_of, taken, Step, stepped, read_step_of}
use Rattle.svg.specs.Texts.{Outcome, commands, refusal, prepend, follow, read_from, commands_of}
use Rattle.svg_step.specs.declared.steps.Reader.{Reader}
use Rattle.svg_step.specs.declared.steps.Due.{Due}
use Rattle.svg_step.specs.declared.steps.Due.TheVariants.{Done, Close, Group as GroupDue}
use Rattle.invalid_number.specs.Cause.{Bare, Caused}
use Rattle.invalid_number.proofs.Groups.{ReadCaused, GroupCaused, group-caused}

cond_either : {A : Type 0} (P : A → Type 0) (b : Bool) (x y : A) → P x → P y → P (cond b x y)
cond_either P true x y f g = f
cond_either P false x y f g = g

module _ (text : List ℕ) where
  -- ---- what is due

  abbrev DueCaused : Result Due Refusal → Type 0
  DueCaused due = ReadCaused text due

  no_number : (n : ℕ) → Caused text (ExpectedNumber n)
  no_number n k e = let z : ◌≡◌ {A = ℕ} 0 1 = cc in absurd (omega arith)

  no-point : (n : ℕ) → Caused text (MissingMoveTo n)
  no-point n k e = let z : ◌≡◌ {A = ℕ} 0 1 = cc in absurd (omega arith)

  no-meaning : (l n : ℕ) → Caused text (UnsupportedCommand l n)
  no-meaning l n k e = let z : ◌≡◌ {A = ℕ} 0 1 = cc in absurd (omega arith)

  group-due : (at : ℕ) (kind : Kind) (letter : ℕ) → DueCaused (due_group_of text at kind letter)
  unfolding due_group_of
  group-due at kind letter = cond_either DueCaused (among (get_or text (past_separators_of text at) 0) number_starts) _ _ tt (no_number at)

  letter-due : (at letter : ℕ) (placed : Bool) (meaning : Letter) → DueCaused (begun text at letter placed meaning)
  letter-due at letter placed (Draws kind) =
      let t = group-due (at + 1) kind letter in
      cond_either DueCaused (needs_point_of kind) _ _ (cond_either DueCaused placed _ _ t (no-point (at + 1))) t
  letter-due at letter placed Closes = tt
  letter-due at letter placed Unknown = no-meaning letter at

  again-due : (at letter : ℕ) (meaning : Letter) → DueCaused (again text at letter meaning)
  again-due at letter (Draws kind) = group-due at (repeated_of kind) letter
  again-due at letter Closes = no-point at
  again-due at letter Unknown = no-point at

  next-due : (from letter : ℕ) (placed : Bool) → DueCaused (next_due_of text from letter placed)
  unfolding next_due_of due_at_of due_letter_of due_again_of
  next-due from letter placed =
      let at = past_separators_of text from in
      let byte = get_or text at 0 in
      cond_either DueCaused (ltb at (length text)) _ (Ok Done)
      (cond_either DueCaused (is_letter_of byte) _ _ (letter-due at byte placed (meaning_of byte)) (again-due at letter (meaning_of letter)))
      tt

  -- ---- the step

  abbrev StepCaused : Step → Type 0
  StepCaused step = ReadCaused text step

  taken-caused : (letter offset : ℕ) (start : Point) (group : Result Group Refusal) → GroupCaused text group → StepCaused (and_then group (λ group. Ok (Some (taken letter offset start group))))
  taken-caused letter offset start (Ok group) h = tt
  taken-caused letter offset start (Err x) h = h

  stepped-caused : (reader : Reader) (offset : ℕ) (due : Result Due Refusal) → DueCaused due → StepCaused (and_then due (stepped text reader offset))
  stepped-caused reader offset (Ok Done) h = tt
  stepped-caused reader offset (Err x) h = h
  stepped-caused reader offset (Ok (Close next)) h = tt
  stepped-caused reader offset (Ok (GroupDue kind letter first)) h =
      let relative = is_relative_of letter reader.placed in
      let control = first_control_of kind reader.letter reader.current reader.control in
      taken-caused letter offset reader.start (read_group_of text first kind relative reader.current control)
      (group-caused text kind first relative reader.current control)

  pub step-caused : (reader : Reader) → StepCaused (read_step_of text reader)
  unfolding read_step_of
  step-caused reader = stepped-caused reader (offset_of text reader) (next_due_of text reader.at reader.letter reader.placed) (next-due reader.at reader.letter reader.placed)

  -- ---- the text

  abbrev pub OutcomeCaused : Outcome → Type 0
  OutcomeCaused (commands list) = Unit
  OutcomeCaused (refusal x) = Caused text x

  prepended : (command : PathCommand) (rest : Outcome) → OutcomeCaused rest → OutcomeCaused (prepend command rest)
  prepended command (commands list) h = tt
  prepended command (refusal x) h = h

  followed : (rest : Reader → Outcome) → ((reader : Reader) → OutcomeCaused (rest reader)) → (step : Step) → StepCaused step → OutcomeCaused (follow rest step)
  followed rest h (Ok (Some step)) g = prepended step.command (rest step.next) (h step.next)
  followed rest h (Ok None) g = tt
  followed rest h (Err x) g = g

  read-caused : (steps : ℕ) (reader : Reader) → OutcomeCaused (read_from steps text reader)
  unfolding read_from
  read-caused zero reader = tt
  read-caused (suc steps) reader = followed (read_from steps text) (read-caused steps) (read_step_of text reader) (step-caused reader)

  pub text-caused : OutcomeCaused (commands_of text)
  unfolding commands_of
  text-caused = read-caused (suc (length text)) fresh_of

  -- where a text's first refusal is 4, it is at the e of an exponent without a digit
  pub text-bare : (k : ℕ) → commands_of text ≡ refusal (InvalidNumber k) → Bare text k
  text-bare k e = subst OutcomeCaused e text-caused k refl
