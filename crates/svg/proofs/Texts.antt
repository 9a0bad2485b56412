-- A text read step by step: what follows a step, that the steps allowed are enough, and how many commands a text can have. Assumes nothing.
use Prim.Native.Nat.{ℕ, zero, suc, ◌+◌, ◌≤◌, ◌<◌}
use mathlib.Core.Path.{◌≡◌, refl, sym, ap}
use mathlib.Core.Logic.{◌⊎◌, inl, inr}
use mathlib.Core.List.{List, [], ◌∷◌}
use native.Mathlib.Omega.{arith}
use lib.ListN.{length}
use Rattle.std.specs.Prelude.{Some, None, Ok, Err}
use Rattle.answers.specs.declared.refusals.Refusal.{Refusal}
use Rattle.commands.specs.declared.command.PathCommand.{PathCommand}
use Rattle.svg_step.specs.Steps.{fresh_of, Step, read_step_of}
use Rattle.svg.specs.Texts.{Outcome, commands, refusal, prepend, follow, read_from, commands_of, offsets_from}
use Rattle.svg_step.specs.declared.steps.Reader.{Reader}
use Rattle.svg_step.specs.declared.steps.Stepped.{Stepped}
use Rattle.svg_step.proofs.Ahead.{step-ahead, step-within}

module _ (text : List ℕ) (reader : Reader) where
  -- the text ends
  pub from-done : (steps : ℕ) → read_step_of text reader ≡ Ok None → read_from steps text reader ≡ commands []
  unfolding read_from
  from-done zero e = refl
  from-done (suc steps) e = rw e

  pub offsets-done : (steps : ℕ) → read_step_of text reader ≡ Ok None → offsets_from steps text reader ≡ []
  unfolding offsets_from
  offsets-done zero e = refl
  offsets-done (suc steps) e = rw e

  -- enough steps are left to see a refusal
  pub from-refused : (steps : ℕ) (reason : Refusal) → length text < steps + reader.at → read_step_of text reader ≡ Err reason → read_from steps text reader ≡ refusal reason
  unfolding read_from
  from-refused zero reason h e = absurd (omega (arith, step-within text reader reason e))
  from-refused (suc steps) reason h e = rw e

  -- and to see what follows a command, and enough are left after it
  pub from-command :
      (steps : ℕ) (step : Stepped) → length text < steps + reader.at → read_step_of text reader ≡ Ok (Some step)
      → (left : ℕ)
      × (length text < left + step.next.at)
      × (read_from steps text reader ≡ prepend step.command (read_from left text step.next))
      × (offsets_from steps text reader ≡ step.next.offset ∷ offsets_from left text step.next)
  unfolding read_from offsets_from
  from-command zero step h e = let g = step-ahead text reader step e in absurd (omega arith)
  from-command (suc steps) step h e = let g = step-ahead text reader step e in (steps, omega arith, rw e, rw e)

-- ---- the steps are enough

same_after : (text : List ℕ) (reader : Reader) (m n : ℕ) (step : Step) → read_step_of text reader ≡ step
    → ((step : Stepped) → read_step_of text reader ≡ Ok (Some step) → read_from m text step.next ≡ read_from n text step.next)
    → follow (read_from m text) step ≡ follow (read_from n text) step
same_after text reader m n (Ok (Some step)) e f = ap (prepend step.command) (f step e)
same_after text reader m n (Ok None) e f = refl
same_after text reader m n (Err reason) e f = refl

-- any two numbers of steps that reach past the text give the same
pub steps-enough : (text : List ℕ) (m n : ℕ) (reader : Reader) → length text < m + reader.at → length text < n + reader.at → read_from m text reader ≡ read_from n text reader
unfolding read_from
steps-enough text zero zero reader h k = refl
steps-enough text zero (suc n) reader h k = sym (ended (read_step_of text reader) refl)
  where
    ended : (step : Step) → read_step_of text reader ≡ step → follow (read_from n text) step ≡ commands []
    ended (Ok (Some step)) e = absurd (omega (arith, step-ahead text reader step e))
    ended (Ok None) e = refl
    ended (Err reason) e = absurd (omega (arith, step-within text reader reason e))
steps-enough text (suc m) zero reader h k = ended (read_step_of text reader) refl
  where
    ended : (step : Step) → read_step_of text reader ≡ step → follow (read_from m text) step ≡ commands []
    ended (Ok (Some step)) e = absurd (omega (arith, step-ahead text reader step e))
    ended (Ok None) e = refl
    ended (Err reason) e = absurd (omega (arith, step-within text reader reason e))
steps-enough text (suc m) (suc n) reader h k =
    same_after text reader m n (read_step_of text reader) refl
    (λ step e. steps-enough text m n step.next (omega (arith, step-ahead text reader step e)) (omega (arith, step-ahead text reader step e)))

-- ---- a text has no more commands than bytes

module _ (text : List ℕ) where
  few-after :
      (reader : Reader) (step : Stepped) (outcome : Outcome) (list : List PathCommand)
      → read_step_of text reader ≡ Ok (Some step)
      → ((rest : List PathCommand) → outcome ≡ commands rest → (rest ≡ []) ⊎ (length rest + step.next.at ≤ length text))
      → prepend step.command outcome ≡ commands list
      → (list ≡ []) ⊎ (length list + reader.at ≤ length text)
  few-after reader step (refusal reason) list e f q = let z : ◌≡◌ {A = ℕ} 0 1 = cc in absurd (omega arith)
  few-after reader step (commands rest) list e f q = inr (bound (f rest refl))
    where
      bound : (rest ≡ []) ⊎ (length rest + step.next.at ≤ length text) → length list + reader.at ≤ length text
      bound (inl n) =
          let l : step.command ∷ rest ≡ list = cc in
          omega (arith, ap length n, ap length l, step-ahead text reader step e)
      bound (inr n) =
          let l : step.command ∷ rest ≡ list = cc in
          omega (arith, ap length l, step-ahead text reader step e)

  few-from : (steps : ℕ) (reader : Reader) (list : List PathCommand) → read_from steps text reader ≡ commands list → (list ≡ []) ⊎ (length list + reader.at ≤ length text)
  unfolding read_from
  few-from zero reader list q = inl (let e : list ≡ [] = cc in e)
  few-from (suc steps) reader list q = by-step (few-from steps) (read_step_of text reader) refl q
    where
      by-step :
          ((next : Reader) (rest : List PathCommand) → read_from steps text next ≡ commands rest → (rest ≡ []) ⊎ (length rest + next.at ≤ length text))
          → (step : Step) → read_step_of text reader ≡ step → follow (read_from steps text) step ≡ commands list
          → (list ≡ []) ⊎ (length list + reader.at ≤ length text)
      by-step few (Ok (Some step)) e q = few-after reader step (read_from steps text step.next) list e (few step.next) q
      by-step few (Ok None) e q = inl (let n : list ≡ [] = cc in n)
      by-step few (Err reason) e q = let z : ◌≡◌ {A = ℕ} 0 1 = cc in absurd (omega arith)

  pub commands-few : (list : List PathCommand) → commands_of text ≡ commands list → length list ≤ length text
  unfolding commands_of
  commands-few list q = within (few-from (suc (length text)) fresh_of list q)
    where
      within : (list ≡ []) ⊎ (length list + 0 ≤ length text) → length list ≤ length text
      within (inl n) = omega (arith, ap length n)
      within (inr n) = omega arith
