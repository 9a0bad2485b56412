-- Of any text, each offset is that of the letter which made its command: the byte there is that letter, and offsets never fall. Assumes nothing.
use Prim.Native.Nat.{ℕ, zero, suc, ◌≤◌}
use mathlib.Core.Path.{◌≡◌, refl, ap, ◌∙◌}
use mathlib.Core.Bool.{Bool, true, false, cond}
use mathlib.Core.List.{List}
use mathlib.Core.Logic.{◌⊎◌, inl, inr}
use native.Mathlib.Omega.{arith}
use lib.Dec.{ltb}
use lib.ListN.{length, get_or}
use Rattle.std.specs.Prelude.{Some, None, Ok, Err}
use Rattle.answers.specs.declared.refusals.Refusal.{Refusal}
use Rattle.answers.specs.declared.refusals.Refusal.TheVariants.{MissingMoveTo}
use Rattle.scan.specs.Bytes.{among}
use Rattle.scan.specs.Runs.{past_separators_of}
use Rattle.svg_group.specs.Numbers.{and_then}
use Rattle.svg_group.specs.Letters.{is_letter_of, meaning_of}
use Rattle.svg_group.specs.declared.letters.Letter.TheVariants.{Unknown}
use Rattle.svg_step.specs.Steps.{fresh_of, due_again_of, due_at_of, next_due_of, offset_at, offset_of, Step, stepped, read_step_of}
use Rattle.svg_step.specs.declared.steps.Reader.{Reader}
use Rattle.svg_step.specs.declared.steps.Due.TheVariants.{Done}
use Rattle.svg_step.specs.declared.steps.Stepped.{Stepped}
use Rattle.svg_step.proofs.Offsets.{step-offset, offset-lies}
use Rattle.svg.specs.Texts.{marked, offsets_from, offsets_of}
use Rattle.svg.specs.Smooth.{made_by, entered, entries_beginning, entries_of}
use Rattle.svg.specs.Told.{Told, started, starts_from, starts_of, OwnLetters}

module _ (text : List ℕ) where
  -- the byte at an offset is a letter
  abbrev Is : ℕ → ℕ → Type 0
  Is offset letter = (get_or text offset 0 ≡ letter) × (is_letter_of letter ≡ true)

  -- what the state tells of the letter that made the command before it, unless there is none to repeat
  Stands : Reader → ℕ → Type 0
  Stands reader last = Is reader.offset last ⊎ (meaning_of reader.letter ≡ Unknown)

  -- ---- the step

  module _ (reader : Reader) (step : Stepped) (e : read_step_of text reader ≡ Ok (Some step)) where
    idle : (b : Bool) (offset : ℕ) (reason : Refusal) → and_then (cond b (Err reason) (Ok Done)) (stepped text reader offset) ≡ Ok (Some step) → ⊥
    idle true offset reason f = let z : ◌≡◌ {A = ℕ} 0 1 = cc in omega arith
    idle false offset reason f = let z : ◌≡◌ {A = ℕ} 0 1 = cc in omega arith

    -- with nothing to repeat a command needs a letter
    forgotten : is_letter_of (get_or text (past_separators_of text reader.at) 0) ≡ false → meaning_of reader.letter ≡ Unknown → ⊥
    unfolding read_step_of next_due_of due_at_of due_again_of
    forgotten f u =
        let at = past_separators_of text reader.at in
        idle (ltb at (length text)) (offset_of text reader) (MissingMoveTo at) (rw (f, u) at e)

    either : (b : Bool) (at last offset : ℕ) → is_letter_of (get_or text at 0) ≡ b → (b ≡ false → Is offset last) → Is (cond b at offset) (cond b (get_or text at 0) last)
    either true at last offset f g = (refl, f)
    either false at last offset f g = g refl

    step-told : (last : ℕ) → Stands reader last → Is step.next.offset (made_by text reader.at last)
    unfolding Stands offset_at
    step-told last s =
        let at = past_separators_of text reader.at in
        rw (step-offset text reader step e) (either (is_letter_of (get_or text at 0)) at last reader.offset refl (repeats s))
      where
        repeats : Stands reader last → is_letter_of (get_or text (past_separators_of text reader.at) 0) ≡ false → Is reader.offset last
        repeats (inl h) f = h
        repeats (inr u) f = absurd (forgotten f u)

  -- ---- the text

  told-from : (steps : ℕ) (reader : Reader) (last : ℕ) → reader.offset ≤ reader.at → Stands reader last → Told text reader.offset (offsets_from steps text reader) (entries_beginning steps text last reader)
  unfolding offsets_from entries_beginning Stands
  told-from zero reader last kept s = tt
  told-from (suc steps) reader last kept s = by-step (told-from steps) (read_step_of text reader) refl
    where
      by-step :
          ((next : Reader) (letter : ℕ) → next.offset ≤ next.at → Stands next letter → Told text next.offset (offsets_from steps text next) (entries_beginning steps text letter next))
          → (step : Step) → read_step_of text reader ≡ step
          → Told text reader.offset (marked (offsets_from steps text) step) (entered (entries_beginning steps text) (made_by text reader.at last) step)
      by-step rest (Ok (Some step)) e =
          let o = offset-lies text reader step e kept in
          let t = step-told reader step e last s in
          (o.0, o.1, t.0, t.1, rest step.next (made_by text reader.at last) (omega (arith, o.2)) (inl t))
      by-step rest (Ok None) e = tt
      by-step rest (Err reason) e = tt

  pub offsets-told : Told text 0 (offsets_of text) (entries_of text)
  unfolding offsets_of entries_of Stands meaning_of among
  offsets-told = told-from (suc (length text)) fresh_of 0 (omega arith) (inr refl)

  -- ---- the very letter

  own-from : (steps : ℕ) (reader : Reader) → OwnLetters text reader.offset (offsets_from steps text reader) (starts_from steps text reader)
  unfolding offsets_from starts_from offset_at
  own-from zero reader = tt
  own-from (suc steps) reader = by-step (own-from steps) (read_step_of text reader) refl
    where
      at : ℕ
      at = past_separators_of text reader.at

      by-step : ((next : Reader) → OwnLetters text next.offset (offsets_from steps text next) (starts_from steps text next))
          → (step : Step) → read_step_of text reader ≡ step
          → OwnLetters text reader.offset (marked (offsets_from steps text) step) (started (past_separators_of text reader.at) (starts_from steps text) step)
      by-step rest (Ok (Some step)) e =
          let o = step-offset text reader step e in
          (λ h. o ∙ ap (λ b. cond b (past_separators_of text reader.at) reader.offset) h, λ h. o ∙ ap (λ b. cond b (past_separators_of text reader.at) reader.offset) h, rest step.next)
      by-step rest (Ok None) e = tt
      by-step rest (Err reason) e = tt

  pub offsets-own : OwnLetters text 0 (offsets_of text) (starts_of text)
  unfolding offsets_of starts_of
  offsets-own = own-from (suc (length text)) fresh_of
