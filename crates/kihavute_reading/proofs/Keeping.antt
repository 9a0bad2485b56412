-- What a C caller of the reader receives are the text's commands, each made by its letter, with the offset of that letter. Assumes nothing.
use Prim.Native.Nat.{ℕ}
use mathlib.Core.Path.{◌≡◌, refl, sym, ap, subst, ◌∙◌}
use mathlib.Core.Bool.{Bool, true, false, ◌||◌, cond}
use mathlib.Core.List.{List}
use native.Mathlib.Omega.{arith}
use lib.Dec.{ltb}
use lib.ListN.{length, get_or, take, drop}
use lib.Seq.{take_at}
use Rattle.answers.specs.declared.refusals.Refusal.{Refusal}
use Rattle.answers.specs.declared.refusals.Refusal.TheVariants.{TooLong, NoRoom}
use Rattle.answers.specs.declared.refusals.Values.TheVariants.{Three}
use Rattle.answers.specs.Report.{written}
use Rattle.commands.specs.declared.command.PathCommand.{PathCommand}
use Rattle.commands.specs.Stored.{letters_of, numbers_of}
use Rattle.svg.specs.Lists.{CommandList, written_over}
use Rattle.svg.specs.Texts.{Outcome, commands, refusal, commands_of, offsets_of}
use Rattle.svg.specs.Readings.{ReadPath, answer_of, answered, stored_of, roomed, read_path_of, read_into}
use Rattle.svg.specs.Smooth.{entries_of}
use Rattle.svg.specs.Told.{Told, starts_of, OwnLetters}
use Rattle.std.specs.Prelude.{Result}
use Rattle.svg.specs.declared.passes.Counts.{Counts}
use Rattle.svg.proofs.Smooth.{smooth-read}
use Rattle.svg.proofs.Told.{offsets-told, offsets-own}
use Rattle.svg_made.proofs.Made.{reads}
use Rattle.c_answer.specs.Given.{Given}
use Rattle.c_answer.proofs.Giving.{given-same, given-whole, given-accepted}
use Rattle.kihavute_reading.specs.Reading.{CommandsKept, KeptBy}

-- the counted places of a buffer are what was written
counted : {A : Type 0} {after : List A} {count : ℕ} (elements before : List A) → after ≡ written elements before → count ≡ length elements → take count after ≡ elements
counted {count = count} elements before e n = ap (take count) e ∙ take_at elements (drop (length elements) before) count (sym n)

-- what is read into buffers is what the text reads as
module _ (text : List ℕ) (list : List PathCommand) where
  not-commands : {reason : Refusal} → refusal reason ≡ commands list → ⊥
  not-commands e = let z : ◌≡◌ {A = ℕ} 0 1 = cc in omega arith

  text-reads : (before : CommandList) → read_into text before ≡ commands list → commands_of text ≡ commands list
  unfolding read_path_of
  text-reads before = short (ltb 65536 (length text)) (commands_of text)
    where
      room : (b : Bool) (more : List PathCommand) (reason : Refusal) → cond b (refusal reason) (commands more) ≡ commands list → commands more ≡ commands list
      room true more reason e = absurd (not-commands e)
      room false more reason e = e

      short : (b : Bool) (o : Outcome)
          → cond b (refusal (TooLong (length text))) (roomed (length before.letters) (length before.numbers) (length before.offsets) (offsets_of text) o) ≡ commands list
          → o ≡ commands list
      short true o e = absurd (not-commands e)
      short false (refusal reason) e = absurd (not-commands e)
      short false (commands more) e =
          room (ltb (length before.letters) (length (letters_of more)) || (ltb (length before.numbers) (length (numbers_of more)) || ltb (length before.offsets) (length (offsets_of text))))
          more (NoRoom (Three (length (letters_of more)) (length (numbers_of more)) (length (offsets_of text)))) e

module _ {answer answer' : List ℕ} {returned : ℕ} where
  pub read_kept : (text : List ℕ) (before after : CommandList) (reading : Result Counts Refusal)
      → ReadPath text before reading after → Given (answer_of reading) answer returned answer' → KeptBy text returned after answer'
  read_kept text before after reading p g zero = go (read_into text before) refl (given-same _ _ p.answer g) p.memory
    where
      go : (o : Outcome) → read_into text before ≡ o → Given (answered text o) answer returned answer' → after ≡ written_over (stored_of text o) before → CommandsKept text after answer'
      go (refusal reason) e g m = absurd (given-accepted reason g zero)
      go (commands list) e g m =
          let counts = (given-whole (answered text (commands list)) g zero).1 in
          let s = smooth-read text list (text-reads text list before e) in
          let marks : take (get_or answer' 2 0) after.offsets ≡ offsets_of text =
          counted (offsets_of text) before.offsets (ap (λ (l : CommandList). l.offsets) m) (ap (λ (l : List ℕ). get_or l 2 0) counts) in
          record {
            letters =
                counted (letters_of list) before.letters (ap (λ (l : CommandList). l.letters) m) (ap (λ (l : List ℕ). get_or l 0 0) counts) ∙ ap letters_of (sym s.0);
            numbers =
                counted (numbers_of list) before.numbers (ap (λ (l : CommandList). l.numbers) m) (ap (λ (l : List ℕ). get_or l 1 0) counts) ∙ ap numbers_of (sym s.0);
            made = reads text list (text-reads text list before e);
            smooth = s.1;
            told = subst (λ (l : List ℕ). Told text 0 l (entries_of text)) (sym marks) (offsets-told text);
            own = subst (λ (l : List ℕ). OwnLetters text 0 l (starts_of text)) (sym marks) (offsets-own text);
          }
