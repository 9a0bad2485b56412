-- What a pass over a text knows between two commands, and what a step does to that. Assumes nothing.
use Prim.Native.Nat.{ℕ, suc, ◌+◌, ◌*◌, ◌≤◌, ◌<◌}
use mathlib.Core.Path.{◌≡◌, refl, sym, ap, ◌∙◌}
use mathlib.Core.List.{List, [], ◌∷◌, ◌++◌, append_assoc, append-nil}
use native.Mathlib.Omega.{arith}
use lib.ListN.{length, length-append}
use Rattle.std.specs.Prelude.{Some, None, Ok, Err}
use Rattle.answers.specs.declared.refusals.Refusal.{Refusal}
use Rattle.commands.specs.Stored.{letter_of, arguments_of, letters_of, numbers_of}
use Rattle.commands.specs.declared.command.PathCommand.{PathCommand}
use Rattle.commands.specs.declared.command.PathCommand.TheVariants.{MoveTo, LineTo, QuadTo, CubicTo, ArcTo, ClosePath}
use Rattle.svg_step.specs.Steps.{fresh_of, read_step_of}
use Rattle.svg.specs.Texts.{Outcome, commands, refusal, prepend, read_from, commands_of, offsets_from, offsets_of, counts_at, measure_of, Room}
pub use Rattle.svg.specs.Texts.{onto, Known, Counting}
use Rattle.svg_step.specs.declared.steps.Reader.{Reader}
use Rattle.svg_step.specs.declared.steps.Stepped.{Stepped}
use Rattle.svg_step.proofs.Ahead.{step-ahead}
use Rattle.svg_step.proofs.Offsets.{offset-lies}
use Rattle.svg.proofs.Texts.{from-done, offsets-done, from-refused, from-command}

-- ---- lists of commands

pub letters-append : (a b : List PathCommand) → letters_of (a ++ b) ≡ letters_of a ++ letters_of b
unfolding letters_of
letters-append [] b = refl
letters-append (x ∷ a) b = ap (λ l. letter_of x ∷ l) (letters-append a b)

pub numbers-append : (a b : List PathCommand) → numbers_of (a ++ b) ≡ numbers_of a ++ numbers_of b
unfolding numbers_of
numbers-append [] b = refl
numbers-append (x ∷ a) b = ap (λ l. arguments_of x ++ l) (numbers-append a b) ∙ sym (append_assoc (arguments_of x) (numbers_of a) (numbers_of b))

module _ (done : List PathCommand) (command : PathCommand) where
  pub letters-more : letters_of (done ++ (command ∷ [])) ≡ letters_of done ++ (letter_of command ∷ [])
  unfolding letters_of
  letters-more = letters-append done (command ∷ [])

  pub numbers_more : numbers_of (done ++ (command ∷ [])) ≡ numbers_of done ++ arguments_of command
  unfolding numbers_of
  numbers_more = numbers-append done (command ∷ []) ∙ ap (λ l. numbers_of done ++ l) (append-nil (arguments_of command))

pub few-arguments : (command : PathCommand) → length (arguments_of command) ≤ 7
few-arguments (MoveTo end) = omega arith
few-arguments (LineTo end) = omega arith
few-arguments (QuadTo control end) = omega arith
few-arguments (CubicTo control1 control2 end) = omega arith
few-arguments (ArcTo radii rotation large sweep end) = omega arith
few-arguments ClosePath = omega arith

-- ---- the outcome of a text whose first commands are known

pub onto-prepend : (done : List PathCommand) (command : PathCommand) (outcome : Outcome) → onto done (prepend command outcome) ≡ onto (done ++ (command ∷ [])) outcome
onto-prepend done command (commands rest) = ap commands (sym (append_assoc done (command ∷ []) rest))
onto-prepend done command (refusal reason) = refl

pub onto-nothing : (outcome : Outcome) → outcome ≡ onto [] outcome
onto-nothing (commands rest) = refl
onto-nothing (refusal reason) = refl

unfoldable pub known-none : (text : List ℕ) → Known text fresh_of []
unfolding commands_of offsets_of letters_of
known-none text =
    record {
      steps = suc (length text);
      enough = omega arith;
      whole = onto-nothing (read_from (suc (length text)) text fresh_of);
      marks = [];
      offsets = refl;
      many = refl;
      kept = omega arith;
    }

module _ (text : List ℕ) (reader : Reader) (done : List PathCommand) (k : Known text reader done) where
  pub known-all : read_step_of text reader ≡ Ok None → commands_of text ≡ commands done
  known-all e = k.whole ∙ ap (onto done) (from-done text reader k.steps e) ∙ ap commands (append-nil done)

  pub known-offsets : read_step_of text reader ≡ Ok None → offsets_of text ≡ k.marks
  known-offsets e = k.offsets ∙ ap (λ l. k.marks ++ l) (offsets-done text reader k.steps e) ∙ append-nil k.marks

  -- those known are among the text's
  pub known_many : length k.marks ≤ length (offsets_of text)
  known_many = omega (arith, ap length k.offsets ∙ length-append k.marks (offsets_from k.steps text reader))

  pub known-refused : (reason : Refusal) → read_step_of text reader ≡ Err reason → commands_of text ≡ refusal reason
  known-refused reason e = k.whole ∙ ap (onto done) (from-refused text reader k.steps reason k.enough e)

  module _ (step : Stepped) (e : read_step_of text reader ≡ Ok (Some step)) where
    unfoldable pub known_more : Known text step.next (done ++ (step.command ∷ []))
    known_more =
        let m = from-command text reader k.steps step k.enough e in
        let o = offset-lies text reader step e k.kept in
        record {
          steps = m.0;
          enough = m.1;
          whole = k.whole ∙ ap (onto done) m.2 ∙ onto-prepend done step.command (read_from m.0 text step.next);
          marks = k.marks ++ (step.next.offset ∷ []);
          offsets = k.offsets ∙ ap (λ l. k.marks ++ l) m.3 ∙ sym (append_assoc k.marks (step.next.offset ∷ []) (offsets_from m.0 text step.next));
          many =
              length-append k.marks (step.next.offset ∷ [])
              ∙ ap (λ n. n + 1) k.many
              ∙ sym (ap length (letters-more done step.command) ∙ length-append (letters_of done) (letter_of step.command ∷ []));
          kept = omega (arith, o.2);
        }

    -- the offset of its letter
    pub known-offset : step.next.offset < length text
    known-offset = (offset-lies text reader step e k.kept).1

-- ---- the first pass

pub counting-none : (text : List ℕ) → Counting text fresh_of 0 0
unfolding letters_of numbers_of
counting-none text = record { done = []; known = known-none text; letters = refl; numbers = refl; letter-le = omega arith; at-le = omega arith }

module _ (text : List ℕ) (reader : Reader) (letter_at at : ℕ) (k : Counting text reader letter_at at) where
  pub counted : read_step_of text reader ≡ Ok None → Ok (counts_at letter_at at) ≡ measure_of (commands_of text)
  unfolding measure_of
  counted e =
      rw (known-all text reader k.done k.known e)
      (ap (λ n. Ok (counts_at n at)) k.letters ∙ ap (λ n. Ok (counts_at (length (letters_of k.done)) n)) k.numbers)

  pub uncounted : (reason : Refusal) → read_step_of text reader ≡ Err reason → Err reason ≡ measure_of (commands_of text)
  unfolding measure_of
  uncounted reason e = rw (known-refused text reader k.done k.known reason e)

  module _ (step : Stepped) (e : read_step_of text reader ≡ Ok (Some step)) where
    pub counting-within : (letter_at < length text) × (at ≤ 7 * letter_at) × (length (arguments_of step.command) ≤ 7)
    counting-within = (omega (arith, step-ahead text reader step e, k.letter-le), k.at-le, few-arguments step.command)

    pub counting_more : (width : ℕ) → width ≡ length (arguments_of step.command) → Counting text step.next (letter_at + 1) (at + width)
    counting_more width w =
        let l : length (letters_of (k.done ++ (step.command ∷ []))) ≡ length (letters_of k.done) + 1 = ap length (letters-more k.done step.command) ∙ length-append (letters_of k.done) (letter_of step.command ∷ []) in
        let n : length (numbers_of (k.done ++ (step.command ∷ []))) ≡ length (numbers_of k.done) + length (arguments_of step.command) =
        ap length (numbers_more k.done step.command) ∙ length-append (numbers_of k.done) (arguments_of step.command) in
        record {
          done = k.done ++ (step.command ∷ []);
          known = known_more text reader k.done k.known step e;
          letters = omega (arith, l, k.letters);
          numbers = omega (arith, n, k.numbers, w);
          letter-le = omega (arith, step-ahead text reader step e, k.letter-le);
          at-le = omega (arith, few-arguments step.command, w, k.at-le);
        }

-- ---- room

-- the commands known have room, and those to come
pub room_of : (l n : ℕ) (done : List PathCommand) (whole rest : Outcome) → Room whole l n → whole ≡ onto done rest → (length (letters_of done) ≤ l) × (length (numbers_of done) ≤ n)
room_of l n done (refusal reason) rest room e = absurd room
room_of l n done (commands list) (refusal reason) room e = let z : ◌≡◌ {A = ℕ} 0 1 = cc in absurd (omega arith)
room_of l n done (commands list) (commands rest) room e =
    let f : list ≡ done ++ rest = cc in (
      omega (arith, room.0, ap (λ x. length (letters_of x)) f ∙ ap length (letters-append done rest) ∙ length-append (letters_of done) (letters_of rest)),
      omega (arith, room.1, ap (λ x. length (numbers_of x)) f ∙ ap length (numbers-append done rest) ∙ length-append (numbers_of done) (numbers_of rest)),
    )
