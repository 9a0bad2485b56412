-- What the storing pass holds between two commands, what a step does to that, and how it goes over from buffers to others. Assumes nothing.
use Prim.Native.Nat.{ℕ, ◌+◌, ◌-◌, ◌*◌, ◌≤◌, ◌<◌}
use mathlib.Core.Path.{◌≡◌, refl, sym, ap, subst, ◌∙◌}
use mathlib.Core.List.{List, [], ◌∷◌, ◌++◌}
use native.Mathlib.Omega.{arith}
use lib.Ieee.{Float}
use lib.ListN.{length, set, take, drop, length-append}
use lib.Seq.{sets, take-append_seam, drop-append-add, drop-drop}
use Rattle.std.specs.Prelude.{Some, None, Result, Ok, Err}
use Rattle.answers.specs.Report.{written}
use Rattle.answers.specs.declared.refusals.Refusal.{Refusal}
use Rattle.answers.proofs.Writing.{written-more, length-written}
use Rattle.commands.specs.Stored.{letter_of, arguments_of, letters_of, numbers_of, Store}
use Rattle.commands.specs.declared.command.PathCommand.{PathCommand}
use Rattle.svg_step.specs.Steps.{fresh_of, read_step_of}
use Rattle.svg.specs.Lists.{CommandList, command_list, no_list}
use Rattle.svg.specs.Texts.{Outcome, commands, refusal, read_from, commands_of, offsets_of, counts_at, measure_of, Room, Roomed, Filled, FilledAll, onto, Known, Counting, Holding, Begun, Held, Stores}
use Rattle.svg_step.specs.declared.steps.Reader.{Reader}
use Rattle.svg_step.specs.declared.steps.Stepped.{Stepped}
use Rattle.svg.specs.declared.passes.Counts.{Counts}
use Rattle.svg.specs.declared.passes.Stored.{Stored}
use Rattle.svg.specs.declared.passes.Stored.TheVariants.{Whole, Full}
use Rattle.svg_step.proofs.Ahead.{step-ahead}
use Rattle.svg.proofs.PassLaws.{letters-more, numbers_more, few-arguments, known-none, known-all, known-offsets, known_many, known_more, known-offset, counted, uncounted, counting-within, room_of}
use Rattle.svg.proofs.Offsets.{offsets-many}

-- ---- what is written twice

module _ {A : Type 0} where
  -- what is past the longer of two beginnings stays, whichever is written
  drop_past : (first before : List A) (n : ℕ) → length first ≤ n → drop n (written first before) ≡ drop n before
  drop_past first before n h =
      let m : ℕ = n - length first in
      let e : n ≡ length first + m = omega (arith, h) in
      ap (λ k. drop k (written first before)) e
      ∙ drop-append-add first (drop (length first) before) m
      ∙ drop-drop m (length first) before
      ∙ ap (λ k. drop k before) (sym e)

  written_over : (first all before : List A) → length first ≤ length all → written all (written first before) ≡ written all before
  written_over first all before h = ap (λ l. all ++ l) (drop_past first before (length all) h)

  take-written : (elements before : List A) (n : ℕ) → n ≡ length elements → take n (written elements before) ≡ elements
  take-written elements before n e = ap (λ k. take k (written elements before)) e ∙ take-append_seam elements (drop (length elements) before)

-- ---- between two commands

pub holding-none : (text : List ℕ) (before : CommandList) → Holding text before before fresh_of 0 0
unfolding letters_of numbers_of known-none
holding-none text before =
    record {
      done = [];
      known = known-none text;
      places = refl;
      count = refl;
      letter-le = omega arith;
      at-le = omega arith;
      letters_now = refl;
      numbers_now = refl;
      offsets_now = refl;
      letters_in = omega arith;
      numbers_in = omega arith;
      offsets_in = omega arith;
    }

-- at the start nothing is held
pub begun-none : (text : List ℕ) → Begun text no_list fresh_of
unfolding letters_of numbers_of known-none
begun-none text = record { done = []; known = known-none text; letters = refl; numbers = refl; offsets = refl; letter-le = omega arith; at-le = omega arith }

module _ {text : List ℕ} {before after : CommandList} {reader : Reader} {letter_at at : ℕ} (k : Holding text before after reader letter_at at) where
  counting : Counting text reader letter_at at
  counting = record { done = k.done; known = k.known; letters = k.places; numbers = k.count; letter-le = k.letter-le; at-le = k.at-le }

  pub held-letters : length after.letters ≡ length before.letters
  held-letters = ap length k.letters_now ∙ length-written (letters_of k.done) before.letters (omega (arith, k.letters_in, k.places))

  pub held-numbers : length after.numbers ≡ length before.numbers
  held-numbers = ap length k.numbers_now ∙ length-written (numbers_of k.done) before.numbers (omega (arith, k.numbers_in, k.count))

  pub held-offsets : length after.offsets ≡ length before.offsets
  held-offsets = ap length k.offsets_now ∙ length-written k.known.marks before.offsets (omega (arith, k.offsets_in, k.places, k.known.many))

  pub held-within : (letter_at ≤ length after.letters) × (at ≤ length after.numbers) × (letter_at ≤ length after.offsets)
  held-within = (omega (arith, held-letters, k.letters_in), omega (arith, held-numbers, k.numbers_in), omega (arith, held-offsets, k.offsets_in))

  pub held_whole : read_step_of text reader ≡ Ok None → Stores text before after (Ok (Whole (counts_at letter_at at)))
  held_whole e =
      let all : commands_of text ≡ commands k.done = known-all text reader k.done k.known e in
      let offsets : offsets_of text ≡ k.known.marks = known-offsets text reader k.done k.known e in
      record {
        said = (
          counted text reader letter_at at counting e,
          rw (all, offsets) ((omega (arith, k.letters_in, k.places), omega (arith, k.numbers_in, k.count)), omega (arith, k.offsets_in, k.places, k.known.many)),
          rw (all, offsets) ((k.letters_now, k.numbers_now), k.offsets_now),
        );
      }

  pub held-refused : (reason : Refusal) → read_step_of text reader ≡ Err reason → Stores text before after (Err reason)
  held-refused reason e = record { said = uncounted text reader letter_at at counting reason e }

  module _ (step : Stepped) (e : read_step_of text reader ≡ Ok (Some step)) where
    more : Known text step.next (k.done ++ (step.command ∷ []))
    more = known_more text reader k.done k.known step e

    one-letter : length (letters_of (k.done ++ (step.command ∷ []))) ≡ length (letters_of k.done) + 1
    one-letter = ap length (letters-more k.done step.command) ∙ length-append (letters_of k.done) (letter_of step.command ∷ [])

    its-numbers : length (numbers_of (k.done ++ (step.command ∷ []))) ≡ length (numbers_of k.done) + length (arguments_of step.command)
    its-numbers = ap length (numbers_more k.done step.command) ∙ length-append (numbers_of k.done) (arguments_of step.command)

    -- the offset of its letter
    pub held-offset : step.next.offset < length text
    held-offset = known-offset text reader k.done k.known step e

    -- the counts are small
    pub held_small : (letter_at < length text) × (at ≤ 7 * letter_at) × (length (arguments_of step.command) ≤ 7)
    held_small = counting-within text reader letter_at at counting step e

    -- room for the text is room for the step.command
    roomed :
        Roomed (offsets_of text) (commands_of text) before
        → (letter_at + 1 ≤ length after.letters) × (at + length (arguments_of step.command) ≤ length after.numbers) × (letter_at + 1 ≤ length after.offsets)
    roomed room =
        let r = room_of (length before.letters) (length before.numbers) (k.done ++ (step.command ∷ [])) (commands_of text) (read_from more.steps text step.next) room.0 more.whole in (
          omega (arith, r.0, one-letter, k.places, held-letters),
          omega (arith, r.1, its-numbers, k.count, held-numbers),
          omega (arith, room.1, known_many text step.next (k.done ++ (step.command ∷ [])) more, more.many, one-letter, k.places, held-offsets),
        )

    pub full-of-letters : length after.letters ≤ letter_at → Stores text before after (Ok (Full reader letter_at at))
    full-of-letters h = record { said = (k, λ room. omega (arith, (roomed room).0)) }

    pub full-of-numbers : (width : ℕ) → width ≡ length (arguments_of step.command) → length after.numbers < at + width → Stores text before after (Ok (Full reader letter_at at))
    full-of-numbers width w h = record { said = (k, λ room. omega (arith, (roomed room).1, w)) }

    pub full-of-offsets : length after.offsets ≤ letter_at → Stores text before after (Ok (Full reader letter_at at))
    full-of-offsets h = record { said = (k, λ room. omega (arith, (roomed room).2)) }

    pub holding-more :
        {letters' : List ℕ} {numbers' : List Float} (width : ℕ) → width ≡ length (arguments_of step.command)
        → letter_at < length after.letters
        → at + width ≤ length after.numbers
        → letter_at < length after.offsets
        → Store letter_at at step.command after.letters after.numbers letters' numbers'
        → Holding text before (command_list letters' numbers' (set after.offsets letter_at step.next.offset)) step.next (letter_at + 1) (at + width)
    unfolding more known_more
    holding-more width w inside enough free s =
        let l : letters_of (k.done ++ (step.command ∷ [])) ≡ letters_of k.done ++ (letter_of step.command ∷ []) = letters-more k.done step.command in
        let n : numbers_of (k.done ++ (step.command ∷ [])) ≡ numbers_of k.done ++ arguments_of step.command = numbers_more k.done step.command in
        record {
          done = k.done ++ (step.command ∷ []);
          known = more;
          places = omega (arith, one-letter, k.places);
          count = omega (arith, its-numbers, k.count, w);
          letter-le = omega (arith, step-ahead text reader step e, k.letter-le);
          at-le = omega (arith, few-arguments step.command, w, k.at-le);
          letters_now =
              rw l
              (s.letter
              ∙ ap (λ x. set x letter_at (letter_of step.command)) k.letters_now
              ∙ ap (λ i. set (written (letters_of k.done) before.letters) i (letter_of step.command)) k.places
              ∙ written-more (letters_of k.done) (letter_of step.command ∷ []) before.letters (omega (arith, inside, held-letters, k.places)));
          numbers_now =
              rw n
              (s.arguments
              ∙ ap (λ x. sets x at (arguments_of step.command)) k.numbers_now
              ∙ ap (λ i. sets (written (numbers_of k.done) before.numbers) i (arguments_of step.command)) k.count
              ∙ written-more (numbers_of k.done) (arguments_of step.command) before.numbers (omega (arith, enough, held-numbers, k.count, w)));
          offsets_now =
              ap (λ x. set x letter_at step.next.offset) k.offsets_now
              ∙ ap (λ i. set (written k.known.marks before.offsets) i step.next.offset) (k.places ∙ sym k.known.many)
              ∙ written-more k.known.marks (step.next.offset ∷ []) before.offsets (omega (arith, free, held-offsets, k.places, k.known.many));
          letters_in = omega (arith, inside, held-letters);
          numbers_in = omega (arith, enough, held-numbers);
          offsets_in = omega (arith, free, held-offsets);
        }

  -- what is held, as three lists
  begun : Begun text (command_list (take letter_at after.letters) (take at after.numbers) (take letter_at after.offsets)) reader
  begun =
      let l : take letter_at after.letters ≡ letters_of k.done = ap (take letter_at) k.letters_now ∙ take-written (letters_of k.done) before.letters letter_at k.places in
      let n : take at after.numbers ≡ numbers_of k.done = ap (take at) k.numbers_now ∙ take-written (numbers_of k.done) before.numbers at k.count in
      let o : take letter_at after.offsets ≡ k.known.marks =
      ap (take letter_at) k.offsets_now ∙ take-written k.known.marks before.offsets letter_at (k.places ∙ sym k.known.many) in
      record {
        done = k.done;
        known = k.known;
        letters = l;
        numbers = n;
        offsets = o;
        letter-le = omega (arith, ap length l, k.places, k.letter-le);
        at-le = omega (arith, ap length l, ap length n, k.places, k.count, k.at-le);
      }

-- ---- what an answer tells

module _ (text : List ℕ) (before after : CommandList) (counts : Counts) where
  -- all that is stored, as three lists
  held_of :
      (outcome : Outcome) → commands_of text ≡ outcome → Ok counts ≡ measure_of outcome → FilledAll (offsets_of text) outcome before after
      → Held (offsets_of text) outcome (command_list (take counts.letters after.letters) (take counts.numbers after.numbers) (take counts.letters after.offsets))
  unfolding measure_of
  held_of (commands list) e m f =
      let same : counts ≡ counts_at (length (letters_of list)) (length (numbers_of list)) = cc in
      let l = ap (λ (c : Counts). c.letters) same in
      let n = ap (λ (c : Counts). c.numbers) same in (
        ap (take counts.letters) f.0.0 ∙ take-written (letters_of list) before.letters counts.letters l,
        ap (take counts.numbers) f.0.1 ∙ take-written (numbers_of list) before.numbers counts.numbers n,
        ap (take counts.letters) f.1 ∙ take-written (offsets_of text) before.offsets counts.letters (l ∙ sym (offsets-many text list e)),
      )
  held_of (refusal reason) e m f = absurd f.0

  within_of :
      (outcome : Outcome) → commands_of text ≡ outcome → Ok counts ≡ measure_of outcome → Roomed (offsets_of text) outcome before
      → FilledAll (offsets_of text) outcome before after
      → (counts.letters ≤ length after.letters) × (counts.numbers ≤ length after.numbers) × (counts.letters ≤ length after.offsets)
  unfolding measure_of
  within_of (commands list) e m room f =
      let same : counts ≡ counts_at (length (letters_of list)) (length (numbers_of list)) = cc in
      let p = ap (λ (c : Counts). c.letters) same in
      let q = ap (λ (c : Counts). c.numbers) same in (
        omega (arith, p, room.0.0, ap length f.0.0 ∙ length-written (letters_of list) before.letters room.0.0),
        omega (arith, q, room.0.1, ap length f.0.1 ∙ length-written (numbers_of list) before.numbers room.0.1),
        omega (arith, p, offsets-many text list e, room.1, ap length f.1 ∙ length-written (offsets_of text) before.offsets room.1),
      )
  within_of (refusal reason) e m room f = absurd room.0

module _ {text : List ℕ} {before after : CommandList} {r : Result Stored Refusal} (s : Stores text before after r) where
  as-told : {q : Result Stored Refusal} → r ≡ q → Stores text before after q
  as-told e = subst (λ (x : Result Stored Refusal). Stores text before after x) e s

  pub told-refused : {reason : Refusal} → r ≡ Err reason → measure_of (commands_of text) ≡ Err reason
  told-refused e = sym (as-told e).said

  module _ {counts : Counts} (e : r ≡ Ok (Whole counts)) where
    pub whole-within : (counts.letters ≤ length after.letters) × (counts.numbers ≤ length after.numbers) × (counts.letters ≤ length after.offsets)
    whole-within = let told = (as-told e).said in within_of text before after counts (commands_of text) refl told.0 told.1 told.2

    pub whole-held : Held (offsets_of text) (commands_of text) (command_list (take counts.letters after.letters) (take counts.numbers after.numbers) (take counts.letters after.offsets))
    whole-held = let told = (as-told e).said in held_of text before after counts (commands_of text) refl told.0 told.2

  module _ {reader : Reader} {places count : ℕ} (e : r ≡ Ok (Full reader places count)) where
    full-holding : Holding text before after reader places count
    full-holding = (as-told e).said.0

    pub full-within : (places ≤ length after.letters) × (count ≤ length after.numbers) × (places ≤ length after.offsets)
    full-within = held-within full-holding

    pub full-begun : Begun text (command_list (take places after.letters) (take count after.numbers) (take places after.offsets)) reader
    full-begun = begun full-holding

-- ---- from buffers to others

unmeasured : (outcome : Outcome) (l n : ℕ) (reason : Refusal) → Room outcome l n → Err reason ≡ measure_of outcome → ⊥
unfolding measure_of
unmeasured (commands list) l n reason room m = let z : ◌≡◌ {A = ℕ} 0 1 = cc in omega arith
unmeasured (refusal other) l n reason room m = room

stored-filled :
    (text : List ℕ) (before after : CommandList) (r : Result Stored Refusal) → Stores text before after r → Roomed (offsets_of text) (commands_of text) before
    → FilledAll (offsets_of text) (commands_of text) before after
stored-filled text before after (Ok (Whole counts)) s room = s.said.2
stored-filled text before after (Err reason) s room =
    absurd (unmeasured (commands_of text) (length before.letters) (length before.numbers) reason room.0 s.said)
stored-filled text before after (Ok (Full reader places count)) s room = absurd (s.said.1 room)

-- a list that is written over its own beginning
filled-over :
    (letters letters₁ letters' : List ℕ) (numbers numbers₁ numbers' : List Float) (done : List PathCommand) (outcome rest : Outcome) → outcome ≡ onto done rest
    → letters₁ ≡ written (letters_of done) letters
    → numbers₁ ≡ written (numbers_of done) numbers
    → Filled outcome letters₁ numbers₁ letters' numbers'
    → Filled outcome letters numbers letters' numbers'
filled-over letters letters₁ letters' numbers numbers₁ numbers' done (commands list) rest e l n f =
    let r = room_of (length (letters_of list)) (length (numbers_of list)) done (commands list) rest (omega arith, omega arith) e in (
      f.0 ∙ ap (written (letters_of list)) l ∙ written_over (letters_of done) (letters_of list) letters r.0,
      f.1 ∙ ap (written (numbers_of list)) n ∙ written_over (numbers_of done) (numbers_of list) numbers r.1,
    )
filled-over letters letters₁ letters' numbers numbers₁ numbers' done (refusal reason) rest e l n f = absurd f

module _ {text : List ℕ} {held : CommandList} {reader : Reader} (k : Begun text held reader) where
  pub begun-counting : Counting text reader (length held.letters) (length held.numbers)
  begun-counting = record { done = k.done; known = k.known; letters = ap length k.letters; numbers = ap length k.numbers; letter-le = k.letter-le; at-le = k.at-le }

  -- a letter and an offset for each command
  many : length held.offsets ≡ length held.letters
  many = ap length k.offsets ∙ k.known.many ∙ sym (ap length k.letters)

  module _ (before : CommandList) (room : Roomed (offsets_of text) (commands_of text) before) where
    pub begun-room :
        (length held.letters ≤ length before.letters) × (length held.numbers ≤ length before.numbers) × (length held.offsets ≤ length before.offsets)
    begun-room =
        let r = room_of (length before.letters) (length before.numbers) k.done (commands_of text) (read_from k.known.steps text reader) room.0 k.known.whole in (
          omega (arith, r.0, ap length k.letters),
          omega (arith, r.1, ap length k.numbers),
          omega (arith, room.1, known_many text reader k.done k.known, ap length k.offsets),
        )

    module _
        (copied : CommandList)
        (l : copied.letters ≡ written held.letters before.letters)
        (n : copied.numbers ≡ written held.numbers before.numbers)
        (o : copied.offsets ≡ written held.offsets before.offsets)
      where
        same-letters : length copied.letters ≡ length before.letters
        same-letters = ap length l ∙ length-written held.letters before.letters begun-room.0

        same_numbers : length copied.numbers ≡ length before.numbers
        same_numbers = ap length n ∙ length-written held.numbers before.numbers begun-room.1

        same-offsets : length copied.offsets ≡ length before.offsets
        same-offsets = ap length o ∙ length-written held.offsets before.offsets begun-room.2

        -- what is copied stays where it is written once more
        again : {A : Type 0} (own out stood known : List A) → out ≡ written own stood → own ≡ known → out ≡ written known out
        again own out stood known e f = e ∙ sym (written_over own own stood (omega arith)) ∙ ap (λ x. written x (written own stood)) f ∙ ap (written known) (sym e)

        -- the beginning is copied
        pub begun-holding : Holding text copied copied reader (length held.letters) (length held.numbers)
        begun-holding =
            record {
              done = k.done;
              known = k.known;
              places = ap length k.letters;
              count = ap length k.numbers;
              letter-le = k.letter-le;
              at-le = k.at-le;
              letters_now = again held.letters copied.letters before.letters (letters_of k.done) l k.letters;
              numbers_now = again held.numbers copied.numbers before.numbers (numbers_of k.done) n k.numbers;
              offsets_now = again held.offsets copied.offsets before.offsets k.known.marks o k.offsets;
              letters_in = omega (arith, begun-room, same-letters);
              numbers_in = omega (arith, begun-room, same_numbers);
              offsets_in = omega (arith, begun-room, same-offsets, many);
            }

        -- what is stored past the beginning makes the whole
        pub begun-filled : (after : CommandList) (r : Result Stored Refusal) → Stores text copied after r → FilledAll (offsets_of text) (commands_of text) before after
        begun-filled after r s =
            let f = stored-filled text copied after r s (rw (same-letters, same_numbers, same-offsets) room) in (
              filled-over before.letters copied.letters after.letters before.numbers copied.numbers after.numbers k.done (commands_of text)
                  (read_from k.known.steps text reader) k.known.whole (l ∙ ap (λ x. written x before.letters) k.letters) (n ∙ ap (λ x. written x before.numbers) k.numbers) f.0,
              f.1
                  ∙ ap (written (offsets_of text)) o
                  ∙ written_over held.offsets (offsets_of text) before.offsets (omega (arith, known_many text reader k.done k.known, ap length k.offsets)),
            )
