-- The answer of the reader's entry, way by way. Assumes nothing.
use Prim.Native.Nat.{ℕ, ◌≤◌, ◌<◌}
use mathlib.Core.Path.{◌≡◌, refl, ap, ◌∙◌}
use mathlib.Core.List.{List}
use native.Mathlib.Omega.{arith}
use borrow.Author.Tests.{lt-ltb, le-ltb}
use lib.ListN.{length}
use Rattle.std.specs.Prelude.{Ok, Err}
use Rattle.answers.specs.Report.{written}
use Rattle.answers.specs.declared.refusals.Values.TheVariants.{Three}
use Rattle.answers.specs.declared.refusals.Refusal.{Refusal}
use Rattle.answers.specs.declared.refusals.Refusal.TheVariants.{TooLong, NoRoom}
use Rattle.commands.specs.Stored.{letters_of, numbers_of}
use Rattle.commands.specs.declared.command.PathCommand.{PathCommand}
use Rattle.svg.specs.Lists.{CommandList, command_list}
use Rattle.svg.specs.Texts.{Outcome, commands, refusal, commands_of, offsets_of, counts_at, measure_of, Roomed, FilledAll, Held}
use Rattle.svg.specs.Readings.{read_path_of, read_into, ReadPath, Gives}
use Rattle.svg.specs.declared.passes.Counts.{Counts}
use Rattle.svg.proofs.Offsets.{offsets-many}

-- ---- the first pass's answer tells the outcome

abbrev Unread : Refusal → Outcome → Type 0
Unread reason outcome = outcome ≡ refusal reason

record Listed (counts : Counts) (outcome : Outcome) : Type 0 where
  list : List PathCommand
  is : outcome ≡ commands list
  letters : length (letters_of list) ≡ counts.letters
  numbers : length (numbers_of list) ≡ counts.numbers

measured-refused : (reason : Refusal) (outcome : Outcome) → measure_of outcome ≡ Err reason → outcome ≡ refusal reason
unfolding measure_of
measured-refused reason (commands list) e = let z : ◌≡◌ {A = ℕ} 0 1 = cc in absurd (omega arith)
measured-refused reason (refusal other) e = let f : other ≡ reason = cc in ap refusal f

measured-list : (counts : Counts) (outcome : Outcome) → measure_of outcome ≡ Ok counts → Listed counts outcome
unfolding measure_of
measured-list counts (commands list) e =
    let same : counts_at (length (letters_of list)) (length (numbers_of list)) ≡ counts = cc in
    record { list = list; is = refl; letters = ap (λ (c : Counts). c.letters) same; numbers = ap (λ (c : Counts). c.numbers) same }
measured-list counts (refusal other) e = let z : ◌≡◌ {A = ℕ} 0 1 = cc in absurd (omega arith)

-- ---- lists are the same where their buffers are

same-list : {a b : CommandList} → a.letters ≡ b.letters → a.numbers ≡ b.numbers → a.offsets ≡ b.offsets → a ≡ b
same-list {a} {b} l n o =
    ap (λ x. command_list x a.numbers a.offsets) l
    ∙ ap (λ x. command_list b.letters x a.offsets) n
    ∙ ap (λ x. command_list b.letters b.numbers x) o

-- ---- the ways out

module _ (text : List ℕ) (before : CommandList) where
  refuses : (reason : Refusal) → read_into text before ≡ refusal reason → ReadPath text before (Err reason) before
  refuses reason e = record { answer = rw e; memory = rw e }

  long : 65536 < length text → read_into text before ≡ refusal (TooLong (length text))
  unfolding read_path_of
  long h = rw (lt-ltb 65536 (length text) h)

  pub too_long : 65536 < length text → ReadPath text before (Err (TooLong (length text))) before
  too_long h = refuses (TooLong (length text)) (long h)

  module _ (short : length text ≤ 65536) where
    refusing : (reason : Refusal) → commands_of text ≡ refusal reason → read_into text before ≡ refusal reason
    unfolding read_path_of
    refusing reason e = rw (le-ltb 65536 (length text) short, e)

    pub unread : (reason : Refusal) → measure_of (commands_of text) ≡ Err reason → ReadPath text before (Err reason) before
    unread reason m = refuses reason (refusing reason (measured-refused reason (commands_of text) m))

    module _ {counts : Counts} (m : measure_of (commands_of text) ≡ Ok counts) where
      l : Listed counts (commands_of text)
      l = measured-list counts (commands_of text) m

      offsets_are : length (offsets_of text) ≡ counts.letters
      offsets_are = offsets-many text l.list l.is ∙ l.letters

      few-letters : length before.letters < counts.letters → read_into text before ≡ refusal (NoRoom (Three counts.letters counts.numbers counts.letters))
      unfolding read_path_of
      few-letters h = rw (le-ltb 65536 (length text) short, l.is, l.letters, l.numbers, offsets_are, lt-ltb (length before.letters) counts.letters h)

      few-numbers : counts.letters ≤ length before.letters → length before.numbers < counts.numbers → read_into text before ≡ refusal (NoRoom (Three counts.letters counts.numbers counts.letters))
      unfolding read_path_of
      few-numbers g h =
          rw (
            le-ltb 65536 (length text) short,
            l.is,
            l.letters,
            l.numbers,
            offsets_are,
            le-ltb (length before.letters) counts.letters g,
            lt-ltb (length before.numbers) counts.numbers h,
          )

      few-offsets :
          counts.letters ≤ length before.letters → counts.numbers ≤ length before.numbers → length before.offsets < counts.letters
          → read_into text before ≡ refusal (NoRoom (Three counts.letters counts.numbers counts.letters))
      unfolding read_path_of
      few-offsets f g h =
          rw (
            le-ltb 65536 (length text) short,
            l.is,
            l.letters,
            l.numbers,
            offsets_are,
            le-ltb (length before.letters) counts.letters f,
            le-ltb (length before.numbers) counts.numbers g,
            lt-ltb (length before.offsets) counts.letters h,
          )

      enough : counts.letters ≤ length before.letters → counts.numbers ≤ length before.numbers → counts.letters ≤ length before.offsets → read_into text before ≡ commands l.list
      unfolding read_path_of
      enough f g h =
          rw (
            le-ltb 65536 (length text) short,
            l.is,
            l.letters,
            l.numbers,
            offsets_are,
            le-ltb (length before.letters) counts.letters f,
            le-ltb (length before.numbers) counts.numbers g,
            le-ltb (length before.offsets) counts.letters h,
          )

      abbrev NoRoomFor : Type 0
      NoRoomFor = ReadPath text before (Err (NoRoom (Three counts.letters counts.numbers counts.letters))) before

      pub no-letters : length before.letters < counts.letters → NoRoomFor
      no-letters h = refuses (NoRoom (Three counts.letters counts.numbers counts.letters)) (few-letters h)

      pub no-numbers : counts.letters ≤ length before.letters → length before.numbers < counts.numbers → NoRoomFor
      no-numbers g h = refuses (NoRoom (Three counts.letters counts.numbers counts.letters)) (few-numbers g h)

      pub no-offsets : counts.letters ≤ length before.letters → counts.numbers ≤ length before.numbers → length before.offsets < counts.letters → NoRoomFor
      no-offsets f g h = refuses (NoRoom (Three counts.letters counts.numbers counts.letters)) (few-offsets f g h)

      module _ (f : counts.letters ≤ length before.letters) (g : counts.numbers ≤ length before.numbers) (h : counts.letters ≤ length before.offsets) where
        pub has_room : Roomed (offsets_of text) (commands_of text) before
        has_room = (rw l.is (omega (arith, l.letters), omega (arith, l.numbers)), omega (arith, offsets_are))

        pub read_whole : (after : CommandList) → FilledAll (offsets_of text) (commands_of text) before after → ReadPath text before (Ok counts) after
        read_whole after filled =
            let e = enough f g h in
            let w = rw l.is at filled.0 in
            record { answer = rw (e, l.letters, l.numbers, offsets_are); memory = rw e (same-list w.0 w.1 filled.1) }

-- ---- a text whose commands three lists hold

module _ (held : CommandList) where
  held-measured : (offsets : List ℕ) (outcome : Outcome) → Held offsets outcome held → measure_of outcome ≡ Ok (counts_at (length held.letters) (length held.numbers))
  unfolding measure_of
  held-measured offsets (commands list) h = rw (h.0, h.1)
  held-measured offsets (refusal reason) h = absurd h

  held-offsets : (offsets : List ℕ) (outcome : Outcome) → Held offsets outcome held → held.offsets ≡ offsets
  held-offsets offsets (commands list) h = h.2
  held-offsets offsets (refusal reason) h = absurd h

  held-filled :
      (before : CommandList) (offsets : List ℕ) (outcome : Outcome) → Held offsets outcome held
      → FilledAll offsets outcome before
      (command_list (written held.letters before.letters) (written held.numbers before.numbers) (written held.offsets before.offsets))
  held-filled before offsets (commands list) h =
      ((ap (λ l. written l before.letters) h.0, ap (λ l. written l before.numbers) h.1), ap (λ l. written l before.offsets) h.2)
  held-filled before offsets (refusal reason) h = absurd h

  module _ (text : List ℕ) (short : length text ≤ 65536) (h : Held (offsets_of text) (commands_of text) held) where
    sized : measure_of (commands_of text) ≡ Ok (counts_at (length held.letters) (length held.numbers))
    sized = held-measured (offsets_of text) (commands_of text) h

    as_many : length held.offsets ≡ length held.letters
    as_many = ap length (held-offsets (offsets_of text) (commands_of text) h) ∙ offsets_are text held short sized

  module _ (before : CommandList) where
    abbrev NoneGiven : Type 0
    NoneGiven = Gives held before (Err (NoRoom (Three (length held.letters) (length held.numbers) (length held.letters)))) before

    pub give-no-letters : length before.letters < length held.letters → NoneGiven
    give-no-letters few = record { said = λ text short h. no-letters text before short (sized text short h) few }

    pub give-no-numbers : length held.letters ≤ length before.letters → length before.numbers < length held.numbers → NoneGiven
    give-no-numbers f few = record { said = λ text short h. no-numbers text before short (sized text short h) f few }

    pub give-no-offsets :
        length held.letters ≤ length before.letters → length held.numbers ≤ length before.numbers → length before.offsets < length held.offsets → NoneGiven
    give-no-offsets f g few = record { said = λ text short h. no-offsets text before short (sized text short h) f g (omega (arith, few, as_many text short h)) }

    pub give_all :
        (after : CommandList)
        → length held.letters ≤ length before.letters
        → length held.numbers ≤ length before.numbers
        → length held.offsets ≤ length before.offsets
        → after.letters ≡ written held.letters before.letters
        → after.numbers ≡ written held.numbers before.numbers
        → after.offsets ≡ written held.offsets before.offsets
        → Gives held before (Ok (counts_at (length held.letters) (length held.numbers))) after
    give_all after f g i l n o =
        record {
          said = λ text short h.
              read_whole text before short (sized text short h) f g (omega (arith, i, as_many text short h)) after (rw (l, n, o) (held-filled before (offsets_of text) (commands_of text) h));
        }
