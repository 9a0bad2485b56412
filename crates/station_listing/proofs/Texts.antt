-- What reading answers to a text of at most 4,096 bytes in the tool's own buffers, apart from what is made of it. Assumes nothing.
use Prim.Native.Nat.{ℕ, ◌≤◌, ◌<◌}
use mathlib.Core.Path.{◌≡◌, refl, sym, ap, ◌∙◌}
use mathlib.Core.Bool.{Bool, true, false, cond}
use mathlib.Core.List.{List, [], ◌∷◌}
use native.Mathlib.Omega.{arith}
use borrow.Author.Tests.{lt-ltb, le-ltb, ltb-true, ltb-false}
use lib.Dec.{ltb}
use lib.ListN.{length, take}
use Rattle.answers.specs.Answers.{Answer, refused, accepted}
use Rattle.answers.specs.declared.refusals.Refusal.{Refusal}
use Rattle.answers.specs.declared.refusals.Refusal.TheVariants.{NoRoom}
use Rattle.answers.specs.declared.refusals.Values.TheVariants.{Three}
use Rattle.answers.proofs.Settled.{refused-settled, refused-not-accepted}
use Rattle.commands.specs.Stored.{letters_of, numbers_of}
use Rattle.commands.specs.declared.command.PathCommand.{PathCommand}
use Rattle.svg.specs.Lists.{CommandList, written_over}
use Rattle.svg.specs.Texts.{Outcome, commands, refusal, commands_of, offsets_of, list_of}
use Rattle.std.specs.Prelude.{Result, Ok, Err}
use Rattle.svg.specs.declared.passes.Counts.{Counts}
use Rattle.svg.specs.Readings.{answer_of, read_path_of, read_into, answered, stored_of, ReadPath}
use Rattle.svg.proofs.Offsets.{offsets-many}
use Rattle.station_commands.proofs.PlanLaws.{letters-count}
use Rattle.path_build.specs.Lists.{stored_list}
use Rattle.station_listing.specs.Stations.{Held}
use Rattle.station_listing.proofs.Flying.{numbers-few}
use Rattle.station_listing.proofs.Lent.{take-written}

-- the tool's own buffers of a command list
pub record Spare (list : CommandList) : Type 0 where
  pub letters : 256 ≡ length list.letters
  pub numbers : 1792 ≡ length list.numbers
  pub offsets : 256 ≡ length list.offsets

pub spare : {list : CommandList} → 256 ≡ length list.letters → 1792 ≡ length list.numbers → 256 ≡ length list.offsets → Spare list
spare letters numbers offsets = record { letters = letters; numbers = numbers; offsets = offsets }

-- more commands than have room: the letters, the numbers and the offsets needed
abbrev pub crowd : List ℕ → List PathCommand → Refusal
crowd text list = NoRoom (Three (length (letters_of list)) (length (numbers_of list)) (length (offsets_of text)))

-- what 256 letters, 1,792 numbers and 256 offsets leave of what a text reads as
abbrev pub limited : List ℕ → Outcome → Outcome
limited text (commands list) = cond (ltb 256 (length (letters_of list))) (refusal (crowd text list)) (commands list)
limited text (refusal reason) = refusal reason

-- a list that reading gives, with so many letters and numbers
record Reads (text : List ℕ) (letters numbers : ℕ) : Type 0 where
  list : List PathCommand
  reads : commands_of text ≡ commands list
  read : read_path_of text 256 1792 256 ≡ commands list
  few : length (letters_of list) ≤ 256
  own : letters ≡ length (letters_of list)
  more : numbers ≡ length (numbers_of list)

module _ (text : List ℕ) (short : length text ≤ 4096) where
  unread : (reason : Refusal) → commands_of text ≡ refusal reason → read_path_of text 256 1792 256 ≡ refusal reason
  unfolding read_path_of
  unread reason e = rw (le-ltb 65536 (length text) (omega (arith, short)), e) refl

  -- more than 256 commands have no room
  crowded :
      (list : List PathCommand) → commands_of text ≡ commands list → 256 < length (letters_of list)
      → read_path_of text 256 1792 256 ≡ refusal (crowd text list)
  unfolding read_path_of
  crowded list e h = rw (le-ltb 65536 (length text) (omega (arith, short)), e, lt-ltb 256 (length (letters_of list)) h) refl

  -- 256 have: there are at most 7 numbers to a letter, and as many offsets as letters
  roomy : (list : List PathCommand) → commands_of text ≡ commands list → length (letters_of list) ≤ 256 → read_path_of text 256 1792 256 ≡ commands list
  unfolding read_path_of
  roomy list e h =
      let n : length (numbers_of list) ≤ 1792 = omega (arith, numbers-few list) in
      let o : length (offsets_of text) ≤ 256 = omega (arith, offsets-many text list e) in
      rw (
        le-ltb 65536 (length text) (omega (arith, short)),
        e,
        le-ltb 256 (length (letters_of list)) h,
        le-ltb 1792 (length (numbers_of list)) n,
        le-ltb 256 (length (offsets_of text)) o,
      )
      refl

  pub read-limited : read_path_of text 256 1792 256 ≡ limited text (commands_of text)
  read-limited = by (commands_of text) refl
    where
      by_count : (list : List PathCommand) → commands_of text ≡ commands list → (b : Bool) → ltb 256 (length (letters_of list)) ≡ b
          → read_path_of text 256 1792 256 ≡ cond b (refusal (crowd text list)) (commands list)
      by_count list f true g = crowded list f (ltb-true 256 (length (letters_of list)) g)
      by_count list f false g = roomy list f (ltb-false 256 (length (letters_of list)) g)

      by : (o : Outcome) → commands_of text ≡ o → read_path_of text 256 1792 256 ≡ limited text o
      by (refusal other) f = unread other f
      by (commands list) f = by_count list f (ltb 256 (length (letters_of list))) refl

  -- an answer that refuses
  pub refused_as : (reason : Refusal) (o : Outcome) → refused reason ≡ answered text o → o ≡ refusal reason
  refused_as reason (refusal other) e = ap refusal (sym (refused-settled reason other e))
  refused_as reason (commands list) e = absurd (refused-not-accepted reason _ e)

  -- what it accepts is a list of at most 256 commands
  accepted-as : (letters numbers : ℕ) → accepted (letters ∷ numbers ∷ letters ∷ []) ≡ answered text (read_path_of text 256 1792 256) → Reads text letters numbers
  accepted-as letters numbers e = by (commands_of text) refl
    where
      by_count : (list : List PathCommand) → commands_of text ≡ commands list → (b : Bool) → ltb 256 (length (letters_of list)) ≡ b → Reads text letters numbers
      by_count list f true g =
          absurd (refused-not-accepted (crowd text list) (letters ∷ numbers ∷ letters ∷ [])
          (sym (e ∙ ap (answered text) (crowded list f (ltb-true 256 (length (letters_of list)) g)))))
      by_count list f false g =
          let h = ltb-false 256 (length (letters_of list)) g in
          let counts : letters ∷ (numbers ∷ (letters ∷ [])) ≡ length (letters_of list) ∷ (length (numbers_of list) ∷ (length (offsets_of text) ∷ [])) =
          ap (λ (a : Answer). a.values) (e ∙ ap (answered text) (roomy list f h)) in
          record { list = list; reads = f; read = roomy list f h; few = h; own = cc; more = cc }

      by : (o : Outcome) → commands_of text ≡ o → Reads text letters numbers
      by (refusal other) f = absurd (refused-not-accepted other (letters ∷ numbers ∷ letters ∷ []) (sym (e ∙ ap (answered text) (unread other f))))
      by (commands list) f = by_count list f (ltb 256 (length (letters_of list))) refl

  module _ {stood left : CommandList} {reading : Result Counts Refusal} (said : ReadPath text stood reading left) (own : Spare stood) where
    into : read_into text stood ≡ read_path_of text 256 1792 256
    into = rw (sym own.letters, sym own.numbers, sym own.offsets) refl

    answer-as : (other : Result Counts Refusal) → reading ≡ other → answer_of other ≡ answered text (read_path_of text 256 1792 256)
    answer-as other e = ap answer_of (sym e) ∙ said.answer ∙ ap (answered text) into

    pub not-read : {reason : Refusal} → reading ≡ Err reason → limited text (commands_of text) ≡ refusal reason
    not-read {reason} e = sym read-limited ∙ refused_as reason (read_path_of text 256 1792 256) (answer-as (Err reason) e)

    module _ {counts : Counts} (e : reading ≡ Ok counts) where
      known : Reads text counts.letters counts.numbers
      known = accepted-as counts.letters counts.numbers (answer-as (Ok counts) e)

      pub letters-most : counts.letters ≤ 256
      letters-most = omega (arith, known.own, known.few)

      pub numbers-most : counts.numbers ≤ 1792
      numbers-most = omega (arith, known.more, numbers-few known.list, known.few)

      -- the list stands in the first places of the buffers
      pub held : Held text (stored_list (take counts.letters left.letters) (take counts.numbers left.numbers))
      held =
          let wrote : left ≡ written_over (list_of text known.list) stood = said.memory ∙ ap (λ (o : Outcome). written_over (stored_of text o) stood) (into ∙ known.read) in
          record {
            short = short;
            list = known.list;
            reads = known.reads;
            own = rw (
              take-written (letters_of known.list) stood.letters left.letters counts.letters (ap (λ (l : CommandList). l.letters) wrote) known.own,
              take-written (numbers_of known.list) stood.numbers left.numbers counts.numbers (ap (λ (l : CommandList). l.numbers) wrote) known.more,
            );
            few = omega (arith, letters-count known.list, known.few);
          }
