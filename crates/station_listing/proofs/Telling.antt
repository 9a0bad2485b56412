-- What each part of a plan prints is what the plan prints. Assumes nothing.
use Prim.Native.Nat.{ℕ, ◌-◌, ◌≤◌, ◌<◌}
use mathlib.Core.Path.{◌≡◌, refl, sym, ap, subst, ◌∙◌}
use mathlib.Core.Bool.{Bool, true, false, cond}
use mathlib.Core.List.{List, []}
use native.Mathlib.Omega.{arith}
use borrow.Author.Tests.{lt-ltb, le-ltb}
use lib.Dec.{ltb}
use lib.ListN.{length, take, drop, length-drop}
use lib.Seq.{take_all}
use Rattle.answers.specs.declared.refusals.Refusal.{Refusal}
use Rattle.answers.specs.declared.refusals.Refusal.TheVariants.{TooLong}
use Rattle.answers.specs.Answers.{refused}
use Rattle.answers.proofs.Writing.{written-more}
use Rattle.commands.specs.Stored.{letters_of}
use Rattle.std.specs.Prelude.{Result, Ok, Err}
use Rattle.svg.specs.Lists.{CommandList}
use Rattle.svg.specs.declared.passes.Counts.{Counts}
use Rattle.svg.specs.Texts.{Outcome, commands, refusal, commands_of, offsets_of}
use Rattle.svg.specs.Readings.{ReadPath, read_path_of, answered}
use Rattle.text_reader.specs.Plans.{first_line_of, past_of}
use Rattle.text_reader.specs.declared.line.FirstLine.{FirstLine}
use Rattle.station_lines.specs.Lines.{refusal_line}
use Rattle.station_lines.specs.Put.{PutWithin}
use Rattle.station_lines.proofs.Putting.{within-as}
use Rattle.path_build.specs.Lists.{stored_list}
use Rattle.station_listing.specs.Stations.{read_of, plan_of, judged_of, stations_of, Takes, Stations, Held}
use Rattle.station_listing.proofs.Texts as texts
use Rattle.station_listing.proofs.Texts.{Spare, crowd, limited}

-- ---- the output

module _ (input before after : List ℕ) (r : ℕ) where
  pub told-count : PutWithin 69632 (stations_of input) 0 before after r → Takes input r
  told-count p = record { count = omega (arith, p.put.past); most = omega (arith, p.within) }

  -- what is put from the start is written, where there is room
  pub told-whole : (s : ℕ) → Takes input s → s ≤ length before → PutWithin 69632 (stations_of input) 0 before after r → Stations input before r after
  told-whole s n h p =
      let room : length (stations_of input) ≤ length before = omega (arith, n.count) in
      record {
        takes = told-count p;
        bytes = rw (le-ltb (length before) (length (stations_of input)) room) (p.put.memory ∙ written-more [] (stations_of input) before (omega (arith, room)));
      }

  -- 69,632 places are enough
  pub told-long : 69632 ≤ length before → PutWithin 69632 (stations_of input) 0 before after r → Stations input before r after
  told-long h p = told-whole r (told-count p) (omega (arith, p.within)) p

pub told-short : (input before : List ℕ) (r : ℕ) → Takes input r → length before < r → Stations input before r before
told-short input before r n h =
    let less : length before < length (stations_of input) = omega (arith, n.count) in
    record { takes = n; bytes = rw (lt-ltb (length before) (length (stations_of input)) less) refl }

-- ---- the first line

module _ (input before after : List ℕ) (r : ℕ) (line : Result FirstLine Refusal) (e : line ≡ first_line_of input 0) where
  pub line_refused : (reason : Refusal) → line ≡ Err reason → PutWithin 134 (refusal_line reason) 0 before after r → PutWithin 69632 (stations_of input) 0 before after r
  unfolding stations_of
  line_refused reason f p = within-as 69632 _ p.put (ap (judged_of input) (sym f ∙ e)) (omega (arith, p.within))

  pub line-asked : (asked : FirstLine) → line ≡ Ok asked → PutWithin 69632 (plan_of asked.count (drop asked.next input)) 0 before after r → PutWithin 69632 (stations_of input) 0 before after r
  unfolding stations_of
  line-asked asked f p = within-as 69632 _ p.put (ap (judged_of input) (sym f ∙ e)) (omega (arith, p.within))

-- the path of a line that asks starts past it
pub asked-past : {start : ℕ} {line : Result FirstLine Refusal} (asked : FirstLine) → line ≡ Ok asked → start ≡ past_of line 0 → asked.next ≡ start
unfolding past_of
asked-past asked f p = sym (p ∙ ap (λ (l : Result FirstLine Refusal). past_of l 0) f)

-- ---- what reading refuses

-- is what is printed
printed :
    (text : List ℕ) (count : ℕ) (reason : Refusal) (outcome : Outcome) → limited text outcome ≡ refusal reason
    → refusal_line reason ≡ read_of count (offsets_of text) outcome
unfolding read_of
printed text count reason (refusal other) e = let f : reason ≡ other = cc in ap refusal_line f
printed text count reason (commands list) e = by (ltb 256 (length (letters_of list))) refl e
  where
    by : (b : Bool) → ltb 256 (length (letters_of list)) ≡ b → cond b (refusal (crowd text list)) (commands list) ≡ refusal reason → refusal_line reason ≡ read_of count (offsets_of text) (commands list)
    by true g f = let h : reason ≡ crowd text list = cc in rw g (ap refusal_line h)
    by false g f = cc

-- what reading refuses is what is printed
pub refused-as :
    (text : List ℕ) (short : length text ≤ 4096) (count : ℕ) (reason : Refusal) → refused reason ≡ answered text (read_path_of text 256 1792 256)
    → refusal_line reason ≡ read_of count (offsets_of text) (commands_of text)
refused-as text short count reason e =
    printed text count reason (commands_of text)
    (sym (texts.read-limited text short) ∙ texts.refused_as text short reason (read_path_of text 256 1792 256) e)

-- ---- the text

module _ (input : List ℕ) (start : ℕ) where
  abbrev text : List ℕ
  text = drop start input

  bytes_left : length text ≡ length input - start
  bytes_left = length-drop start input

  module _ (count : ℕ) {before after : List ℕ} {r : ℕ} where
    pub too_long : 4096 < length input - start → PutWithin 134 (refusal_line (TooLong 4097)) 0 before after r → PutWithin 69632 (plan_of count text) 0 before after r
    unfolding plan_of
    too_long h p = within-as 69632 _ p.put (rw (lt-ltb 4096 (length text) (omega (arith, bytes_left))) refl) (omega (arith, p.within))

  module _ (h : length input - start ≤ 4096) {stood left : CommandList} {reading : Result Counts Refusal} (lent : ReadPath (take (length input - start) text) stood reading left) (own : Spare stood) where
    short-text : length text ≤ 4096
    short-text = omega (arith, bytes_left)

    -- all that follows the first line is read
    said : ReadPath text stood reading left
    said = subst (λ (t : List ℕ). ReadPath t stood reading left) (take_all (length input - start) text (omega (arith, bytes_left))) lent

    pub not-read : (count : ℕ) {before after : List ℕ} {r : ℕ} {reason : Refusal} → reading ≡ Err reason → PutWithin 134 (refusal_line reason) 0 before after r
        → PutWithin 69632 (plan_of count text) 0 before after r
    unfolding plan_of
    not-read count {reason = reason} e p =
        within-as 69632 _ p.put (rw (le-ltb 4096 (length text) short-text) (printed text count reason (commands_of text) (texts.not-read text short-text said own e))) (omega (arith, p.within))

    module _ {counts : Counts} (e : reading ≡ Ok counts) where
      pub letters-most : counts.letters ≤ 256
      letters-most = texts.letters-most text short-text said own e

      pub numbers-most : counts.numbers ≤ 1792
      numbers-most = texts.numbers-most text short-text said own e

      pub held : Held text (stored_list (take counts.letters left.letters) (take counts.numbers left.numbers))
      held = texts.held text short-text said own e
