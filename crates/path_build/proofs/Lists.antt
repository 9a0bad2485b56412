-- The commands of a well-formed list, passed one by one. Assumes nothing.
use Prim.Native.Nat.{ℕ, ◌+◌, ◌≤◌, ◌<◌}
use mathlib.Core.Path.{◌≡◌, refl, sym, ap, ◌∙◌}
use mathlib.Core.Bool.{Bool, true, false, cond}
use mathlib.Core.List.{List, [], ◌∷◌, ◌++◌, append_assoc, append-nil}
use native.Mathlib.Omega.{arith}
use borrow.Author.Tests.{ltb-true, ltb-false, le-ltb}
use lib.Dec.{ltb}
use lib.ListN.{length, get_or, drop, length-append, length-drop}
use Rattle.std.specs.Prelude.{Option, Some, None}
use Rattle.answers.specs.Answers.{refused, accepted}
use Rattle.answers.specs.declared.refusals.Refusal.{Refusal}
use Rattle.answers.specs.declared.refusals.Refusal.TheVariants.{BadList, Range}
use Rattle.answers.proofs.Settled.{refused-settled, refused-not-accepted}
use Rattle.commands.specs.Stored.{arguments_of}
use Rattle.commands.specs.Listed.{command_of, Listing, well_formed, malformed, prepend}
use Rattle.commands.specs.Checked.{judged, check_commands_of}
use Rattle.commands.specs.declared.command.PathCommand.{PathCommand}
use Rattle.commands.proofs.ReadBack.{read_back, length-letters}
use Rattle.commands.proofs.Listing.{command-fits, listed_from, from_next, from-bad, from-left-over, from_end}
use Rattle.path_segment.specs.declared.segments.PathSegment.{PathSegment}
use Rattle.path_drawing.specs.Building.{path, refusal, build_of, drawers_of}
use Rattle.path_build.specs.Lists.{StoredList, list_for, listing_of, WellFormed}
use Rattle.path_build.specs.Paths.{built_by, drawers_by, build_list_of, drawers_list_of}

-- ---- a list of not too many commands, which reads back

pub record Formed (list : StoredList) : Type 0 where
  pub few : length list.letters ≤ 65536
  pub commands : List PathCommand
  pub is : listing_of list ≡ well_formed commands

module _ (list : StoredList) where
  abbrev size : ℕ
  size = length list.letters

  -- one that passes the check
  pub formed : WellFormed list → Formed list
  unfolding check_commands_of
  formed = by_size (ltb 65536 size) refl
    where
      by-listing : size ≤ 65536 → (l : Listing) → listing_of list ≡ l → judged l ≡ accepted [] → Formed list
      by-listing few (well_formed commands) e f = record { few = few; commands = commands; is = e }
      by-listing few (malformed k) e f = absurd (refused-not-accepted (BadList k) [] f)

      by_size : (b : Bool) → ltb 65536 size ≡ b → cond b (refused (Range size)) (judged (listing_of list)) ≡ accepted [] → Formed list
      by_size true e f = absurd (refused-not-accepted (Range size) [] f)
      by_size false e f = by-listing (ltb-false 65536 size e) (listing_of list) refl f

  -- one that does not is refused for the same reason
  pub not-formed : {reason : Refusal} → refused reason ≡ check_commands_of list.letters list.numbers → build_list_of list ≡ refusal reason
  unfolding check_commands_of build_list_of
  not-formed {reason} = by_size (ltb 65536 size)
    where
      by-listing : (l : Listing) → refused reason ≡ judged l → built_by l ≡ refusal reason
      by-listing (well_formed commands) f = absurd (refused-not-accepted reason [] f)
      by-listing (malformed k) f = ap refusal (sym (refused-settled reason (BadList k) f))

      by_size : (b : Bool) → refused reason ≡ cond b (refused (Range size)) (judged (listing_of list)) → cond b (refusal (Range size)) (built_by (listing_of list)) ≡ refusal reason
      by_size true f = ap refusal (sym (refused-settled reason (Range size) f))
      by_size false f = by-listing (listing_of list) f

  -- and one that builds is well formed
  pub built-formed : {segments : List PathSegment} → build_list_of list ≡ path segments → Formed list
  unfolding build_list_of
  built-formed {segments} = by_size (ltb 65536 size) refl
    where
      by-listing : size ≤ 65536 → (l : Listing) → listing_of list ≡ l → built_by l ≡ path segments → Formed list
      by-listing few (well_formed commands) e f = record { few = few; commands = commands; is = e }
      by-listing few (malformed k) e f = cc

      by_size : (b : Bool) → ltb 65536 size ≡ b → cond b (refusal (Range size)) (built_by (listing_of list)) ≡ path segments → Formed list
      by_size true e f = cc
      by_size false e f = by-listing (ltb-false 65536 size e) (listing_of list) refl f

pub formed-builds : {list : StoredList} (f : Formed list) → build_list_of list ≡ build_of f.commands
unfolding build_list_of
formed-builds {list} f = rw (le-ltb 65536 (length list.letters) f.few) (ap built_by f.is)

-- what commands are stored as builds what they build
module _ (commands : List PathCommand) where
  pub stored-builds : length commands ≤ 65536 → build_list_of (list_for commands) ≡ build_of commands
  stored-builds few = formed-builds (record { few = omega (arith, length-letters commands); commands = commands; is = read_back 0 commands })

  pub stored-drawers : drawers_list_of (list_for commands) ≡ drawers_of commands
  stored-drawers = ap drawers_by (read_back 0 commands)

-- ---- its first commands passed

-- the command whose letter and numbers stand here
abbrev pub letter_in : StoredList → ℕ → ℕ
letter_in list letter_at = get_or list.letters letter_at 0

abbrev pub decoded_at : StoredList → ℕ → ℕ → Option PathCommand
decoded_at list letter_at at = command_of (letter_in list letter_at) (drop at list.numbers)

-- the commands from here on
abbrev pub listing_from : StoredList → ℕ → ℕ → Listing
listing_from list letter_at at = listed_from list.letters list.numbers letter_at at

-- `commands` are passed, up to a letter and a number, and `rest` is to come
pub record Passed (list : StoredList) (letter_at at : ℕ) (commands rest : List PathCommand) : Type 0 where
  pub few : length list.letters ≤ 65536
  pub whole : listing_of list ≡ well_formed (commands ++ rest)
  pub left : listing_from list letter_at at ≡ well_formed rest
  pub count : length commands ≡ letter_at
  pub within : letter_at ≤ length list.letters
  pub inside : at ≤ length list.numbers

pub passed_none : {list : StoredList} (f : Formed list) → Passed list 0 0 [] f.commands
unfolding listed_from
passed_none f = record { few = f.few; whole = f.is; left = f.is; count = refl; within = omega arith; inside = omega arith }

module _ {list : StoredList} {letter_at at : ℕ} {commands rest : List PathCommand} (p : Passed list letter_at at commands rest) where
  pub passed-builds : build_list_of list ≡ build_of (commands ++ rest)
  passed-builds = formed-builds (record { few = p.few; commands = commands ++ rest; is = p.whole })

  -- the letters are passed
  passed-end : length list.letters ≤ letter_at → rest ≡ []
  passed-end past = by_order (ltb at (length list.numbers)) refl
    where
      by_order : (b : Bool) → ltb at (length list.numbers) ≡ b → rest ≡ []
      by_order true e =
          let l = sym (from-left-over list.letters list.numbers letter_at at past (ltb-true at (length list.numbers) e)) ∙ p.left in
          cc
      by_order false e =
          let l = sym (from_end list.letters list.numbers letter_at at past (ltb-false at (length list.numbers) e)) ∙ p.left in
          let f : rest ≡ [] = cc in f

  module _ (past : length list.letters ≤ letter_at) where
    all : commands ++ rest ≡ commands
    all = ap (λ x. commands ++ x) (passed-end past) ∙ append-nil commands

    pub all-built : build_list_of list ≡ build_of commands
    all-built = passed-builds ∙ ap build_of all

    pub all-drawers : drawers_list_of list ≡ drawers_of commands
    all-drawers = ap drawers_by p.whole ∙ ap drawers_of all

  module _ (here : letter_at < length list.letters) where
    pub passed-bad : decoded_at list letter_at at ≡ None → ⊥
    passed-bad e =
        let l = sym (from-bad list.letters list.numbers letter_at at here e) ∙ p.left in
        cc

    module _ {command : PathCommand} (e : decoded_at list letter_at at ≡ Some command) where
      pub passed-fits : at + length (arguments_of command) ≤ length list.numbers
      passed-fits =
          let h = command-fits (drop at list.numbers) (letter_in list letter_at) command e in
          omega (arith, simp length-drop at h, p.inside)

      pub passed-next : {width : ℕ} → width ≡ length (arguments_of command) → (more : List PathCommand) × Passed list (letter_at + 1) (at + width) (commands ++ (command ∷ [])) more
      passed-next {width} w =
          by-listing (listing_from list (letter_at + 1) (at + length (arguments_of command))) refl (sym (from_next list.letters list.numbers letter_at at here command e) ∙ p.left)
        where
          by-listing :
              (l : Listing) → listing_from list (letter_at + 1) (at + length (arguments_of command)) ≡ l → prepend command l ≡ well_formed rest
              → (more : List PathCommand) × Passed list (letter_at + 1) (at + width) (commands ++ (command ∷ [])) more
          by-listing (well_formed more) f g =
              let r : rest ≡ command ∷ more = cc in (
                more,
                record {
                  few = p.few;
                  whole = p.whole ∙ ap (λ x. well_formed (commands ++ x)) r ∙ ap well_formed (sym (append_assoc commands (command ∷ []) more));
                  left = rw w f;
                  count = length-append commands (command ∷ []) ∙ ap (λ n. n + 1) p.count;
                  within = omega arith;
                  inside = omega (arith, passed-fits, w);
                },
              )
          by-listing (malformed k) f g = cc
