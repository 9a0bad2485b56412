-- What a text builds, judged way by way. Assumes nothing.
use Prim.Native.Nat.{ℕ, ◌≤◌, ◌<◌}
use mathlib.Core.Path.{◌≡◌, refl, sym, ap, ◌∙◌}
use mathlib.Core.Bool.{Bool, true, false, cond}
use mathlib.Core.List.{List}
use native.Mathlib.Omega.{arith}
use borrow.Author.Tests.{lt-ltb, le-ltb, ltb-false}
use lib.Dec.{ltb}
use lib.ListN.{length}
use Rattle.std.specs.Prelude.{Result, Err}
use Rattle.answers.specs.declared.refusals.Refusal.{Refusal}
use Rattle.answers.specs.declared.refusals.Refusal.TheVariants.{TooLong}
use Rattle.commands.specs.declared.command.PathCommand.{PathCommand}
use Rattle.svg.specs.Texts.{Outcome, commands, refusal as unread, commands_of}
use Rattle.svg.proofs.Texts.{commands-few}
use Rattle.path_segment.specs.declared.segments.PathSegment.{PathSegment}
use Rattle.path_drawing.specs.Building.{path, refusal, build_of}
use Rattle.path_build.specs.Lists.{list_for}
use Rattle.path_build.specs.Answers.{roomed, measure_of}
use Rattle.path_build.specs.Paths.{drawers_list_of, build_path_of}
use Rattle.path_build.specs.declared.room.Counts.{Counts}
use Rattle.path_storing.specs.declared.sites.Sizes.{Sizes}
use Rattle.path_build.proofs.Lists.{stored-builds, stored-drawers}
use Rattle.path_build.proofs.Along.{refused-is}
use Rattle.path_text.specs.Builds.{built_from, drawers_in, build_read_of, build_text_of}

-- a text that builds is short and reads
pub record Reads (text : List ℕ) (segments : List PathSegment) : Type 0 where
  pub short : length text ≤ 65536
  pub list : List PathCommand
  pub is : commands_of text ≡ commands list
  pub builds : build_of list ≡ path segments

module _ (text : List ℕ) where
  pub reads : {segments : List PathSegment} → build_read_of text ≡ path segments → Reads text segments
  unfolding build_read_of
  reads {segments} = by_length (ltb 65536 (length text)) refl
    where
      by-outcome : length text ≤ 65536 → (outcome : Outcome) → commands_of text ≡ outcome → built_from outcome ≡ path segments → Reads text segments
      by-outcome short (commands list) e f = record { short = short; list = list; is = e; builds = f }
      by-outcome short (unread reason) e f = cc

      by_length : (b : Bool) → ltb 65536 (length text) ≡ b → cond b (refusal (TooLong (length text))) (built_from (commands_of text)) ≡ path segments → Reads text segments
      by_length true e f = cc
      by_length false e f = by-outcome (ltb-false 65536 (length text) e) (commands_of text) refl f

  -- ---- the length first

  pub too_long : 65536 < length text → Err (TooLong (length text)) ≡ measure_of (build_read_of text)
  unfolding build_read_of
  too_long h = let e : build_read_of text ≡ refusal (TooLong (length text)) = rw (lt-ltb 65536 (length text) h) in refused-is e

  pub short-reads : length text ≤ 65536 → build_read_of text ≡ built_from (commands_of text)
  unfolding build_read_of
  short-reads h = rw (le-ltb 65536 (length text) h)

  pub short-size : {size : Result Sizes Refusal} → length text ≤ 65536 → size ≡ measure_of (built_from (commands_of text)) → size ≡ measure_of (build_read_of text)
  short-size h e = e ∙ ap measure_of (sym (short-reads h))

  -- ---- reading before building

  -- the text does not read
  pub unread-size : {reason : Refusal} → commands_of text ≡ unread reason → Err reason ≡ measure_of (built_from (commands_of text))
  unread-size e = refused-is (ap built_from e)

  -- it reads, and a segment is refused
  pub unbuilt-size :
      {reason : Refusal} {list : List PathCommand} → ((list : List PathCommand) → commands_of text ≡ commands list → build_of list ≡ refusal reason)
      → commands_of text ≡ commands list → Err reason ≡ measure_of (built_from (commands_of text))
  unbuilt-size {reason} {list} f e = refused-is (ap built_from e ∙ f list e)

  -- ---- "equal to reading and building after each other": building the stored list of what is read
  module _ (list : List PathCommand) (e : commands_of text ≡ commands list) where
    pub after-each-other : (lent : Counts) → length text ≤ 65536 → build_text_of text lent ≡ build_path_of (list_for list) lent
    after-each-other lent h = ap (roomed lent) (short-reads h ∙ ap built_from e ∙ sym (stored-builds list (omega (arith, commands-few text list e))))

    pub numbered-after-each-other : drawers_in (commands_of text) ≡ drawers_list_of (list_for list)
    numbered-after-each-other = ap drawers_in e ∙ sym (stored-drawers list)
