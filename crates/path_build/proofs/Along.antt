-- The two passes over a command list: what each knows between two commands, and what a command does to that. Assumes nothing.
use Prim.Native.Nat.{ℕ, ◌+◌, ◌≤◌, ◌<◌}
use mathlib.Core.Path.{◌≡◌, refl, sym, ap, subst, ◌∙◌}
use mathlib.Core.List.{List, [], ◌∷◌, ◌++◌}
use native.Mathlib.Omega.{arith}
use lib.ListN.{length, drop}
use Rattle.std.specs.Prelude.{Option, Some, None, Result, Ok, Err}
use Rattle.answers.specs.declared.refusals.Refusal.{Refusal}
use Rattle.commands.specs.Stored.{arguments_of}
use Rattle.commands.specs.declared.command.PathCommand.{PathCommand}
use Rattle.path_segment.specs.declared.segments.PathSegment.{PathSegment}
use Rattle.path_stored.specs.Buffers.{Buffers}
use Rattle.path_drawing.specs.Drawing.{draw_of}
use Rattle.path_drawing.specs.Building.{Built, path, refusal, build_of, drawers_of}
use Rattle.path_storing.specs.Sites.{start_of, advance_of, drawn_by, FewAt, Holds, Room, Laid}
use Rattle.path_storing.specs.Tallies.{tally_of, FewIn, tallied_of}
use Rattle.path_storing.specs.declared.sites.Site.{Site}
use Rattle.path_storing.specs.declared.sites.Sizes.{Sizes}
use Rattle.path_storing.specs.declared.tallies.Tally.{Tally}
use Rattle.path_storing.proofs.Along.{At, at_none, at-few, at_all, at_next, at-refused}
use Rattle.path_storing.proofs.Judged.{room_at, laid-at}
use Rattle.path_storing.proofs.Filling.{Filling, filling-none, filling-more, roomed, same-kinds, same-fields, same_tables, same-lengths, same-commands}
use Rattle.path_storing.proofs.Foreseen.{Calm, calm-start, foreseen}
use Rattle.path_build.specs.Lists.{StoredList}
use Rattle.path_build.specs.Answers.{measure_of, Holding, Filled}
use Rattle.path_build.specs.Paths.{build_list_of, drawers_list_of}
use Rattle.path_build.specs.Letters.{stride_of, drawn_at}
use Rattle.path_build.proofs.Letters.{stride-is, drawn-command}
use Rattle.path_build.proofs.Lists.{Formed, built-formed, letter_in, decoded_at, Passed, passed_none, passed-builds, all-built, all-drawers, passed-bad, passed-fits, passed-next}

-- ---- the counts of what is built

pub counts-are :
    {commands : List PathCommand} {done : List PathSegment} {site : Site} {built : Built} → At commands done site → built ≡ path done
    → Ok site.sizes ≡ measure_of built
unfolding measure_of
counts-are k e = rw e (rw (← k.kinds, ← k.fields, ← k.tables))

pub refused-is : {reason : Refusal} {built : Built} → built ≡ refusal reason → Err reason ≡ measure_of built
unfolding measure_of
refused-is e = rw e

-- ---- the first pass

pub record Measuring (list : StoredList) (site : Site) (letter_at at : ℕ) : Type 0 where
  pub commands : List PathCommand
  pub rest : List PathCommand
  pub passed : Passed list letter_at at commands rest
  pub done : List PathSegment
  pub known : At commands done site

pub measuring-none : {list : StoredList} → Formed list → Measuring list start_of 0 0
measuring-none f = record { commands = []; rest = f.commands; passed = passed_none f; done = []; known = at_none }

module _ {list : StoredList} {site : Site} {letter_at at : ℕ} (k : Measuring list site letter_at at) where
  pub measuring-inside : at ≤ length list.numbers
  measuring-inside = k.passed.inside

  pub measured-all : length list.letters ≤ letter_at → Ok site.sizes ≡ measure_of (build_list_of list)
  measured-all past = counts-are k.known (all-built k.passed past ∙ at_all k.known)

  module _ (here : letter_at < length list.letters) where
    pub measuring-few : FewAt site
    measuring-few = at-few k.known (omega (arith, k.passed.few, k.passed.count))

    pub measuring-bad : decoded_at list letter_at at ≡ None → ⊥
    measuring-bad = passed-bad k.passed here

    module _ {command : PathCommand} (e : decoded_at list letter_at at ≡ Some command) where
      pub measuring-fits : at + length (arguments_of command) ≤ length list.numbers
      measuring-fits = passed-fits k.passed here e

      pub measured-refused : {reason : Refusal} → advance_of site command ≡ Err reason → Err reason ≡ measure_of (build_list_of list)
      measured-refused {reason} a =
          let n = passed-next k.passed here e refl in
          refused-is (passed-builds n.1 ∙ at-refused k.known command reason a n.0)

      pub measuring-more : {width : ℕ} {next : Site} → width ≡ length (arguments_of command) → advance_of site command ≡ Ok next → Measuring list next (letter_at + 1) (at + width)
      measuring-more {width} {next} w a =
          let n = passed-next k.passed here e w in
          record {
            commands = k.commands ++ (command ∷ []);
            rest = n.0;
            passed = n.1;
            done = k.done ++ drawn_by (draw_of site.pen command);
            known = at_next k.known command next a;
          }

-- ---- the first pass, where nothing is measured: a site that the tally is of

pub record Surveying (list : StoredList) (tally : Tally) (letter_at at : ℕ) : Type 0 where
  pub site : Site
  pub same : tally_of site ≡ tally
  pub calm : Calm site
  pub measuring : Measuring list site letter_at at

pub surveying-none : {list : StoredList} → Formed list → Surveying list (tally_of start_of) 0 0
surveying-none f = record { site = start_of; same = refl; calm = calm-start; measuring = measuring-none f }

-- what a tally of such a site says
pub counted-at :
    (site : Site) {tally : Tally} {size : Result Sizes Refusal} → tally_of site ≡ tally → Ok site.sizes ≡ size
    → Ok tally.sizes ≡ size
unfolding tally_of
counted-at site {tally} {size} e h = subst (λ (t : Tally). Ok t.sizes ≡ size) e h

pub few-in : (site : Site) {tally : Tally} → tally_of site ≡ tally → FewAt site → FewIn tally
unfolding tally_of
few-in site e few = subst FewIn e few

module _ {list : StoredList} {tally : Tally} {letter_at at : ℕ} (k : Surveying list tally letter_at at) where
  pub surveying-inside : at ≤ length list.numbers
  surveying-inside = k.measuring.passed.inside

  pub surveyed-all : length list.letters ≤ letter_at → Ok tally.sizes ≡ measure_of (build_list_of list)
  surveyed-all past = counted-at k.site k.same (measured-all k.measuring past)

  module _ (here : letter_at < length list.letters) where
    few : FewAt k.site
    few = measuring-few k.measuring here

    pub surveying-few : FewIn tally
    surveying-few = few-in k.site k.same few

    module _ {command : PathCommand} (e : decoded_at list letter_at at ≡ Some command) where
      pub surveying-fits : at + length (arguments_of command) ≤ length list.numbers
      surveying-fits = measuring-fits k.measuring here e

      pub surveying-more : {width : ℕ} {next : Tally} → width ≡ length (arguments_of command) → tallied_of tally command ≡ Some next → Surveying list next (letter_at + 1) (at + width)
      surveying-more {width} {next} w a =
          let f = foreseen k.site few k.calm command next (ap (λ t. tallied_of t command) k.same ∙ a) in
          record { site = f.0; same = f.2; calm = f.3; measuring = measuring-more k.measuring here e w f.1 }

-- ---- the second pass

pub record Holdable (built : Built) (b : Buffers) : Type 0 where
  pub list : List PathSegment
  pub is : built ≡ path list
  pub holds : Holds list b

pub holdable : (built : Built) {b : Buffers} → Holding built b → Holdable built b
holdable (path list) h = record { list = list; is = refl; holds = h }
holdable (refusal reason) h = absurd h

-- what is stored is what is built
pub filled_is :
    {built : Built} {drawers : List ℕ} {commands : List PathCommand} {site : Site} {b₀ b : Buffers} (k : Filling commands site b₀ b) → built ≡ build_of commands
    → drawers ≡ drawers_of commands → Filled built drawers b₀ b
filled_is {built} {drawers} {commands} {site} {b₀} {b} k e d =
    subst (λ (x : Built). Filled x drawers b₀ b) (sym (e ∙ at_all k.known)) (rw d k.now)

pub record Storing (list : StoredList) (site : Site) (letter_at at : ℕ) (b₀ b : Buffers) : Type 0 where
  pub commands : List PathCommand
  pub rest : List PathCommand
  pub passed : Passed list letter_at at commands rest
  pub filling : Filling commands site b₀ b

pub storing-none : (list : StoredList) {b : Buffers} → Holding (build_list_of list) b → Storing list start_of 0 0 b b
storing-none list {b} holding =
    let f = built-formed list (holdable (build_list_of list) holding).is in
    record { commands = []; rest = f.commands; passed = passed_none f; filling = filling-none b }

module _ {list : StoredList} {site : Site} {letter_at at : ℕ} {b₀ b : Buffers} (k : Storing list site letter_at at b₀ b) (holding : Holding (build_list_of list) b₀) where
  h : Holdable (build_list_of list) b₀
  h = holdable (build_list_of list) holding

  -- what the commands passed and those to come build
  whole : {letter_at at : ℕ} {commands rest : List PathCommand} → Passed list letter_at at commands rest → build_of (commands ++ rest) ≡ path h.list
  whole p = sym (passed-builds p) ∙ h.is

  pub stored-kinds : length b.kinds ≡ length b₀.kinds
  stored-kinds = same-kinds k.filling h.holds k.rest (whole k.passed)

  pub stored-fields : length b.fields ≡ length b₀.fields
  stored-fields = same-fields k.filling h.holds k.rest (whole k.passed)

  pub stored-tables : length b.tables ≡ length b₀.tables
  stored-tables = same_tables k.filling h.holds k.rest (whole k.passed)

  pub stored-lengths : length b.lengths ≡ length b₀.lengths
  stored-lengths = same-lengths k.filling h.holds k.rest (whole k.passed)

  pub stored-commands : length b.commands ≡ length b₀.commands
  stored-commands = same-commands k.filling h.holds k.rest (whole k.passed)

  pub stored-all : length list.letters ≤ letter_at → Filled (build_list_of list) (drawers_list_of list) b₀ b
  stored-all past = filled_is k.filling (all-built k.passed past) (all-drawers k.passed past)

  module _ (here : letter_at < length list.letters) where
    pub storing-number : letter_at < 65536
    storing-number = omega (arith, k.passed.few)

    module _ {command : PathCommand} (e : decoded_at list letter_at at ≡ Some command) where
      -- what `lay` asks
      storing-room : FewAt site × Room site (draw_of site.pen command) b
      storing-room =
          let n = passed-next k.passed here e refl in (
            at-few k.filling.known (omega (arith, k.passed.few, k.passed.count)),
            roomed k.filling h.holds command n.0 (whole n.1),
          )

      storing-more : {width : ℕ} {next : Site} {b' : Buffers} → width ≡ length (arguments_of command) → Laid site letter_at (draw_of site.pen command) b next b'
          → Storing list next (letter_at + 1) (at + width) b₀ b'
      storing-more {width} {next} {b'} w laid =
          let n = passed-next k.passed here e w in
          record {
            commands = k.commands ++ (command ∷ []);
            rest = n.0;
            passed = n.1;
            filling = filling-more k.filling h.holds command n.0 (whole n.1)
                (subst (λ m. Laid site m (draw_of site.pen command) b next b') (sym k.passed.count) laid);
          }

    -- the same by its letter
    decoded : (command : PathCommand) × (decoded_at list letter_at at ≡ Some command)
    decoded = by (decoded_at list letter_at at) refl
      where
        by : (d : Option PathCommand) → decoded_at list letter_at at ≡ d → (command : PathCommand) × (decoded_at list letter_at at ≡ Some command)
        by (Some command) e = (command, e)
        by None e = absurd (passed-bad k.passed here e)

    stride-here : stride_of (letter_in list letter_at) ≡ length (arguments_of decoded.0)
    stride-here = stride-is (drop at list.numbers) (letter_in list letter_at) decoded.0 decoded.1

    -- what `lay_at` asks
    pub storing-asks : (at + stride_of (letter_in list letter_at) ≤ length list.numbers) × FewAt site × Room site (drawn_at site.pen (decoded_at list letter_at at)) b
    storing-asks =
        let d = decoded in
        let r = storing-room d.1 in
        (omega (arith, passed-fits k.passed here d.1, stride-here), r.0, room_at (sym (drawn-command site.pen d.1)) r.1)

    pub storing-next : {width : ℕ} {next : Site} {b' : Buffers} → width ≡ stride_of (letter_in list letter_at)
        → Laid site letter_at (drawn_at site.pen (decoded_at list letter_at at)) b next b'
        → Storing list next (letter_at + 1) (at + width) b₀ b'
    storing-next w laid = let d = decoded in storing-more d.1 (w ∙ stride-here) (laid-at (sym (drawn-command site.pen d.1)) laid)
