-- The two passes over a text: what each knows between two commands, and what a step does to that. Assumes nothing.
use Prim.Native.Nat.{ℕ, ◌+◌, ◌≤◌, ◌<◌}
use mathlib.Core.Path.{◌≡◌, refl, sym, ap, subst, ◌∙◌}
use mathlib.Core.List.{List, [], ◌∷◌, ◌++◌}
use native.Mathlib.Omega.{arith}
use lib.ListN.{length, length-append}
use Rattle.std.specs.Prelude.{Some, None, Ok, Err}
use Rattle.answers.specs.declared.refusals.Refusal.{Refusal}
use Rattle.commands.specs.declared.command.PathCommand.{PathCommand}
use Rattle.path_stored.specs.Buffers.{Buffers}
use Rattle.path_segment.specs.declared.segments.PathSegment.{PathSegment}
use Rattle.svg_step.specs.Steps.{fresh_of, read_step_of}
use Rattle.svg.specs.Texts.{Outcome, commands, refusal as unread, read_from, commands_of}
use Rattle.svg_step.specs.declared.steps.Reader.{Reader}
use Rattle.svg_step.specs.declared.steps.Stepped.{Stepped}
use Rattle.svg_step.proofs.Ahead.{step-ahead}
use Rattle.svg.proofs.PassLaws.{onto as onto_commands, Known, known-none, known-all, known-refused, known_more}
use Rattle.path_drawing.specs.Drawing.{draw_of}
use Rattle.path_drawing.specs.Building.{path, refusal, build_of}
use Rattle.path_storing.specs.Sites.{start_of, advance_of, drawn_by, FewAt, Room, Laid}
use Rattle.path_storing.specs.Tallies.{tally_of, FewIn, tallied_of}
use Rattle.path_storing.specs.declared.sites.Site.{Site}
use Rattle.path_storing.specs.declared.tallies.Tally.{Tally}
use Rattle.path_storing.proofs.Along.{At, at_none, at-few, at_all, at_next, at-refused}
use Rattle.path_storing.proofs.Filling.{Filling, filling-none, filling-more, roomed, same-kinds, same-fields, same_tables, same-lengths, same-commands}
use Rattle.path_storing.proofs.Foreseen.{Calm, calm-start, foreseen}
use Rattle.path_build.specs.Answers.{measure_of, Holding, Filled}
use Rattle.path_build.proofs.Along.{counts-are, counted-at, few-in, Holdable, holdable, filled_is}
use Rattle.path_text.specs.Builds.{built_from, drawers_in, build_read_of}
use Rattle.path_text.proofs.Entering.{Reads, reads, short-reads}

-- the rest of a text whose first commands are known
rest_of : (done list : List PathCommand) (outcome : Outcome) → onto_commands done outcome ≡ commands list → (rest : List PathCommand) × (list ≡ done ++ rest)
rest_of done list (commands rest) e = (rest, let f : list ≡ done ++ rest = cc in f)
rest_of done list (unread reason) e = cc

-- ---- the first pass

pub record Measuring (text : List ℕ) (reader : Reader) (site : Site) : Type 0 where
  pub passed : List PathCommand
  pub known : Known text reader passed
  pub few : length passed ≤ reader.at
  pub done : List PathSegment
  pub drawn : At passed done site

pub measuring-none : (text : List ℕ) → Measuring text fresh_of start_of
measuring-none text = record { passed = []; known = known-none text; few = omega arith; done = []; drawn = at_none }

module _ {text : List ℕ} {reader : Reader} {site : Site} (k : Measuring text reader site) where
  pub measured-all : read_step_of text reader ≡ Ok None → Ok site.sizes ≡ measure_of (built_from (commands_of text))
  measured-all e = counts-are k.drawn (ap built_from (known-all text reader k.passed k.known e) ∙ at_all k.drawn)

  pub measured-unread : {reason : Refusal} → read_step_of text reader ≡ Err reason → commands_of text ≡ unread reason
  measured-unread {reason} e = known-refused text reader k.passed k.known reason e

  module _ {step : Stepped} (e : read_step_of text reader ≡ Ok (Some step)) where
    more : Known text step.next (k.passed ++ (step.command ∷ []))
    more = known_more text reader k.passed k.known step e

    pub measuring-few : length text ≤ 65536 → FewAt site
    measuring-few h = at-few k.drawn (omega (arith, step-ahead text reader step e, k.few))

    pub measured-unbuilt : {reason : Refusal} → advance_of site step.command ≡ Err reason → (list : List PathCommand) → commands_of text ≡ commands list → build_of list ≡ refusal reason
    measured-unbuilt {reason} a list c =
        let r = rest_of (k.passed ++ (step.command ∷ [])) list (read_from more.steps text step.next) (sym more.whole ∙ c) in
        ap build_of r.1 ∙ at-refused k.drawn step.command reason a r.0

    pub measuring-more : {further : Site} → advance_of site step.command ≡ Ok further → Measuring text step.next further
    measuring-more {further} a =
        record {
          passed = k.passed ++ (step.command ∷ []);
          known = more;
          few = omega (arith, length-append k.passed (step.command ∷ []), step-ahead text reader step e, k.few);
          done = k.done ++ drawn_by (draw_of site.pen step.command);
          drawn = at_next k.drawn step.command further a;
        }

-- ---- the first pass, where nothing is measured: a site that the tally is of

pub record Surveying (text : List ℕ) (reader : Reader) (tally : Tally) : Type 0 where
  pub site : Site
  pub same : tally_of site ≡ tally
  pub calm : Calm site
  pub measuring : Measuring text reader site

pub surveying-none : (text : List ℕ) → Surveying text fresh_of (tally_of start_of)
surveying-none text = record { site = start_of; same = refl; calm = calm-start; measuring = measuring-none text }

module _ {text : List ℕ} {reader : Reader} {tally : Tally} (k : Surveying text reader tally) where
  pub surveyed-all : read_step_of text reader ≡ Ok None → Ok tally.sizes ≡ measure_of (built_from (commands_of text))
  surveyed-all e = counted-at k.site k.same (measured-all k.measuring e)

  module _ {step : Stepped} (e : read_step_of text reader ≡ Ok (Some step)) (short : length text ≤ 65536) where
    few : FewAt k.site
    few = measuring-few k.measuring e short

    pub surveying-few : FewIn tally
    surveying-few = few-in k.site k.same few

    pub surveying-more : {further : Tally} → tallied_of tally step.command ≡ Some further → Surveying text step.next further
    surveying-more {further} a =
        let f = foreseen k.site few k.calm step.command further (ap (λ t. tallied_of t step.command) k.same ∙ a) in
        record { site = f.0; same = f.2; calm = f.3; measuring = measuring-more k.measuring e f.1 }

-- ---- the second pass

pub record Storing (text : List ℕ) (reader : Reader) (site : Site) (number : ℕ) (b₀ b : Buffers) : Type 0 where
  pub passed : List PathCommand
  pub known : Known text reader passed
  pub few : length passed ≤ reader.at
  pub count : length passed ≡ number
  pub filling : Filling passed site b₀ b

pub storing-none : (text : List ℕ) (b : Buffers) → Storing text fresh_of start_of 0 b b
storing-none text b = record { passed = []; known = known-none text; few = omega arith; count = refl; filling = filling-none b }

module _ {text : List ℕ} {reader : Reader} {site : Site} {number : ℕ} {b₀ b : Buffers} (k : Storing text reader site number b₀ b) (holding : Holding (build_read_of text) b₀) where
  h : Holdable (build_read_of text) b₀
  h = holdable (build_read_of text) holding

  all : Reads text h.list
  all = reads text h.is

  -- what the commands passed and those to come build
  whole : (done : List PathCommand) (at : Reader) → Known text at done → (rest : List PathCommand) × (build_of (done ++ rest) ≡ path h.list)
  whole done at w =
      let r = rest_of done all.list (read_from w.steps text at) (sym w.whole ∙ all.is) in
      (r.0, ap build_of (sym r.1) ∙ all.builds)

  here : (rest : List PathCommand) × (build_of (k.passed ++ rest) ≡ path h.list)
  here = whole k.passed reader k.known

  pub stored-kinds : length b.kinds ≡ length b₀.kinds
  stored-kinds = same-kinds k.filling h.holds here.0 here.1

  pub stored-fields : length b.fields ≡ length b₀.fields
  stored-fields = same-fields k.filling h.holds here.0 here.1

  pub stored-tables : length b.tables ≡ length b₀.tables
  stored-tables = same_tables k.filling h.holds here.0 here.1

  pub stored-lengths : length b.lengths ≡ length b₀.lengths
  stored-lengths = same-lengths k.filling h.holds here.0 here.1

  pub stored-commands : length b.commands ≡ length b₀.commands
  stored-commands = same-commands k.filling h.holds here.0 here.1

  -- a text that builds is read to its end
  pub storing-unread : {reason : Refusal} → read_step_of text reader ≡ Err reason → ⊥
  storing-unread {reason} e =
      let f = sym (known-refused text reader k.passed k.known reason e) ∙ all.is in
      cc

  pub stored-all : read_step_of text reader ≡ Ok None → Filled (build_read_of text) (drawers_in (commands_of text)) b₀ b
  stored-all e =
      let known = known-all text reader k.passed k.known e in
      filled_is k.filling (short-reads text all.short ∙ ap built_from known) (ap drawers_in known)

  module _ {step : Stepped} (e : read_step_of text reader ≡ Ok (Some step)) where
    ahead : (rest : List PathCommand) × (build_of ((k.passed ++ (step.command ∷ [])) ++ rest) ≡ path h.list)
    ahead = whole (k.passed ++ (step.command ∷ [])) step.next (known_more text reader k.passed k.known step e)

    -- what `lay` asks
    pub storing-room : FewAt site × Room site (draw_of site.pen step.command) b
    storing-room = (
      at-few k.filling.known (omega (arith, step-ahead text reader step e, k.few, all.short)),
      roomed k.filling h.holds step.command ahead.0 ahead.1,
    )

    pub storing-number : number < 65536
    storing-number = omega (arith, step-ahead text reader step e, k.few, k.count, all.short)

    pub storing-more : {further : Site} {b' : Buffers} → Laid site number (draw_of site.pen step.command) b further b' → Storing text step.next further (number + 1) b₀ b'
    storing-more {further} {b'} laid =
        record {
          passed = k.passed ++ (step.command ∷ []);
          known = known_more text reader k.passed k.known step e;
          few = omega (arith, length-append k.passed (step.command ∷ []), step-ahead text reader step e, k.few);
          count = length-append k.passed (step.command ∷ []) ∙ ap (λ n. n + 1) k.count;
          filling = filling-more k.filling h.holds step.command ahead.0 ahead.1 (subst (λ n. Laid site n (draw_of site.pen step.command) b further b') (sym k.count) laid);
        }
