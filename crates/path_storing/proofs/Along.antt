-- The sites along a list of commands go with what the list builds. Assumes nothing.
use Prim.Native.Nat.{◌+◌, ◌*◌, ◌≤◌, ◌<◌}
use mathlib.Core.Path.{◌≡◌, refl, sym, ap, subst, ◌∙◌}
use mathlib.Core.Bool.{Bool, true, false, cond}
use mathlib.Core.List.{List, [], ◌∷◌, ◌++◌, append-nil}
use native.Mathlib.Omega.{arith}
use native.Mathlib.Numerals.{add-one}
use lib.Ieee.{Float}
use lib.Ieee.Scale.{finite}
use lib.ListN.{length, length-append}
use Rattle.std.specs.Prelude.{Option, Some, None, Result, Ok, Err}
use Rattle.answers.specs.declared.refusals.Refusal.{Refusal}
use Rattle.answers.specs.declared.refusals.Refusal.TheVariants.{RotationRange, NotFinite}
use Rattle.floats.specs.Floats.{zero_f}
use Rattle.commands.specs.declared.command.PathCommand.{PathCommand}
use Rattle.path_segment.specs.Segments.{kind_of, fields_of, table_stored}
use Rattle.path_segment.proofs.Reading.{fields-most}
use Rattle.path_segment.proofs.Tables.{table-most}
use Rattle.path_segment.specs.declared.segments.PathSegment.{PathSegment}
use Rattle.path_stored.specs.Layout.{kinds_of, fields_of_all, tables_of_all}
use Rattle.path_drawing.specs.Drawing.{draw_of}
use Rattle.path_drawing.specs.Building.{Built, path, refusal, length_after, build_from, build_of, named_by, drawers_of}
use Rattle.path_drawing.specs.declared.pens.Pen.{Pen}
use Rattle.path_drawing.specs.declared.strokes.Drawn.{Drawn}
use Rattle.path_drawing.specs.declared.strokes.Drawn.TheVariants.{Moved, Segment}
use Rattle.path_drawing.proofs.Onward.{onto, Drew, drew-none, drew-all, drew-named, drew-moved, drew-segment, drew-infinite, drew-turned}
use Rattle.path_storing.specs.Sites.{start_of, after_of, moved_of, next_of, judged_of, advance_of, drawn_by, FewAt}
use Rattle.path_storing.specs.declared.sites.Site.{Site}
use Rattle.path_storing.proofs.Layouts.{kinds-append, fields-append, tables-append, end_of, end-append}

-- so many numbers stand in a buffer with those of one segment more
grows : {whole : List Float} (stood more : List Float) → whole ≡ stood ++ (more ++ []) → length whole ≡ length stood + length more
grows stood more e = ap length e ∙ length-append stood (more ++ []) ∙ ap (λ l. length stood + length l) (append-nil more)

-- after some commands, which drew some segments, the site is this
pub record At (commands : List PathCommand) (done : List PathSegment) (site : Site) : Type 0 where
  pub drew : Drew commands done site.sizes.segments site.length site.pen
  pub ends : site.length ≡ end_of zero_f done
  pub kinds : site.sizes.segments ≡ length (kinds_of done)
  pub fields : site.sizes.fields ≡ length (fields_of_all done)
  pub tables : site.sizes.tables ≡ length (tables_of_all done)
  pub few : site.sizes.segments ≤ length commands
  pub few_fields : site.sizes.fields ≤ 11 * site.sizes.segments
  pub few_tables : site.sizes.tables ≤ 33 * site.sizes.segments

pub at_none : At [] [] start_of
unfolding start_of end_of kinds_of fields_of_all tables_of_all
at_none =
    record {
      drew = drew-none;
      ends = refl;
      kinds = refl;
      fields = refl;
      tables = refl;
      few = omega arith;
      few_fields = omega arith;
      few_tables = omega arith;
    }

module _ {commands : List PathCommand} {done : List PathSegment} {site : Site} (k : At commands done site) where
  pub at-few : length commands < 65536 → FewAt site
  at-few h = record { segments = omega (arith, k.few); fields = k.few_fields; tables = k.few_tables }

  -- no command is left
  pub at_all : build_of commands ≡ path done
  at_all = drew-all k.drew

  -- what is built begins with what is drawn
  pub at-within : (rest : List PathCommand) (list : List PathSegment) → build_of (commands ++ rest) ≡ path list → (more : List PathSegment) × (list ≡ done ++ more)
  at-within rest list e = by-rest (build_from rest site.sizes.segments site.length site.pen) (sym (k.drew.onward rest) ∙ e)
    where
      by-rest : (built : Built) → onto done built ≡ path list → (more : List PathSegment) × (list ≡ done ++ more)
      by-rest (path more) f = (more, let g : list ≡ done ++ more = cc in g)
      by-rest (refusal reason) f = cc

  module _ (command : PathCommand) where
    more-commands : length (commands ++ (command ∷ [])) ≡ length commands + 1
    more-commands = length-append commands (command ∷ [])

    -- the numbers of those that drew, with the next
    pub at_named : drawers_of (commands ++ (command ∷ [])) ≡ drawers_of commands ++ named_by (length commands) (draw_of site.pen command)
    at_named = drew-named k.drew command

    -- a command that draws nothing
    moves : (next : Pen) → draw_of site.pen command ≡ Some (Moved next) → At (commands ++ (command ∷ [])) (done ++ []) (moved_of site next)
    unfolding moved_of
    moves next e =
        rw (append-nil done)
        (record {
          drew = drew-moved k.drew command next e;
          ends = k.ends;
          kinds = k.kinds;
          fields = k.fields;
          tables = k.tables;
          few = omega (arith, k.few, more-commands);
          few_fields = k.few_fields;
          few_tables = k.few_tables;
        })

    module _ (segment : PathSegment) (next : Pen) (e : draw_of site.pen command ≡ Some (Segment segment next)) where
      -- a command that draws a segment
      draws : finite (length_after site.length segment) ≡ true → At (commands ++ (command ∷ [])) (done ++ (segment ∷ [])) (after_of site segment next)
      unfolding after_of kinds_of fields_of_all tables_of_all end_of
      draws f =
          record {
            drew = rw add-one (drew-segment k.drew command segment next e f);
            ends = ap (λ x. length_after x segment) k.ends ∙ sym (end-append zero_f done (segment ∷ []));
            kinds = omega (arith, k.kinds, ap length (kinds-append done (segment ∷ [])) ∙ length-append (kinds_of done) (kind_of segment ∷ []));
            fields = ap (λ n. n + length (fields_of segment)) k.fields ∙ sym (grows (fields_of_all done) (fields_of segment) (fields-append done (segment ∷ [])));
            tables = ap (λ n. n + length (table_stored segment)) k.tables ∙ sym (grows (tables_of_all done) (table_stored segment) (tables-append done (segment ∷ [])));
            few = omega (arith, k.few, more-commands);
            few_fields = omega (arith, k.few_fields, fields-most segment);
            few_tables = omega (arith, k.few_tables, table-most segment);
          }

    -- ---- the measuring pass

    advances : (drawn : Option Drawn) (next : Site) → draw_of site.pen command ≡ drawn → judged_of site drawn ≡ Ok next → At (commands ++ (command ∷ [])) (done ++ drawn_by drawn) next
    unfolding judged_of
    advances (Some (Moved pen)) next e j = let f : moved_of site pen ≡ next = cc in subst (At (commands ++ (command ∷ [])) (done ++ [])) f (moves pen e)
    advances (Some (Segment segment pen)) next e j = by_length (finite (length_after site.length segment)) refl j
      where
        by_length :
            (b : Bool) → finite (length_after site.length segment) ≡ b
            → cond b (Ok (after_of site segment pen)) (Err (NotFinite site.sizes.segments)) ≡ Ok next
            → At (commands ++ (command ∷ [])) (done ++ (segment ∷ [])) next
        by_length true f g = let h : after_of site segment pen ≡ next = cc in subst (At (commands ++ (command ∷ [])) (done ++ (segment ∷ []))) h (draws segment pen e f)
        by_length false f g = cc
    advances None next e j = cc

    pub at_next : (next : Site) → advance_of site command ≡ Ok next → At (commands ++ (command ∷ [])) (done ++ drawn_by (draw_of site.pen command)) next
    unfolding advance_of
    at_next next e = advances (draw_of site.pen command) next refl e

    refuses : (drawn : Option Drawn) (reason : Refusal) → draw_of site.pen command ≡ drawn → judged_of site drawn ≡ Err reason → (rest : List PathCommand) → build_of ((commands ++ (command ∷ [])) ++ rest) ≡ refusal reason
    unfolding judged_of
    refuses (Some (Moved pen)) reason e j rest = cc
    refuses (Some (Segment segment pen)) reason e j rest = by_length (finite (length_after site.length segment)) refl j
      where
        by_length :
            (b : Bool) → finite (length_after site.length segment) ≡ b
            → cond b (Ok (after_of site segment pen)) (Err (NotFinite site.sizes.segments)) ≡ Err reason
            → build_of ((commands ++ (command ∷ [])) ++ rest) ≡ refusal reason
        by_length true f g = cc
        by_length false f g =
            let h : NotFinite site.sizes.segments ≡ reason = cc in
            drew-infinite k.drew command segment pen e f rest ∙ ap refusal h
    refuses None reason e j rest =
        let h : RotationRange site.sizes.segments ≡ reason = cc in
        drew-turned k.drew command e rest ∙ ap refusal h

    pub at-refused : (reason : Refusal) → advance_of site command ≡ Err reason → (rest : List PathCommand) → build_of ((commands ++ (command ∷ [])) ++ rest) ≡ refusal reason
    unfolding advance_of
    at-refused reason e rest = refuses (draw_of site.pen command) reason refl e rest

    -- ---- the storing pass, over a list that builds

    module _ (rest : List PathCommand) (list : List PathSegment) (b : build_of ((commands ++ (command ∷ [])) ++ rest) ≡ path list) where
      never : (reason : Refusal) → advance_of site command ≡ Err reason → ⊥
      never reason e = let f = at-refused reason e rest in cc

      stores : (advanced : Result Site Refusal) → advance_of site command ≡ advanced → (drawn : Option Drawn) → draw_of site.pen command ≡ drawn → judged_of site drawn ≡ advanced
          → At (commands ++ (command ∷ [])) (done ++ drawn_by drawn) (next_of site drawn)
      unfolding judged_of next_of
      stores (Err reason) a drawn e j = absurd (never reason a)
      stores (Ok next) a (Some (Moved pen)) e j = moves pen e
      stores (Ok next) a (Some (Segment segment pen)) e j = by_length (finite (length_after site.length segment)) refl j
        where
          by_length :
              (b : Bool) → finite (length_after site.length segment) ≡ b
              → cond b (Ok (after_of site segment pen)) (Err (NotFinite site.sizes.segments)) ≡ Ok next
              → At (commands ++ (command ∷ [])) (done ++ (segment ∷ [])) (after_of site segment pen)
          by_length true f g = draws segment pen e f
          by_length false f g = cc
      stores (Ok next) a None e j = cc

      pub at_stored : At (commands ++ (command ∷ [])) (done ++ drawn_by (draw_of site.pen command)) (next_of site (draw_of site.pen command))
      unfolding advance_of
      at_stored = stores (advance_of site command) refl (draw_of site.pen command) refl refl
