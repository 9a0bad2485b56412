-- The storing pass over a list of commands that builds: what it knows between two commands, and what a command does to that. Assumes nothing.
use Prim.Native.Nat.{ℕ, ◌+◌, ◌≤◌}
use mathlib.Core.Path.{◌≡◌, refl, sym, ap, subst, ◌∙◌}
use mathlib.Core.List.{List, [], ◌∷◌, ◌++◌, append_assoc}
use native.Mathlib.Omega.{arith}
use lib.ListN.{length, length-append}
use lib.Seq.{sets}
use Rattle.std.specs.Prelude.{Option}
use Rattle.answers.specs.Report.{written}
use Rattle.answers.proofs.Writing.{written-more, length-written}
use Rattle.floats.specs.Floats.{zero_f}
use Rattle.commands.specs.declared.command.PathCommand.{PathCommand}
use Rattle.path_segment.specs.declared.segments.PathSegment.{PathSegment}
use Rattle.path_stored.specs.Buffers.{Buffers}
use Rattle.path_stored.proofs.Buffers.{buffers-are}
use Rattle.path_stored.specs.Layout.{kinds_of, fields_of_all, tables_of_all, running_of, lengths_of_all}
use Rattle.path_drawing.specs.Drawing.{draw_of}
use Rattle.path_drawing.specs.declared.strokes.Drawn.{Drawn}
use Rattle.path_drawing.specs.Building.{path, build_of, named_by, drawers_of, drawers_from}
use Rattle.path_storing.specs.Sites.{start_of, next_of, drawn_by, path_written, laid_at, Holds, Room, Laid}
use Rattle.path_storing.specs.declared.sites.Site.{Site}
use Rattle.path_storing.proofs.Layouts.{kinds-append, fields-append, tables-append, lengths-append, lengths-count, end_of}
use Rattle.path_storing.proofs.Along.{At, at_none, at-within, at_named, at_stored}

-- room for a list is room for what it begins with
holds-first : (list rest : List PathSegment) {b : Buffers} → Holds (list ++ rest) b → Holds list b
holds-first list rest h =
    record {
      kinds_fit = omega (arith, h.kinds_fit, ap length (kinds-append list rest) ∙ length-append (kinds_of list) (kinds_of rest));
      fields_all_fit = omega (arith, h.fields_all_fit, ap length (fields-append list rest) ∙ length-append (fields_of_all list) (fields_of_all rest));
      tables_fit = omega (arith, h.tables_fit, ap length (tables-append list rest) ∙ length-append (tables_of_all list) (tables_of_all rest));
      lengths_fit = omega (arith, h.lengths_fit, ap length (lengths-append list rest) ∙ length-append (lengths_of_all list) (running_of (end_of zero_f list) rest));
      commands_fit = omega (arith, h.commands_fit, ap length (kinds-append list rest) ∙ length-append (kinds_of list) (kinds_of rest));
    }

-- the segments of the commands passed are written, and which drew them
pub record Filling (commands : List PathCommand) (site : Site) (b₀ b : Buffers) : Type 0 where
  pub done : List PathSegment
  pub known : At commands done site
  pub now : b ≡ path_written done (drawers_of commands) b₀

pub filling-none : (b : Buffers) → Filling [] start_of b b
unfolding kinds_of fields_of_all tables_of_all running_of lengths_of_all drawers_of drawers_from
filling-none b = record { done = []; known = at_none; now = refl }

-- a run of stores just past what is written
writes : {A : Type 0} (elements vs before : List A) {now : List A} {at : ℕ} {whole : List A}
    → now ≡ written elements before → at ≡ length elements → whole ≡ elements ++ vs → length whole ≤ length before
    → sets now at vs ≡ written whole before
writes elements vs before {now} {at} {whole} e f g h =
    ap (λ l. sets l at vs) e
    ∙ ap (λ n. sets (written elements before) n vs) f
    ∙ written-more elements vs before (let n : length whole ≡ length elements + length vs = ap length g ∙ length-append elements vs in omega arith)
    ∙ ap (λ l. written l before) (sym g)

module _ {commands : List PathCommand} {site : Site} {b₀ b : Buffers} (k : Filling commands site b₀ b) {list : List PathSegment} (holds : Holds list b₀) where
  module _ (rest : List PathCommand) (builds : build_of (commands ++ rest) ≡ path list) where
    first : Holds k.done b₀
    first = let w = at-within k.known rest list builds in holds-first k.done w.0 (rw w.1 at holds)

    pub same-kinds : length b.kinds ≡ length b₀.kinds
    same-kinds = ap (λ (x : Buffers). length x.kinds) k.now ∙ length-written (kinds_of k.done) b₀.kinds first.kinds_fit

    pub same-fields : length b.fields ≡ length b₀.fields
    same-fields = ap (λ (x : Buffers). length x.fields) k.now ∙ length-written (fields_of_all k.done) b₀.fields first.fields_all_fit

    pub same_tables : length b.tables ≡ length b₀.tables
    same_tables = ap (λ (x : Buffers). length x.tables) k.now ∙ length-written (tables_of_all k.done) b₀.tables first.tables_fit

    pub same-lengths : length b.lengths ≡ length b₀.lengths
    same-lengths = ap (λ (x : Buffers). length x.lengths) k.now ∙ length-written (lengths_of_all k.done) b₀.lengths first.lengths_fit

    pub same-commands : length b.commands ≡ length b₀.commands
    same-commands =
        ap (λ (x : Buffers). length x.commands) k.now
        ∙ length-written (drawers_of commands) b₀.commands (omega (arith, first.commands_fit, k.known.drew.count, k.known.kinds))

  module _ (command : PathCommand) (rest : List PathCommand) (builds : build_of ((commands ++ (command ∷ [])) ++ rest) ≡ path list) where
    abbrev drawn : Option Drawn
    drawn = draw_of site.pen command

    here : build_of (commands ++ (command ∷ rest)) ≡ path list
    here = ap build_of (sym (append_assoc commands (command ∷ []) rest)) ∙ builds

    stored : At (commands ++ (command ∷ [])) (k.done ++ drawn_by drawn) (next_of site drawn)
    stored = at_stored k.known command rest list builds

    held : Holds (k.done ++ drawn_by drawn) b₀
    held =
        let d = k.done ++ drawn_by drawn in
        let w = at-within stored rest list builds in
        holds-first d w.0 (rw w.1 at holds)

    -- what the next command draws has room
    pub roomed : Room site drawn b
    roomed =
        let d = drawn_by drawn in
        let kinds-all = ap length (kinds-append k.done d) ∙ length-append (kinds_of k.done) (kinds_of d) in
        let fields-all = ap length (fields-append k.done d) ∙ length-append (fields_of_all k.done) (fields_of_all d) in
        let tables-all = ap length (tables-append k.done d) ∙ length-append (tables_of_all k.done) (tables_of_all d) in
        record {
          kinds_fit = omega (arith, held.kinds_fit, kinds-all, k.known.kinds, same-kinds (command ∷ rest) here);
          fields_all_fit = omega (arith, held.fields_all_fit, fields-all, k.known.fields, same-fields (command ∷ rest) here);
          tables_fit = omega (arith, held.tables_fit, tables-all, k.known.tables, same_tables (command ∷ rest) here);
          lengths_fit = omega (arith, held.lengths_fit, lengths-count (k.done ++ d), kinds-all, k.known.kinds, same-lengths (command ∷ rest) here);
          commands_fit = omega (arith, held.commands_fit, kinds-all, k.known.kinds, same-commands (command ∷ rest) here);
        }

    -- and is then written
    laid_on : laid_at site (drawn_by drawn) (named_by (length commands) drawn) b ≡ path_written (k.done ++ drawn_by drawn) (drawers_of (commands ++ (command ∷ []))) b₀
    laid_on =
        let d = drawn_by drawn in
        let running = lengths-append k.done d ∙ ap (λ x. lengths_of_all k.done ++ running_of x d) (sym k.known.ends) in
        buffers-are (writes (kinds_of k.done) (kinds_of d) b₀.kinds (ap (λ (x : Buffers). x.kinds) k.now) k.known.kinds (kinds-append k.done d) held.kinds_fit)
        (writes (fields_of_all k.done) (fields_of_all d) b₀.fields (ap (λ (x : Buffers). x.fields) k.now) k.known.fields (fields-append k.done d) held.fields_all_fit)
        (writes (tables_of_all k.done) (tables_of_all d) b₀.tables (ap (λ (x : Buffers). x.tables) k.now) k.known.tables (tables-append k.done d) held.tables_fit)
        (writes (lengths_of_all k.done) (running_of site.length d) b₀.lengths (ap (λ (x : Buffers). x.lengths) k.now) (k.known.kinds ∙ sym (lengths-count k.done)) running held.lengths_fit)
        (writes (drawers_of commands) (named_by (length commands) drawn) b₀.commands (ap (λ (x : Buffers). x.commands) k.now) (sym k.known.drew.count) (at_named k.known command)
        (omega (arith, held.commands_fit, stored.drew.count, stored.kinds)))

    pub filling-more : {next : Site} {b' : Buffers} → Laid site (length commands) drawn b next b' → Filling (commands ++ (command ∷ [])) next b₀ b'
    filling-more laid =
        record {
          done = k.done ++ drawn_by drawn;
          known = subst (At (commands ++ (command ∷ [])) (k.done ++ drawn_by drawn)) (sym laid.site_after) stored;
          now = laid.after ∙ laid_on;
        }
