-- The tool's own buffers: the path of a list that is lent, built in them. Assumes nothing.
use Prim.Native.Nat.{ℕ, ◌≤◌, ◌<◌}
use mathlib.Core.Path.{◌≡◌, refl, sym, ap, subst, ◌∙◌}
use mathlib.Core.List.{List}
use native.Mathlib.Omega.{arith}
use borrow.Author.Tests.{le-ltb}
use lib.ListN.{length, get_or, take, drop}
use lib.Seq.{take-append_seam}
use Rattle.answers.specs.Report.{written}
use Rattle.answers.specs.declared.refusals.Refusal.{Refusal}
use Rattle.commands.specs.Stored.{letters_of}
use Rattle.commands.specs.declared.command.PathCommand.{PathCommand}
use Rattle.svg.specs.Texts.{offsets_of}
use Rattle.path_segment.specs.declared.segments.PathSegment.{PathSegment}
use Rattle.path_stored.specs.Buffers.{Buffers, buffers}
use Rattle.path_stored.specs.Layout.{kinds_of, fields_of_all, tables_of_all, lengths_of_all, laid_wholly}
use Rattle.path_stored.specs.Stored.{Stored}
use Rattle.path_stored.proofs.Buffers.{buffers-are}
use Rattle.path_stored.proofs.Rule.{stored-rule}
use Rattle.path_drawing.specs.Building.{Built, path, refusal, build_of, drawers_of}
use Rattle.std.specs.Prelude.{Result, Ok, Err}
use Rattle.path_storing.specs.Sites.{path_written}
use Rattle.path_storing.specs.declared.sites.Sizes.{Sizes}
use Rattle.path_build.specs.Answers.{answer_of, answered, segments_written, numbers_written}
use Rattle.path_build.specs.Lists.{StoredList}
use Rattle.path_build.specs.Paths.{lent_of, drawers_list_of, build_path_of, BuildPath}
use Rattle.path_build.proofs.Lists.{stored-drawers}
use Rattle.path_build.proofs.Numbering.{drawers-count, made_by}
use Rattle.path_build.proofs.Sound.{built-stored}
use Rattle.station_lines.specs.Lines.{refusal_line}
use Rattle.station_lines.specs.Put.{PutWithin}
use Rattle.station_lines.proofs.Putting.{within-as}
use Rattle.station_commands.proofs.PlanLaws.{letters-count}
use Rattle.station_sections.specs.Sections.{Ready}
use Rattle.station_listing.specs.Stations.{sections_of, built_of, read_of, plan_of, Held, Sized, Printed}
use Rattle.station_listing.proofs.Flying.{segments-few, kinds-count, fields-few, tables-few, lent, built-as, told-refused, BuiltAs, told-built}

-- the first places of a buffer are what is written there
pub take-written : {A : Type 0} (xs before now : List A) (n : ℕ) → now ≡ written xs before → n ≡ length xs → take n now ≡ xs
take-written xs before now n e f =
    ap (take n) e ∙ ap (λ (k : ℕ). take k (written xs before)) f ∙ take-append_seam xs (drop (length xs) before)

-- ---- the commands

pub sized : {text : List ℕ} {held : StoredList} → Held text held → Sized text (length held.letters)
sized k = record { short = k.short; list = k.list; reads = k.reads; count = ap (λ (l : StoredList). length l.letters) k.own ∙ letters-count k.list; few = k.few }

-- ---- the path

-- the tool's five buffers
pub record Full (b : Buffers) : Type 0 where
  pub kinds : 256 ≡ length b.kinds
  pub fields : 2816 ≡ length b.fields
  pub tables : 8448 ≡ length b.tables
  pub lengths : 256 ≡ length b.lengths
  pub commands : 256 ≡ length b.commands

pub full :
    {b : Buffers} → 256 ≡ length b.kinds → 2816 ≡ length b.fields → 8448 ≡ length b.tables → 256 ≡ length b.lengths → 256 ≡ length b.commands
    → Full b
full kinds fields tables lengths commands = record { kinds = kinds; fields = fields; tables = tables; lengths = lengths; commands = commands }

lent-as : {b : Buffers} → Full b → lent_of b ≡ lent
lent-as h = rw (sym h.kinds, sym h.fields, sym h.tables, sym h.lengths, sym h.commands) refl

-- the first places of each buffer
abbrev pub first : ℕ → ℕ → ℕ → Buffers → Buffers
first s f t b = buffers (take s b.kinds) (take f b.fields) (take t b.tables) (take s b.lengths) (take s b.commands)

-- the path that five buffers hold
pub record Flight (commands : List PathCommand) (b : Buffers) : Type 0 where
  pub list : List PathSegment
  pub is : build_of commands ≡ path list
  pub held : b ≡ laid_wholly list (drawers_of commands)

module _ {text : List ℕ} {held : StoredList} (k : Held text held) where
  -- what is built of the list is what the plan prints
  told : (count : ℕ) → built_of count k.list (offsets_of text) (build_of k.list) ≡ plan_of count text
  unfolding plan_of read_of
  told count = rw (le-ltb 4096 (length text) k.short, k.reads, le-ltb 256 (length (letters_of k.list)) (omega (arith, k.few, letters-count k.list))) refl

  module _ {b : Buffers} {r : Result Sizes Refusal} {b' : Buffers} (a : BuildPath held b r b') (full : Full b) where
    built_in : build_path_of held (lent_of b) ≡ build_of k.list
    built_in =
        ap (build_path_of held) (lent-as full)
        ∙ ap (λ (l : StoredList). build_path_of l lent) k.own
        ∙ built-as k.list (omega (arith, k.few, letters-count k.list))

    drawers-in : drawers_list_of held ≡ drawers_of k.list
    drawers-in = ap drawers_list_of k.own ∙ stored-drawers k.list

    answer-as : (s : Result Sizes Refusal) → r ≡ s → answer_of s ≡ answered (build_of k.list)
    answer-as s e = ap answer_of (sym e) ∙ a.answer ∙ ap answered built_in

    -- what building refuses, apart from what is made of it
    pub not-built : {reason : Refusal} → r ≡ Err reason → build_of k.list ≡ refusal reason
    not-built {reason} e = told-refused reason (build_of k.list) (answer-as (Err reason) e)

    pub unbuilt :
        {reason : Refusal} → r ≡ Err reason → (count : ℕ) {before after : List ℕ} {n : ℕ} → PutWithin 134 (refusal_line reason) 0 before after n
        → PutWithin 69632 (plan_of count text) 0 before after n
    unbuilt e count p =
        within-as 69632 _ p.put (ap (built_of count k.list (offsets_of text)) (sym (not-built e)) ∙ told count) (omega (arith, p.within))

    module _ {sizes : Sizes} (e : r ≡ Ok sizes) where
      abbrev s : ℕ
      s = sizes.segments

      abbrev f : ℕ
      f = sizes.fields

      abbrev t : ℕ
      t = sizes.tables

      built-here : BuiltAs s f t (build_of k.list)
      built-here = told-built s f t (build_of k.list) (answer-as (Ok sizes) e)

      -- the buffers have the path's segments and the numbers of its commands from their start
      wrote : b' ≡ path_written built-here.list (drawers_of k.list) b
      wrote =
          a.after
          ∙ ap (λ (built : Built). path_written (segments_written built) (numbers_written built (drawers_list_of held)) b) (built_in ∙ built-here.is)
          ∙ ap (λ (drawers : List ℕ). path_written built-here.list drawers b) drawers-in

      pub flight : Flight k.list (first s f t b')
      flight =
          let h = built-here in
          let d : s ≡ length (drawers_of k.list) = h.kinds ∙ kinds-count h.list ∙ sym (drawers-count k.list h.list h.is) in
          record {
            list = h.list;
            is = h.is;
            held =
                buffers-are (take-written (kinds_of h.list) b.kinds b'.kinds s (ap (λ (x : Buffers). x.kinds) wrote) h.kinds)
                (take-written (fields_of_all h.list) b.fields b'.fields f (ap (λ (x : Buffers). x.fields) wrote) h.fields)
                (take-written (tables_of_all h.list) b.tables b'.tables t (ap (λ (x : Buffers). x.tables) wrote) h.tables)
                (take-written (lengths_of_all h.list) b.lengths b'.lengths s (ap (λ (x : Buffers). x.lengths) wrote) h.running)
                (take-written (drawers_of k.list) b.commands b'.commands s (ap (λ (x : Buffers). x.commands) wrote) d);
          }

      -- so many places of each buffer are used
      pub used : (s ≤ 256) × (f ≤ 2816) × (t ≤ 8448)
      used =
          let h = built-here in
          let n = segments-few k.list h.list h.is in (
            omega (arith, h.kinds, kinds-count h.list, n, k.few),
            omega (arith, h.fields, fields-few h.list, n, k.few),
            omega (arith, h.tables, tables-few h.list, n, k.few),
          )

  module _ {b : Buffers} (here : Flight k.list b) where
    -- a number has at most three digits: it is one of at most 256 commands
    small : (i : ℕ) → i < length (kinds_of here.list) → get_or (drawers_of k.list) i 0 < 1000
    small i h =
        let m : get_or (drawers_of k.list) i 0 < length k.list = (made_by k.list here.list here.is i (omega (arith, kinds-count here.list))).among in
        omega (arith, k.few)

    pub ready : {count : ℕ} → 2 ≤ count → count ≤ 1000 → Ready b count
    ready {count} g h =
        let s : Stored (laid_wholly here.list (drawers_of k.list)) = stored-rule _ (built-stored k.list here.list (omega (arith, k.few)) here.is) in
        let few : length (kinds_of here.list) ≤ 256 = omega (arith, kinds-count here.list, segments-few k.list here.list here.is, k.few) in
        subst (λ (x : Buffers). Ready x count) (sym here.held)
        (record { stored = s; tellable = record { one = s.one; told = s.told; few = few; small = small }; least = g; most = h })

    pub listed : {count : ℕ} {before after : List ℕ} {n : ℕ} → Printed text b count before after n → PutWithin 69632 (plan_of count text) 0 before after n
    listed {count} p =
        let e : p.list ≡ k.list = cc in
        within-as 69632 _ p.put.put
        (ap (λ (l : List PathCommand). sections_of l (offsets_of text) b count) e
        ∙ ap (λ (x : Buffers). sections_of k.list (offsets_of text) x count) here.held
        ∙ ap (built_of count k.list (offsets_of text)) (sym here.is)
        ∙ told count)
        p.put.within
