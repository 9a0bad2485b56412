-- One command at a site: judged, counted and stored (document 01, "The answers" and "Lengths, tables and lookup"). Segments count from 0. That the sites
-- along a list go with what the list builds is a law. Definitions only.
use Rattle.std.specs.Prelude.{ℕ, ◌+◌, ◌*◌, ◌≤◌, ◌<◌, ◌≡◌, cond, Option, Some, None, Result, Ok, Err, List, [], ◌∷◌, Float, length}
use Rattle.std.specs.Float.Ieee.Scale.{finite}
use Rattle.std.proofs.lemmas.List.Edits.{sets}
use Rattle.answers.specs.declared.refusals.Refusal.{Refusal}
use Rattle.answers.specs.declared.refusals.Refusal.TheVariants.{RotationRange, NotFinite}
use Rattle.floats.specs.Floats.{zero_f}
use Rattle.commands.specs.declared.command.PathCommand.{PathCommand}
use Rattle.path_segment.specs.Segments.{fields_of, table_stored}
use Rattle.path_segment.specs.declared.segments.PathSegment.{PathSegment}
use Rattle.answers.specs.Report.{written}
use Rattle.path_stored.specs.Buffers.{Buffers, buffers}
use Rattle.path_stored.specs.Layout.{kinds_of, fields_of_all, tables_of_all, running_of, lengths_of_all}
use Rattle.path_drawing.specs.Drawing.{fresh_of, draw_of}
use Rattle.path_drawing.specs.Building.{length_after, named_by}
use Rattle.path_drawing.specs.declared.pens.Pen.{Pen}
use Rattle.path_drawing.specs.declared.strokes.Drawn.{Drawn}
use Rattle.path_drawing.specs.declared.strokes.Drawn.TheVariants.{Moved, Segment}
use Rattle.path_storing.specs.declared.sites.Site.{Site}
use Rattle.path_storing.specs.declared.sites.Sizes.{Sizes}

-- nothing is drawn, and "0 stands before its first"
unfoldable pub start_of : Site
start_of = record { pen = fresh_of; length = zero_f; sizes = record { segments = 0; fields = 0; tables = 0 } }

-- one segment more, of so many fields, with so many numbers in its table
abbrev pub grown_by : Sizes → ℕ → ℕ → Sizes
grown_by sizes own more = record { segments = sizes.segments + 1; fields = sizes.fields + own; tables = sizes.tables + more }

-- the site after a segment
unfoldable pub after_of : Site → PathSegment → Pen → Site
after_of site segment next =
    record {
      pen = next;
      length = length_after site.length segment;
      sizes = grown_by site.sizes (length (fields_of segment)) (length (table_stored segment));
    }

-- the site after a command that draws no segment
unfoldable pub moved_of : Site → Pen → Site
moved_of site next = record { pen = next; length = site.length; sizes = site.sizes }

-- the site after a command that is not refused
unfoldable pub next_of : Site → Option Drawn → Site
unfolding after_of moved_of
next_of site (Some (Moved next)) = moved_of site next
next_of site (Some (Segment segment next)) = after_of site segment next
next_of site None = site

-- "segment by segment 10 before 11"
unfoldable pub judged_of : Site → Option Drawn → Result Site Refusal
unfolding after_of moved_of
judged_of site (Some (Moved next)) = Ok (moved_of site next)
judged_of site (Some (Segment segment next)) = cond (finite (length_after site.length segment)) (Ok (after_of site segment next)) (Err (NotFinite site.sizes.segments))
judged_of site None = Err (RotationRange site.sizes.segments)

unfoldable pub advance_of : Site → PathCommand → Result Site Refusal
unfolding judged_of
advance_of site command = judged_of site (draw_of site.pen command)

-- the segments that a command draws: one or none
abbrev pub drawn_by : Option Drawn → List PathSegment
drawn_by (Some (Moved next)) = []
drawn_by (Some (Segment segment next)) = segment ∷ []
drawn_by None = []

-- there are so few segments that every count fits; a segment has at most 11 fields, its table 33 numbers
pub record Few (sizes : Sizes) : Type 0 where
  pub segments : sizes.segments < 65536
  pub fields : sizes.fields ≤ 11 * sizes.segments
  pub tables : sizes.tables ≤ 33 * sizes.segments

abbrev pub FewAt : Site → Type 0
FewAt site = Few site.sizes

-- a site of which only the counts and the running length are asked
abbrev pub site_at : Float → ℕ → ℕ → ℕ → Site
site_at before index own more = record { pen = fresh_of; length = before; sizes = record { segments = index; fields = own; tables = more } }

-- ---- in the buffers

-- a list of segments and the numbers of their commands in place of what stood at each buffer's start
abbrev pub path_written : List PathSegment → List ℕ → Buffers → Buffers
path_written list drawers b =
    buffers (written (kinds_of list) b.kinds) (written (fields_of_all list) b.fields) (written (tables_of_all list) b.tables) (written (lengths_of_all list) b.lengths)
    (written drawers b.commands)

-- and in place of what stood at a site
abbrev pub laid_at : Site → List PathSegment → List ℕ → Buffers → Buffers
laid_at site list drawers b =
    buffers (sets b.kinds site.sizes.segments (kinds_of list)) (sets b.fields site.sizes.fields (fields_of_all list)) (sets b.tables site.sizes.tables (tables_of_all list))
    (sets b.lengths site.sizes.segments (running_of site.length list)) (sets b.commands site.sizes.segments drawers)

-- buffers have room for segments, each of which has one command number
pub record Holds (list : List PathSegment) (b : Buffers) : Type 0 where
  pub kinds_fit : length (kinds_of list) ≤ length b.kinds
  pub fields_all_fit : length (fields_of_all list) ≤ length b.fields
  pub tables_fit : length (tables_of_all list) ≤ length b.tables
  pub lengths_fit : length (lengths_of_all list) ≤ length b.lengths
  pub commands_fit : length (kinds_of list) ≤ length b.commands

-- the same for what a command draws at a site
pub record Room (site : Site) (drawn : Option Drawn) (b : Buffers) : Type 0 where
  pub kinds_fit : site.sizes.segments + length (kinds_of (drawn_by drawn)) ≤ length b.kinds
  pub fields_all_fit : site.sizes.fields + length (fields_of_all (drawn_by drawn)) ≤ length b.fields
  pub tables_fit : site.sizes.tables + length (tables_of_all (drawn_by drawn)) ≤ length b.tables
  pub lengths_fit : site.sizes.segments + length (kinds_of (drawn_by drawn)) ≤ length b.lengths
  pub commands_fit : site.sizes.segments + length (kinds_of (drawn_by drawn)) ≤ length b.commands

-- a segment of the command numbered n is stored at a site, nothing else is touched, and the running length up to its end is told
pub record SegmentLaid (site : Site) (n : ℕ) (segment : PathSegment) (b : Buffers) (r : Float) (b' : Buffers) : Type 0 where
  pub length_told : r ≡ length_after site.length segment
  pub after : b' ≡ laid_at site (segment ∷ []) (n ∷ []) b

-- what the command numbered n draws at a site is stored, no other place is touched, and the next site is told
pub record Laid (site : Site) (n : ℕ) (drawn : Option Drawn) (b : Buffers) (r : Site) (b' : Buffers) : Type 0 where
  pub site_after : r ≡ next_of site drawn
  pub after : b' ≡ laid_at site (drawn_by drawn) (named_by n drawn) b
