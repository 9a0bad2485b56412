-- What a command comes to, way by way. Assumes nothing.
use Prim.Native.Nat.{ℕ, ◌+◌, ◌≤◌, ◌<◌}
use mathlib.Core.Path.{◌≡◌, refl, sym, ap, subst, ◌∙◌}
use mathlib.Core.Bool.{true, false}
use mathlib.Core.List.{List, [], ◌∷◌, append-nil}
use native.Mathlib.Omega.{arith}
use lib.Ieee.{Float, binary32, add}
use lib.Ieee.Scale.{finite}
use lib.ListN.{length, set}
use lib.Seq.{sets}
use Rattle.std.specs.Prelude.{Option, Some, None, Ok, Err}
use Rattle.answers.specs.declared.refusals.Refusal.TheVariants.{NotFinite}
use Rattle.math.specs.declared.points.Point.{Point}
use Rattle.commands.specs.declared.command.PathCommand.{PathCommand}
use Rattle.commands.specs.declared.command.PathCommand.TheVariants.{LineTo, QuadTo, CubicTo}
use Rattle.arc.specs.declared.lines.LineSegment.{LineSegment}
use Rattle.arc.specs.Lines.{line_of, line_length_of}
use Rattle.path_segment.specs.Segments.{kind_of, has_table, tables_of, fields_of, table_stored, length_for}
use Rattle.path_segment.proofs.Tables.{table-some, table_none}
use Rattle.path_segment.specs.declared.segments.PathSegment.{PathSegment}
use Rattle.path_segment.specs.declared.segments.PathSegment.TheVariants.{Line, Quad, Cubic}
use Rattle.path_stored.specs.Buffers.{Buffers, buffers}
use Rattle.path_stored.proofs.Buffers.{buffers-are}
use Rattle.path_stored.specs.Layout.{kinds_of, fields_of_all, tables_of_all, running_of}
use Rattle.path_drawing.specs.Drawing.{drawn_of, draw_of}
use Rattle.path_drawing.specs.Building.{length_after}
use Rattle.path_drawing.specs.declared.pens.Pen.{Pen}
use Rattle.path_drawing.specs.declared.strokes.Drawn.{Drawn}
use Rattle.path_drawing.specs.declared.strokes.Drawn.TheVariants.{Moved, Segment}
use Rattle.path_storing.specs.Sites.{grown_by, after_of, moved_of, next_of, judged_of, advance_of, site_at, Room, SegmentLaid, Laid}
use Rattle.path_storing.specs.declared.sites.Site.{Site}
use Rattle.path_storing.specs.declared.sites.Sizes.{Sizes}

-- ---- judged

module _ (site : Site) (command : PathCommand) (segment : PathSegment) (pen : Pen) (e : draw_of site.pen command ≡ Some (Segment segment pen)) (own : Float) (l : own ≡ length_after site.length segment) where
  pub goes_on : finite own ≡ true → (r : Site) → r ≡ after_of site segment pen → Ok r ≡ advance_of site command
  unfolding judged_of advance_of
  goes_on f r g = ap Ok g ∙ sym (ap (judged_of site) e ∙ (let h : finite (length_after site.length segment) ≡ true = ap finite (sym l) ∙ f in rw h))

  pub not_finite : finite own ≡ false → Err (NotFinite site.sizes.segments) ≡ advance_of site command
  unfolding judged_of advance_of
  not_finite f = sym (ap (judged_of site) e ∙ (let h : finite (length_after site.length segment) ≡ false = ap finite (sym l) ∙ f in rw h))

-- ---- stored

fields-one : (segment : PathSegment) → fields_of_all (segment ∷ []) ≡ fields_of segment
unfolding fields_of_all
fields-one segment = append-nil (fields_of segment)

tables-one : (segment : PathSegment) → tables_of_all (segment ∷ []) ≡ table_stored segment
unfolding tables_of_all
tables-one segment = append-nil (table_stored segment)

module _ {site : Site} {segment : PathSegment} {pen : Pen} {b : Buffers} (room : Room site (Some (Segment segment pen)) b) where
  pub kind_fits : site.sizes.segments < length b.kinds
  unfolding kinds_of
  kind_fits = omega (arith, room.kinds_fit)

  pub fields_fit : site.sizes.fields + length (fields_of segment) ≤ length b.fields
  fields_fit = rw (fields-one segment) at room.fields_all_fit

  pub table_fits : site.sizes.tables + length (table_stored segment) ≤ length b.tables
  table_fits = rw (tables-one segment) at room.tables_fit

  pub length-fits : site.sizes.segments < length b.lengths
  unfolding kinds_of
  length-fits = omega (arith, room.lengths_fit)

  pub command-fits : site.sizes.segments < length b.commands
  unfolding kinds_of
  command-fits = omega (arith, room.commands_fit)

pub segment-stored :
    {site : Site} {n : ℕ} {segment : PathSegment} {b : Buffers} {own : ℕ} {fields' tables' : List Float} {l : Float}
    → own ≡ kind_of segment
    → fields' ≡ sets b.fields site.sizes.fields (fields_of segment)
    → tables' ≡ sets b.tables site.sizes.tables (table_stored segment)
    → l ≡ length_after site.length segment
    → SegmentLaid site n segment b l
    (buffers (set b.kinds site.sizes.segments own) fields' tables' (set b.lengths site.sizes.segments l) (set b.commands site.sizes.segments n))
unfolding kinds_of running_of
segment-stored {site} {n} {segment} {b} e f g h =
    record {
      length_told = h;
      after =
          buffers-are (ap (set b.kinds site.sizes.segments) e) (f ∙ ap (sets b.fields site.sizes.fields) (sym (fields-one segment)))
          (g ∙ ap (sets b.tables site.sizes.tables) (sym (tables-one segment))) (ap (set b.lengths site.sizes.segments) h) refl;
    }

-- the counts and the running length of a site are all that storing asks of it
abbrev pub counts_at : Site → Site
counts_at site = site_at site.length site.sizes.segments site.sizes.fields site.sizes.tables

pub room-counts : {site : Site} {segment : PathSegment} {pen next : Pen} {b : Buffers} → Room site (Some (Segment segment pen)) b → Room (counts_at site) (Some (Segment segment next)) b
room-counts room =
    record { kinds_fit = room.kinds_fit; fields_all_fit = room.fields_all_fit; tables_fit = room.tables_fit; lengths_fit = room.lengths_fit; commands_fit = room.commands_fit }

pub stored-laid :
    {site : Site} {n : ℕ} {segment : PathSegment} {pen : Pen} {b : Buffers} {r : Site} {l : Float} {b' : Buffers}
    → r ≡ after_of site segment pen → SegmentLaid (counts_at site) n segment b l b' → Laid site n (Some (Segment segment pen)) b r b'
unfolding next_of
stored-laid s k = record { site_after = s; after = k.after }

-- ---- a line, whose fields are known

pub line-fits : {site : Site} {line : LineSegment} {pen : Pen} {b : Buffers} → Room site (Some (Segment (Line line) pen)) b → site.sizes.fields + 4 ≤ length b.fields
line-fits room = fields_fit room

no_table : (line : LineSegment) → table_stored (Line line) ≡ []
unfolding has_table tables_of
no_table line = table_none (Line line) refl

pub line-laid :
    {site : Site} {n : ℕ} {line : LineSegment} {pen : Pen} {b : Buffers} {fields' : List Float} {l : Float} {next : Pen} {sizes : Sizes}
    → fields' ≡ sets b.fields site.sizes.fields (fields_of (Line line))
    → l ≡ add binary32 site.length (line_length_of line)
    → next ≡ pen
    → sizes ≡ grown_by site.sizes 4 0
    → Laid site n (Some (Segment (Line line) pen)) b (record { pen = next; length = l; sizes = sizes })
    (buffers (set b.kinds site.sizes.segments 0) fields' b.tables (set b.lengths site.sizes.segments l) (set b.commands site.sizes.segments n))
unfolding length_for after_of
line-laid {site} {n} {line} {pen} {b} f h p g = stored-laid (rw (p, h, g, no_table line)) (segment-stored refl f (ap (sets b.tables site.sizes.tables) (sym (no_table line))) h)

-- ---- a curve, which has a table

-- the site after a segment of so many fields, with so many numbers in its table
pub after_is :
    (site : Site) (segment : PathSegment) {pen next : Pen} {l : Float} {own more : ℕ} {sizes : Sizes}
    → own ≡ length (fields_of segment) → more ≡ length (table_stored segment) → l ≡ length_after site.length segment → next ≡ pen → sizes ≡ grown_by site.sizes own more
    → ◌≡◌ {A = Site} (record { pen = next; length = l; sizes = sizes }) (after_of site segment pen)
unfolding after_of
after_is site segment f t h p g = rw (p, h, g, f, t)

curve-laid :
    {site : Site} {n : ℕ} {segment : PathSegment} {pen next : Pen} {b : Buffers} {l : Float} {b' : Buffers} {sizes : Sizes} (own more : ℕ)
    → own ≡ length (fields_of segment) → more ≡ length (table_stored segment) → next ≡ pen → sizes ≡ grown_by site.sizes own more → SegmentLaid (counts_at site) n segment b l b'
    → Laid site n (Some (Segment segment pen)) b (record { pen = next; length = l; sizes = sizes }) b'
curve-laid {site} {n} {segment} own more f t p g k = stored-laid (after_is site segment f t k.length_told p g) k

module _ {site : Site} {n : ℕ} {pen next : Pen} {b : Buffers} {l : Float} {b' : Buffers} {sizes : Sizes} (start : Point) (p : next ≡ pen) where
  pub quad-laid : (control end : Point) → sizes ≡ grown_by site.sizes 6 33 → SegmentLaid (counts_at site) n (Quad start control end) b l b'
      → Laid site n (Some (Segment (Quad start control end) pen)) b (record { pen = next; length = l; sizes = sizes }) b'
  unfolding has_table tables_of
  quad-laid control end g k = curve-laid 6 33 refl (sym (table-some (Quad start control end) refl)) p g k

  pub cubic-laid : (control1 control2 end : Point) → sizes ≡ grown_by site.sizes 8 33 → SegmentLaid (counts_at site) n (Cubic start control1 control2 end) b l b'
      → Laid site n (Some (Segment (Cubic start control1 control2 end) pen)) b (record { pen = next; length = l; sizes = sizes }) b'
  unfolding has_table tables_of
  cubic-laid control1 control2 end g k = curve-laid 8 33 refl (sym (table-some (Cubic start control1 control2 end) refl)) p g k

-- ---- what a command that is known draws

module _ (pen : Pen) {start : Point} (drawn : pen.current ≡ Some start) where
  pub line-drawn : (end : Point) → draw_of pen (LineTo end) ≡ Some (Segment (Line (line_of start end)) (drawn_of pen end))
  unfolding draw_of
  line-drawn end = rw drawn

  pub quad-drawn : (control end : Point) → draw_of pen (QuadTo control end) ≡ Some (Segment (Quad start control end) (drawn_of pen end))
  unfolding draw_of
  quad-drawn control end = rw drawn

  pub cubic-drawn : (control1 control2 end : Point) → draw_of pen (CubicTo control1 control2 end) ≡ Some (Segment (Cubic start control1 control2 end) (drawn_of pen end))
  unfolding draw_of
  cubic-drawn control1 control2 end = rw drawn

module _ (pen next : Pen) (undrawn : pen.current ≡ None) where
  pub line-undrawn : (end : Point) → next ≡ drawn_of pen end → draw_of pen (LineTo end) ≡ Some (Moved next)
  unfolding draw_of
  line-undrawn end n = rw (undrawn, n)

  pub quad-undrawn : (control end : Point) → next ≡ drawn_of pen end → draw_of pen (QuadTo control end) ≡ Some (Moved next)
  unfolding draw_of
  quad-undrawn control end n = rw (undrawn, n)

  pub cubic-undrawn : (control1 control2 end : Point) → next ≡ drawn_of pen end → draw_of pen (CubicTo control1 control2 end) ≡ Some (Moved next)
  unfolding draw_of
  cubic-undrawn control1 control2 end n = rw (undrawn, n)

-- nothing is stored
pub moved-laid : {site : Site} {n : ℕ} {b : Buffers} {pen : Pen} {drawn : Option Drawn} {r : Site} → drawn ≡ Some (Moved pen) → r ≡ moved_of site pen → Laid site n drawn b r b
unfolding kinds_of fields_of_all tables_of_all running_of next_of
moved-laid e f = rw e (record { site_after = f; after = refl })

pub turned-laid : {site : Site} {n : ℕ} {b : Buffers} {drawn : Option Drawn} → drawn ≡ None → Laid site n drawn b site b
unfolding kinds_of fields_of_all tables_of_all running_of next_of
turned-laid e = rw e (record { site_after = refl; after = refl })

-- the same, of a command whose drawing is known
pub room_at : {site : Site} {drawn drawn' : Option Drawn} {b : Buffers} → drawn ≡ drawn' → Room site drawn b → Room site drawn' b
room_at {site} {drawn} {drawn'} {b} e room = subst (λ x. Room site x b) e room

pub laid-at : {site : Site} {n : ℕ} {drawn drawn' : Option Drawn} {b : Buffers} {r : Site} {b' : Buffers} → drawn ≡ drawn' → Laid site n drawn' b r b' → Laid site n drawn b r b'
laid-at {site} {n} {drawn} {drawn'} {b} {r} {b'} e laid = subst (λ x. Laid site n x b r b') (sym e) laid
