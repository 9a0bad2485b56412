-- A count of calm points is what judging every length comes to: as long as the pen is calm and the running length is within so many times 2^69, no command whose points
-- are calm is refused for its length. Assumes nothing.
use Prim.Native.Nat.{◌*◌, ◌^◌}
use mathlib.Core.Path.{◌≡◌, refl, sym, ap, subst}
use mathlib.Core.Bool.{Bool, true, false, ◌&&◌, cond}
use native.Mathlib.Numerals.{add-one}
use lib.Dec.{T}
use lib.Ieee.{Float, of_bits, neg, le, lt, eq}
use lib.Ieee.Fits.{and_l, and_r}
use lib.Ieee.Scale.{finite}
use lib.ListN.{length}
use Rattle.std.specs.Prelude.{Option, Some, None, Ok}
use Rattle.floats.specs.Floats.{zero_f}
use Rattle.floats.proofs.Tests.{passed}
use Rattle.math.specs.Math.{origin_f}
use Rattle.math.specs.declared.points.Point.{Point}
use Rattle.commands.specs.declared.command.PathCommand.{PathCommand}
use Rattle.commands.specs.declared.command.PathCommand.TheVariants.{MoveTo, LineTo, QuadTo, CubicTo, ArcTo, ClosePath}
use Rattle.ellipse.specs.declared.ends.Chord.{Chord}
use Rattle.ellipse.specs.Ends.{from_ends_of}
use Rattle.arc.specs.Lines.{line_of}
use Rattle.arc.specs.Arcs.{is_fallback, fallback_shape}
use Rattle.path_segment.specs.Segments.{fields_of, table_stored, length_for}
use Rattle.path_segment.specs.declared.segments.PathSegment.{PathSegment}
use Rattle.path_segment.specs.declared.segments.PathSegment.TheVariants.{Line, Quad, Cubic, Arc, Fallback}
use Rattle.path_bounds.specs.Calm.{far_f, back_f, is_near, is_calm}
use Rattle.floats.proofs.Within.{Within}
use Rattle.path_bounds.proofs.Arcs.{arc-short}
use Rattle.path_bounds.proofs.Lengths.{zero-within}
use Rattle.path_bounds.proofs.Segments.{line-short, quad-short, cubic-short, fallback-short, running-short}
use Rattle.path_drawing.specs.Drawing.{fresh_of, stroke_of, drawn_of, arc_of, arc_stroke_of, close_of, draw_of}
use Rattle.path_drawing.specs.Building.{length_after}
use Rattle.path_drawing.specs.declared.pens.Pen.{Pen}
use Rattle.path_drawing.specs.declared.strokes.Drawn.{Drawn}
use Rattle.path_drawing.specs.declared.strokes.Drawn.TheVariants.{Moved, Segment}
use Rattle.path_storing.specs.Sites.{start_of, after_of, moved_of, judged_of, advance_of, FewAt}
use Rattle.path_storing.specs.Tallies.{tally_of, stayed_of, grown_of, names_calm, is_bounded, counted_of, tallied_of}
use Rattle.path_storing.specs.declared.sites.Site.{Site}
use Rattle.path_storing.specs.declared.tallies.Tally.{Tally}
use Rattle.path_storing.proofs.Judged.{goes_on}

-- ---- what is known of a site
abbrev pub CalmPoint : Option Point → Type 0
CalmPoint (Some point) = T (is_calm point)
CalmPoint None = Unit {0}

pub record CalmPen (pen : Pen) : Type 0 where
  pub current : CalmPoint pen.current
  pub start : T (is_calm pen.start)

pub record Calm (site : Site) : Type 0 where
  pub pen : CalmPen site.pen
  pub length : Within (site.sizes.segments * 2 ^ 69) site.length

origin-calm : T (is_calm origin_f)
unfolding is_calm is_near far_f back_f origin_f zero_f of_bits neg le lt eq
origin-calm = tt

pub calm-start : Calm start_of
unfolding start_of fresh_of
calm-start = record { pen = record { current = tt; start = origin-calm }; length = zero-within 69 }

-- ---- what a command draws between calm points
abbrev Short : PathSegment → Type 0
Short segment = T (is_bounded segment) → Within (2 ^ 69) (length_for segment)

abbrev Fine : Option Drawn → Type 0
Fine (Some (Moved next)) = CalmPen next
Fine (Some (Segment segment next)) = CalmPen next × Short segment
Fine None = Unit {0}

module _ (pen : Pen) (calm : CalmPen pen) where
  stroke-fine : (current : Option Point) → CalmPoint current → (segment : Point → PathSegment) (next : Pen) → CalmPen next
      → ((start : Point) → T (is_calm start) → Short (segment start)) → Fine (Some (stroke_of current segment next))
  stroke-fine (Some start) c segment next p s = (p, s start c)
  stroke-fine None c segment next p s = p

  arc-fine : (fallback turned : Bool) (chord : Chord) (next : Pen) → CalmPen next → T (is_calm chord.start) → T (is_calm chord.end)
      → Fine (cond fallback (Some (Segment (Fallback (fallback_shape chord)) next)) (cond turned (Some (Segment (Arc (from_ends_of chord)) next)) None))
  unfolding fallback_shape
  arc-fine true turned chord next p s e = (p, λ b. fallback-short (fallback_shape chord) s e)
  arc-fine false true chord next p s e = (p, λ b. arc-short (from_ends_of chord) b)
  arc-fine false false chord next p s e = tt

  arc-stroke-fine : (current : Option Point) → CalmPoint current → (radii end : Point) (rotation : Float) (large sweep : Bool) (next : Pen) → CalmPen next → T (is_calm end)
      → Fine (arc_stroke_of current (λ start. record { start = start; radii = radii; x_axis_rotation = rotation; large_arc = large; sweep = sweep; end = end }) next)
  unfolding arc_stroke_of arc_of
  arc-stroke-fine (Some start) c radii end rotation large sweep next p e =
      let chord : Chord = record { start = start; radii = radii; x_axis_rotation = rotation; large_arc = large; sweep = sweep; end = end } in
      arc-fine (is_fallback chord) (finite rotation) chord next p c e
  arc-stroke-fine None c radii end rotation large sweep next p e = p

  close-fine : (current : Option Point) → CalmPoint current → Fine (Some (close_of current pen))
  close-fine (Some current) c = (record { current = calm.start; start = calm.start }, λ b. line-short current pen.start c calm.start)
  close-fine None c = calm

  fine : (command : PathCommand) → T (names_calm command) → Fine (draw_of pen command)
  unfolding draw_of
  fine (MoveTo point) n = record { current = n; start = n }
  fine (LineTo end) n =
      stroke-fine pen.current calm.current (λ start. Line (line_of start end)) (drawn_of pen end) (record { current = n; start = calm.start })
      (λ start c b. line-short start end c n)
  fine (QuadTo control end) n =
      let c = and_l (is_calm control) (is_calm end) n in
      let e = and_r (is_calm control) (is_calm end) n in
      stroke-fine pen.current calm.current (λ start. Quad start control end) (drawn_of pen end) (record { current = e; start = calm.start })
      (λ start s b. quad-short start control end s c e)
  fine (CubicTo control1 control2 end) n =
      let both = and_l (is_calm control1 && is_calm control2) (is_calm end) n in
      let e = and_r (is_calm control1 && is_calm control2) (is_calm end) n in
      stroke-fine pen.current calm.current (λ start. Cubic start control1 control2 end) (drawn_of pen end) (record { current = e; start = calm.start })
      (λ start s b. cubic-short start control1 control2 end s (and_l (is_calm control1) (is_calm control2) both) (and_r (is_calm control1) (is_calm control2) both) e)
  fine (ArcTo radii rotation large sweep end) n =
      arc-stroke-fine pen.current calm.current radii end rotation large sweep (drawn_of pen end) (record { current = n; start = calm.start }) n
  fine ClosePath n = close-fine pen.current calm.current

-- ---- the count goes on where the judging does
yes : (b : Bool) → T b → b ≡ true
yes true t = refl
yes false t = absurd t

abbrev pub Foresees : Site → PathCommand → Tally → Type 0
Foresees site command next = (further : Site) × (advance_of site command ≡ Ok further) × (tally_of further ≡ next) × Calm further

module _ (site : Site) (few : FewAt site) (calm : Calm site) (command : PathCommand) (next : Tally) where
  moves : (pen : Pen) → CalmPen pen → draw_of site.pen command ≡ Some (Moved pen) → stayed_of (tally_of site) pen ≡ next → Foresees site command next
  unfolding advance_of judged_of moved_of tally_of
  moves pen p d e = (moved_of site pen, ap (judged_of site) d, e, record { pen = p; length = calm.length })

  draws :
      (segment : PathSegment) (pen : Pen) → CalmPen pen → Within (2 ^ 69) (length_for segment) → draw_of site.pen command ≡ Some (Segment segment pen)
      → grown_of (tally_of site) pen (length (fields_of segment)) (length (table_stored segment)) ≡ next → Foresees site command next
  unfolding after_of tally_of
  draws segment pen p w d e =
      let longer = running-short site.sizes.segments site.length (length_for segment) few.segments calm.length w in (
        after_of site segment pen,
        sym (goes_on site command segment pen d (length_after site.length segment) refl (yes (finite (length_after site.length segment)) longer.whole) (after_of site segment pen) refl),
        e,
        record { pen = p; length = subst (λ n. Within (n * 2 ^ 69) (length_after site.length segment)) (sym (add-one site.sizes.segments)) longer },
      )

  by-drawn : (drawn : Option Drawn) → draw_of site.pen command ≡ drawn → Fine drawn → counted_of (tally_of site) drawn ≡ Some next → Foresees site command next
  unfolding counted_of
  by-drawn (Some (Moved pen)) d f e = moves pen f d (let g : stayed_of (tally_of site) pen ≡ next = cc in g)
  by-drawn (Some (Segment segment pen)) d f e = by-bound (is_bounded segment) refl e
    where
      by-bound :
          (b : Bool) → is_bounded segment ≡ b → cond b (Some (grown_of (tally_of site) pen (length (fields_of segment)) (length (table_stored segment)))) None ≡ Some next → Foresees site command next
      by-bound true b g = draws segment pen f.0 (f.1 (passed b)) d (let h : grown_of (tally_of site) pen (length (fields_of segment)) (length (table_stored segment)) ≡ next = cc in h)
      by-bound false b g = cc
  by-drawn None d f e = cc

  pub foreseen : tallied_of (tally_of site) command ≡ Some next → Foresees site command next
  unfolding tallied_of tally_of
  foreseen e = by_names (names_calm command) refl e
    where
      by_names : (b : Bool) → names_calm command ≡ b → cond b (counted_of (tally_of site) (draw_of (tally_of site).pen command)) None ≡ Some next → Foresees site command next
      by_names true b g = by-drawn (draw_of site.pen command) refl (fine site.pen calm.pen command (passed b)) g
      by_names false b g = cc
