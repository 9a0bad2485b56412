-- What a command comes to where its points are calm, way by way. Assumes nothing.
use Prim.Native.Nat.{ℕ}
use mathlib.Core.Path.{◌≡◌, refl, sym, ap}
use mathlib.Core.Bool.{Bool, true, false, ◌&&◌, cond}
use lib.ListN.{length}
use Rattle.std.specs.Prelude.{Option, Some, None}
use Rattle.math.specs.declared.points.Point.{Point}
use Rattle.commands.specs.declared.command.PathCommand.TheVariants.{LineTo, QuadTo, CubicTo}
use Rattle.ellipse.specs.declared.ends.Arc.{Arc as Shape}
use Rattle.arc.specs.Lines.{line_of}
use Rattle.path_segment.specs.Segments.{has_table, tables_of, fields_of, table_stored}
use Rattle.path_segment.proofs.Tables.{table-some, table_none}
use Rattle.path_segment.specs.declared.segments.PathSegment.{PathSegment}
use Rattle.path_segment.specs.declared.segments.PathSegment.TheVariants.{Line, Quad, Cubic, Arc}
use Rattle.path_bounds.specs.Calm.{is_calm, is_calm_arc}
use Rattle.path_drawing.specs.Drawing.{stroke_of, drawn_of, draw_of}
use Rattle.path_drawing.specs.declared.pens.Pen.{Pen}
use Rattle.path_drawing.specs.declared.strokes.Drawn.{Drawn}
use Rattle.path_drawing.specs.declared.strokes.Drawn.TheVariants.{Segment}
use Rattle.path_storing.specs.Tallies.{grown_of, passed_of, stroked_of, is_bounded, counted_of, tallied_of}
use Rattle.path_storing.specs.declared.tallies.Tally.{Tally}

-- an arc is judged by its fields
pub bounded-arc : (segment : PathSegment) (shape : Shape) → segment ≡ Arc shape → is_calm_arc shape ≡ is_bounded segment
bounded-arc segment shape e = rw e

-- a segment that is not long counts what it stores
pub grown-counted :
    (tally : Tally) {r : Tally} {drawn : Option Drawn} {segment : PathSegment} {next : Pen} {own more : ℕ}
    → drawn ≡ Some (Segment segment next) → is_bounded segment ≡ true → own ≡ length (fields_of segment) → more ≡ length (table_stored segment)
    → r ≡ grown_of tally next own more → Some r ≡ counted_of tally drawn
unfolding counted_of
grown-counted tally d b f t g = rw (d, b, g, f, t)

-- a stroke counts what its segment stores
module _
    (tally : Tally) (calm : Bool) (segment : Point → PathSegment) (end : Point) (own more : ℕ) (f : (start : Point) → own ≡ length (fields_of (segment start)))
    (t : (start : Point) → more ≡ length (table_stored (segment start))) (b : (start : Point) → is_bounded (segment start) ≡ true)
  where
    stroke-is : stroked_of tally calm end own more ≡ cond calm (counted_of tally (Some (stroke_of tally.pen.current segment (drawn_of tally.pen end)))) None
    unfolding stroked_of counted_of
    stroke-is = by calm tally.pen.current
      where
        by :
            (c : Bool) (current : Option Point)
            → cond c (Some (passed_of current tally (drawn_of tally.pen end) own more)) None
            ≡ cond c (counted_of tally (Some (stroke_of current segment (drawn_of tally.pen end)))) None
        by false current = refl
        by true None = refl
        by true (Some start) = rw (b start, f start, t start)

module _ (tally : Tally) where
  pub line-tallied : (end : Point) → stroked_of tally (is_calm end) end 4 0 ≡ tallied_of tally (LineTo end)
  unfolding tallied_of draw_of has_table tables_of
  line-tallied end =
      stroke-is tally (is_calm end) (λ start. Line (line_of start end)) end 4 0 (λ start. refl) (λ start. sym (ap length (table_none (Line (line_of start end)) refl))) (λ start. refl)

  pub quad-tallied : (control end : Point) → stroked_of tally (is_calm control && is_calm end) end 6 33 ≡ tallied_of tally (QuadTo control end)
  unfolding tallied_of draw_of has_table tables_of
  quad-tallied control end =
      stroke-is tally (is_calm control && is_calm end) (λ start. Quad start control end) end 6 33 (λ start. refl) (λ start. sym (table-some (Quad start control end) refl)) (λ start. refl)

  pub cubic-tallied :
      (control1 control2 end : Point) → stroked_of tally ((is_calm control1 && is_calm control2) && is_calm end) end 8 33 ≡ tallied_of tally (CubicTo control1 control2 end)
  unfolding tallied_of draw_of has_table tables_of
  cubic-tallied control1 control2 end =
      stroke-is tally ((is_calm control1 && is_calm control2) && is_calm end) (λ start. Cubic start control1 control2 end) end 8 33 (λ start. refl)
      (λ start. sym (table-some (Cubic start control1 control2 end) refl)) (λ start. refl)
