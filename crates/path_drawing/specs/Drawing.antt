-- What one command draws (source document 002, `from_commands`; document 01, "Lengths, tables and lookup", "Building"). Definitions only.
use Rattle.std.specs.Prelude.{cond, Option, Some, None}
use Rattle.std.specs.Float.Ieee.Scale.{finite}
use Rattle.math.specs.Math.{origin_f}
use Rattle.math.specs.declared.points.Point.{Point}
use Rattle.commands.specs.declared.command.PathCommand.{PathCommand}
use Rattle.commands.specs.declared.command.PathCommand.TheVariants.{MoveTo, LineTo, QuadTo, CubicTo, ArcTo, ClosePath}
use Rattle.ellipse.specs.Ends.{from_ends_of}
use Rattle.ellipse.specs.declared.ends.Chord.{Chord}
use Rattle.arc.specs.Lines.{line_of}
use Rattle.arc.specs.Arcs.{is_fallback, fallback_shape}
use Rattle.path_segment.specs.declared.segments.PathSegment.{PathSegment}
use Rattle.path_segment.specs.declared.segments.PathSegment.TheVariants.{Line, Quad, Cubic, Arc, Fallback}
use Rattle.path_drawing.specs.declared.pens.Pen.{Pen}
use Rattle.path_drawing.specs.declared.strokes.Drawn.{Drawn}
use Rattle.path_drawing.specs.declared.strokes.Drawn.TheVariants.{Moved, Segment}

-- ---- the pen

-- no current point; the subpath's start is (0, 0) until a MoveTo
unfoldable pub fresh_of : Pen
fresh_of = record { current = None; start = origin_f }

-- after a MoveTo
abbrev pub moved_of : Point → Pen
moved_of point = record { current = Some point; start = point }

-- after a command that ends at a point: the subpath's start stays, also where no MoveTo came before
abbrev pub drawn_of : Pen → Point → Pen
drawn_of pen end = record { current = Some end; start = pen.start }

-- ---- what a command makes

-- "a drawing command without current point makes no segment but sets the point"
abbrev pub stroke_of : Option Point → (Point → PathSegment) → Pen → Drawn
stroke_of (Some start) segment next = Segment (segment start) next
stroke_of None segment next = Moved next

-- `EllipticalArc::from_svg`: the line fallback, which may have any rotation; else 10 is "for a rotation that is NaN or infinite"
unfoldable pub arc_of : Chord → Pen → Option Drawn
arc_of chord next =
    cond (is_fallback chord) (Some (Segment (Fallback (fallback_shape chord)) next)) (cond (finite chord.x_axis_rotation) (Some (Segment (Arc (from_ends_of chord)) next)) None)

-- the same for an arc, of which nothing is judged without a current point
unfoldable pub arc_stroke_of : Option Point → (Point → Chord) → Pen → Option Drawn
unfolding arc_of
arc_stroke_of (Some start) chord next = arc_of (chord start) next
arc_stroke_of None chord next = Some (Moved next)

-- a close, which leaves the pen as it is without a current point
abbrev pub close_of : Option Point → Pen → Drawn
close_of (Some current) pen = Segment (Line (line_of current pen.start)) (drawn_of pen pen.start)
close_of None pen = Moved pen

-- nothing for a rotation out of range
unfoldable pub draw_of : Pen → PathCommand → Option Drawn
unfolding arc_stroke_of
draw_of pen (MoveTo point) = Some (Moved (moved_of point))
draw_of pen (LineTo end) = Some (stroke_of pen.current (λ start. Line (line_of start end)) (drawn_of pen end))
draw_of pen (QuadTo control end) = Some (stroke_of pen.current (λ start. Quad start control end) (drawn_of pen end))
draw_of pen (CubicTo control1 control2 end) = Some (stroke_of pen.current (λ start. Cubic start control1 control2 end) (drawn_of pen end))
draw_of pen (ArcTo radii rotation large sweep end) =
    let chord : Point → Chord = λ start. record { start = start; radii = radii; x_axis_rotation = rotation; large_arc = large; sweep = sweep; end = end } in
    arc_stroke_of pen.current chord (drawn_of pen end)
-- "ClosePath adds a line even of length 0, and nothing without a current point": it ends at the subpath's start
draw_of pen ClosePath = Some (close_of pen.current pen)
