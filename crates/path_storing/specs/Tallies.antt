-- What is counted of a path before anything is stored, with no length measured. That such a count is what judging every length comes to is a law. Definitions only.
use Rattle.std.specs.Prelude.{ℕ, Bool, true, ◌&&◌, cond, Option, Some, None, length}
use Rattle.math.specs.declared.points.Point.{Point}
use Rattle.commands.specs.declared.command.PathCommand.{PathCommand}
use Rattle.commands.specs.declared.command.PathCommand.TheVariants.{MoveTo, LineTo, QuadTo, CubicTo, ArcTo, ClosePath}
use Rattle.path_segment.specs.Segments.{fields_of, table_stored}
use Rattle.path_segment.specs.declared.segments.PathSegment.{PathSegment}
use Rattle.path_segment.specs.declared.segments.PathSegment.TheVariants.{Line, Quad, Cubic, Arc, Fallback}
use Rattle.path_bounds.specs.Calm.{is_calm, is_calm_arc}
use Rattle.path_drawing.specs.Drawing.{drawn_of, draw_of}
use Rattle.path_drawing.specs.declared.pens.Pen.{Pen}
use Rattle.path_drawing.specs.declared.strokes.Drawn.{Drawn}
use Rattle.path_drawing.specs.declared.strokes.Drawn.TheVariants.{Moved, Segment}
use Rattle.path_storing.specs.declared.sites.Site.{Site}
use Rattle.path_storing.specs.Sites.{Few, grown_by}
use Rattle.path_storing.specs.declared.tallies.Tally.{Tally}

-- a site without its running length
unfoldable pub tally_of : Site → Tally
tally_of site = record { pen = site.pen; sizes = site.sizes }

-- it has so few segments that every count fits
abbrev pub FewIn : Tally → Type 0
FewIn tally = Few tally.sizes

-- after a command that draws no segment, and after one of so many fields, with so many numbers in its table
abbrev pub stayed_of : Tally → Pen → Tally
stayed_of tally next = record { pen = next; sizes = tally.sizes }

abbrev pub grown_of : Tally → Pen → ℕ → ℕ → Tally
grown_of tally next own more = record { pen = next; sizes = grown_by tally.sizes own more }

-- after a line or a curve, which is none without a current point
abbrev pub passed_of : Option Point → Tally → Pen → ℕ → ℕ → Tally
passed_of (Some start) tally next own more = grown_of tally next own more
passed_of None tally next own more = stayed_of tally next

-- a line or a curve to an end, where its points are calm
unfoldable pub stroked_of : Tally → Bool → Point → ℕ → ℕ → Option Tally
stroked_of tally calm end own more = cond calm (Some (passed_of tally.pen.current tally (drawn_of tally.pen end) own more)) None

-- the points that a command names; radii are no points
abbrev pub names_calm : PathCommand → Bool
names_calm (MoveTo point) = is_calm point
names_calm (LineTo end) = is_calm end
names_calm (QuadTo control end) = is_calm control && is_calm end
names_calm (CubicTo control1 control2 end) = (is_calm control1 && is_calm control2) && is_calm end
names_calm (ArcTo radii rotation large sweep end) = is_calm end
names_calm ClosePath = true

-- of the segments between calm points only an arc may be long: its centre, radii and angles tell
abbrev pub is_bounded : PathSegment → Bool
is_bounded (Line line) = true
is_bounded (Quad start control end) = true
is_bounded (Cubic start control1 control2 end) = true
is_bounded (Arc shape) = is_calm_arc shape
is_bounded (Fallback shape) = true

unfoldable pub counted_of : Tally → Option Drawn → Option Tally
counted_of tally (Some (Moved next)) = Some (stayed_of tally next)
counted_of tally (Some (Segment segment next)) = cond (is_bounded segment) (Some (grown_of tally next (length (fields_of segment)) (length (table_stored segment)))) None
counted_of tally None = None

unfoldable pub tallied_of : Tally → PathCommand → Option Tally
unfolding counted_of
tallied_of tally command = cond (names_calm command) (counted_of tally (draw_of tally.pen command)) None
