-- What a lone segment answers at a progress, and how that leaves through C (document 01, "The answers"). Position and tangent are taken at the raw parameter that is given beside
-- them; lengths are in path units. Definitions only.
use Rattle.std.specs.Prelude.{cond, [], ◌∷◌, Float, Result, Ok, Err}
use Rattle.answers.specs.declared.refusals.Refusal.{Refusal}
use Rattle.answers.specs.Answers.{Answer, accepted, refused}
use Rattle.floats.specs.Floats.{bits_of, clamp01_of}
use Rattle.math.specs.declared.points.Point.{Point}
use Rattle.bezier.specs.declared.quads.QuadBezier.{QuadBezier}
use Rattle.bezier.specs.declared.cubics.CubicBezierCurve.{CubicBezierCurve}
use Rattle.bezier.specs.Quads.{quad_sample_of, quad_raw, quad_tangent_at}
use Rattle.bezier.specs.Cubics.{cubic_sample_of, cubic_raw, cubic_tangent_at}
use Rattle.ellipse.specs.Shape.{point_on, direction_on}
use Rattle.arc.specs.declared.lines.LineSegment.{LineSegment}
use Rattle.arc.specs.declared.arcs.EllipticalArc.{EllipticalArc}
use Rattle.arc.specs.Lines.{line_point_of, line_tangent_of, line_length_of}
use Rattle.arc.specs.Arcs.{chord_line, arc_raw}
use Rattle.kihavute_curves.specs.declared.lone.Lone.{Lone}

-- ---- how it leaves

-- x and y of the position, x and y of the tangent, the raw parameter, the length: floats as bits
abbrev pub lone_given : Lone → Answer
lone_given lone =
    accepted (bits_of lone.position.x ∷ bits_of lone.position.y ∷ bits_of lone.tangent.x ∷ bits_of lone.tangent.y
    ∷ bits_of lone.raw.value ∷ bits_of lone.length ∷ [])

-- a segment that cannot be had answers that, and any other what it is asked
abbrev pub asked : {Made : Type 0} → (Made → Lone) → Result Made Refusal → Answer
asked lone (Ok made) = lone_given (lone made)
asked lone (Err refusal) = refused refusal

-- ---- what it is

abbrev pub lone_at : Point → Point → Float → Float → Lone
lone_at position tangent raw length = record { position = position; tangent = tangent; raw = record { value = raw }; length = length }

-- a quad: the sample and the tangent at the raw parameter that its table gives, its table's total
unfoldable pub quad_lone : QuadBezier → Float → Lone
quad_lone curve progress =
    lone_at (quad_sample_of curve.start curve.control curve.end (quad_raw curve progress)) (quad_tangent_at curve (quad_raw curve progress) progress) (quad_raw curve progress)
    curve.table.total

-- a cubic likewise
unfoldable pub cubic_lone : CubicBezierCurve → Float → Lone
cubic_lone curve progress =
    lone_at (cubic_sample_of curve.start curve.control1 curve.control2 curve.end (cubic_raw curve progress)) (cubic_tangent_at curve (cubic_raw curve progress) progress)
    (cubic_raw curve progress) curve.table.total

-- a line: "The raw parameter of a line or fallback arc is its clamped local progress."
unfoldable pub line_lone : LineSegment → Float → Lone
line_lone line progress = lone_at (line_point_of line (clamp01_of progress)) (line_tangent_of line) (clamp01_of progress) (line_length_of line)

-- an arc: a point and a direction of its ellipse, its table's total; "(a fallback's, the line's)"
unfoldable pub arc_lone : EllipticalArc → Float → Lone
unfolding line_lone
arc_lone arc progress =
    cond arc.line_fallback (line_lone (chord_line arc.shape) progress)
    (lone_at (point_on arc.shape (arc_raw arc.table progress)) (direction_on arc.shape (arc_raw arc.table progress)) (arc_raw arc.table progress) arc.table.total)

-- ---- made and asked
abbrev pub quad_given : Result QuadBezier Refusal → Float → Answer
quad_given made progress = asked (λ curve. quad_lone curve progress) made

abbrev pub cubic_given : Result CubicBezierCurve Refusal → Float → Answer
cubic_given made progress = asked (λ curve. cubic_lone curve progress) made

abbrev pub line_given : Result LineSegment Refusal → Float → Answer
line_given made progress = asked (λ line. line_lone line progress) made

abbrev pub arc_given : Result EllipticalArc Refusal → Float → Answer
arc_given made progress = asked (λ arc. arc_lone arc progress) made
