-- What a lone segment answers, by its parts; and that a made one has a sound table, so that it can be asked. Assumes nothing.
use Prim.Native.Nat.{ℕ}
use mathlib.Core.Path.{◌≡◌, sym, ap, subst, ◌∙◌}
use mathlib.Core.Bool.{true, false}
use mathlib.Core.List.{[], ◌∷◌}
use lib.Dec.{T}
use Rattle.std.specs.Prelude.{Ok}
use lib.Ieee.{Float}
use Rattle.answers.specs.declared.refusals.Refusal.{Refusal}
use Rattle.answers.specs.Answers.{Answer, accepted, refused}
use Rattle.floats.specs.Floats.{bits_of}
use Rattle.math.specs.declared.points.Point.{Point}
use Rattle.table.specs.declared.tables.Table.{Table}
use Rattle.table.specs.declared.quantities.RawParameter.{RawParameter}
use Rattle.table.specs.Sound.{table_is_sound}
use Rattle.bezier.specs.declared.quads.QuadBezier.{QuadBezier}
use Rattle.bezier.specs.declared.cubics.CubicBezierCurve.{CubicBezierCurve}
use Rattle.bezier.specs.Quads.{quad_sample_of, quad_of, made_quad_of}
use Rattle.bezier.specs.Cubics.{cubic_sample_of, cubic_of, made_cubic_of}
use Rattle.bezier.proofs.Steady.{accepted-table, made-whole}
use Rattle.ellipse.specs.declared.ends.Chord.{Chord}
use Rattle.ellipse.specs.Shape.{point_on, direction_on}
use Rattle.arc.specs.declared.arcs.EllipticalArc.{EllipticalArc}
use Rattle.arc.specs.Arcs.{chord_line, arc_raw, made_arc_of, arc_length_of}
use Rattle.arc.proofs.Steady.{made-arc-table}
use Rattle.kihavute_curves.specs.declared.lone.Lone.{Lone}
use Rattle.kihavute_curves.specs.Lone.{lone_at, line_lone, arc_lone}

-- ---- its parts, the raw parameter by its value
pub lone_is : {p q t u : Point} (r : RawParameter) {x l m : Float} → p ≡ q → t ≡ u → r.value ≡ x → l ≡ m
    → ◌≡◌ {A = Lone} (record { position = p; tangent = t; raw = r; length = l }) (lone_at q u x m)
lone_is {p} {q} {t} {u} r {x} {l} {m} e f g h = rw (e, f, h) (ap (λ (v : Float). lone_at q u v m) g)

-- ---- an arc, by its kind
module _ (arc : EllipticalArc) (progress : Float) where
  pub alone-on-line : arc.line_fallback ≡ true → line_lone (chord_line arc.shape) progress ≡ arc_lone arc progress
  unfolding arc_lone
  alone-on-line h = rw h

  pub alone-on-arc : arc.line_fallback ≡ false
      → let raw = arc_raw arc.table progress in lone_at (point_on arc.shape raw) (direction_on arc.shape raw) raw arc.table.total ≡ arc_lone arc progress
  unfolding arc_lone
  alone-on-arc h = rw h

-- an arc that did not fall back is as long as its table says
pub arc-total : (arc : EllipticalArc) → arc.line_fallback ≡ false → arc_length_of arc ≡ arc.table.total
unfolding arc_length_of
arc-total arc h = rw h

-- ---- a made segment can be asked
abbrev Sound : Table → Type 0
Sound table = T (table_is_sound table.entries table.total)

pub quad-askable : (start control end : Point) {curve : QuadBezier} → made_quad_of start control end ≡ Ok curve → Sound curve.table
unfolding made_quad_of quad_of
quad-askable start control end made =
    let w = made-whole _ _ _ made in subst (λ (c : QuadBezier). Sound c.table) w.1 (accepted-table (quad_sample_of start control end) w.0).table.sound

pub cubic-askable : (start control1 control2 end : Point) {curve : CubicBezierCurve} → made_cubic_of start control1 control2 end ≡ Ok curve → Sound curve.table
unfolding made_cubic_of cubic_of
cubic-askable start control1 control2 end made =
    let w = made-whole _ _ _ made in subst (λ (c : CubicBezierCurve). Sound c.table) w.1 (accepted-table (cubic_sample_of start control1 control2 end) w.0).table.sound

pub arc-askable : (chord : Chord) {arc : EllipticalArc} → made_arc_of chord ≡ Ok arc → arc.line_fallback ≡ false → Sound arc.table
arc-askable chord {arc} made curved = (made-arc-table chord arc made curved).table.sound
