-- A fallback answers as its line; else point and direction are taken at what the lookup gives. Assumes nothing.
use borrow.Author.Rules.{rules}
use mathlib.Core.Path.{sym, ap, ◌∙◌}
use Rattle.ellipse.specs.Shape.{point_on, direction_on}
use Rattle.arc.specs.declared.lines.LineSegment.{LineSegment}
use Rattle.kihavute_curves.specs.Lone.{line_lone}
use Rattle.kihavute_curves.proofs.LoneGiven.{arc-total, lone_is, alone-on-line, alone-on-arc}
use Rattle.kihavute_curves.proofs.lone.arc_lone.Goals as goal

pub returns-then-arc : goal.returns-then-arc
returns-then-arc c =
    c.line_lone.ensures ∙ ap (λ (l : LineSegment). line_lone l c.args.progress.value) c.chord_line.ensures ∙ alone-on-line _ _ c.if-arc.true

pub raw_parameter-raw-requires : goal.raw_parameter-raw-requires
raw_parameter-raw-requires c = c.requires c.if-arc.false

pub returns : goal.returns
returns c =
    lone_is c.raw_parameter-raw.result (c.arc_sample-position.ensures ∙ ap (point_on _) c.raw_parameter-raw.ensures) (c.arc_heading-tangent.ensures ∙ ap (direction_on _) c.raw_parameter-raw.ensures) c.raw_parameter-raw.ensures
    (c.arc_length-length.ensures ∙ arc-total _ c.if-arc.false)
    ∙ alone-on-arc _ _ c.if-arc.false
