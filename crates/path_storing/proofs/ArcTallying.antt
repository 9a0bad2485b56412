-- What an arc comes to where its end is calm: it counts eleven fields, and a table of 33 numbers unless it fell back to a line. Assumes nothing.
use mathlib.Core.Path.{◌≡◌, refl, ap}
use mathlib.Core.Bool.{true}
use lib.ListN.{length}
use Rattle.std.specs.Prelude.{Some}
use Rattle.ellipse.specs.declared.ends.Chord.{Chord}
use Rattle.ellipse.specs.Ends.{from_ends_of}
use Rattle.arc.specs.Arcs.{fallback_shape}
use Rattle.path_segment.specs.Segments.{has_table, tables_of}
use Rattle.path_segment.proofs.Tables.{table-some, table_none}
use Rattle.path_segment.specs.declared.segments.PathSegment.TheVariants.{Arc, Fallback}
use Rattle.path_bounds.specs.Calm.{is_calm_arc}
use Rattle.path_drawing.specs.declared.pens.Pen.{Pen}
use Rattle.path_drawing.specs.declared.strokes.Drawn.TheVariants.{Segment}
use Rattle.path_storing.specs.Tallies.{grown_of, counted_of}
use Rattle.path_storing.specs.declared.tallies.Tally.{Tally}

module _ (tally : Tally) (chord : Chord) (next : Pen) where
  pub fallback-counted : Some (grown_of tally next 11 0) ≡ counted_of tally (Some (Segment (Fallback (fallback_shape chord)) next))
  unfolding counted_of has_table tables_of
  fallback-counted = rw (ap length (table_none (Fallback (fallback_shape chord)) refl))

  pub arc-counted : is_calm_arc (from_ends_of chord) ≡ true → Some (grown_of tally next 11 33) ≡ counted_of tally (Some (Segment (Arc (from_ends_of chord)) next))
  unfolding counted_of has_table tables_of
  arc-counted calm = rw (calm, table-some (Arc (from_ends_of chord)) refl)

-- the two, as `using` takes no name with a dash
pub ruleset arc_ways = (arc-counted, fallback-counted)
