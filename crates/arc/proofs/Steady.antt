-- Demand 3 for arcs: the raw parameter at which `position` samples never steps back, starts at 0, ends at 1, and lies between the places of the two entries that enclose the target. An
-- accepted arc that is no line fallback has such a table, a sound one too, so that the queries of `inner` may be asked of it. Assumes nothing.
use mathlib.Core.Path.{◌≡◌, refl, sym, ap, ◌∙◌, subst}
use mathlib.Core.Bool.{Bool, true, false, cond}
use Prim.Native.Nat.{ℕ}
use native.Mathlib.Omega.{arith}
use lib.Dec.{T}
use lib.Ieee.{Float}
use lib.Ieee.Scale.{finite}
use Rattle.table.specs.declared.tables.Table.{Table}
use Rattle.table.specs.Lookup.{last_of}
use Rattle.table_order.specs.Stated.{F32Table}
use Rattle.table_order.specs.Swept.{Steady}
use Rattle.table_order.proofs.Swept.{steady}
use Rattle.std.specs.Prelude.{Ok, Err}
use Rattle.bezier.specs.Curves.{verdict_of}
use Rattle.bezier.proofs.Steady.{made-whole, accepted-table, made-last}
use Rattle.ellipse.specs.declared.ends.Chord.{Chord}
use Rattle.ellipse.specs.declared.ends.Arc.{Arc}
use Rattle.ellipse.specs.Ends.{from_ends_of}
use Rattle.ellipse.specs.Shape.{point_on}
use Rattle.arc.specs.declared.arcs.EllipticalArc.{EllipticalArc}
use Rattle.arc.specs.Arcs.{is_fallback, fallen_back, fitted, out_of_range, made_arc_of, arc_raw, arc_position_of}

-- ---- a stored table
pub arc-steady : (table : Table) → F32Table table.entries table.total → Steady (last_of table.entries) table.entries table.total (arc_raw table)
arc-steady table f = steady f

pub arc-at-raw : (shape : Arc) (table : Table) (p : Float) → arc_position_of shape table p ≡ point_on shape (arc_raw table p)
unfolding arc_position_of
arc-at-raw shape table p = refl

-- ---- a made one, by the two tests of `arc`
record WholeTable (table : Table) : Type 0 where
  held : F32Table table.entries table.total
  last : last_of table.entries ≡ 31

whole_by : (chord : Chord) (arc : EllipticalArc) (b d : Bool) → cond b (fallen_back chord) (cond d (fitted chord) (out_of_range chord)) ≡ Ok arc
    → arc.line_fallback ≡ false → WholeTable arc.table
unfolding fallen_back fitted out_of_range
whole_by chord arc true d made curved =
    let own = made-whole _ _ arc made in absurd (subst T (ap (λ (a : EllipticalArc). a.line_fallback) own.1 ∙ curved) tt)
whole_by chord arc false true made curved =
    let own = made-whole _ _ arc made in
    subst WholeTable (ap (λ (a : EllipticalArc). a.table) own.1) (record { held = accepted-table (point_on (from_ends_of chord)) own.0; last = made-last (point_on (from_ends_of chord)) })
whole_by chord arc false false made curved = cc

module _ (chord : Chord) (arc : EllipticalArc) (made : made_arc_of chord ≡ Ok arc) (curved : arc.line_fallback ≡ false) where
  whole : WholeTable arc.table
  unfolding made_arc_of
  whole = whole_by chord arc (is_fallback chord) (finite chord.x_axis_rotation) made curved

  pub made-arc-table : F32Table arc.table.entries arc.table.total
  made-arc-table = whole.held

  pub made-arc-steady : Steady 31 arc.table.entries arc.table.total (arc_raw arc.table)
  made-arc-steady = subst (λ (n : ℕ). Steady n arc.table.entries arc.table.total (arc_raw arc.table)) whole.last (steady made-arc-table)
