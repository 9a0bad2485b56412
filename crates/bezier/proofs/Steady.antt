-- Demand 3 for quads and cubics: the raw parameter at which `position` samples never steps back, starts at 0, ends at 1, and lies between the places of the two entries that enclose
-- the target (`Steady` of table_order/specs/Swept.antt). It holds of every curve with a sound table of f32 values, and a made curve that was accepted has one of 32 entries. Assumes nothing.
use mathlib.Core.Path.{◌≡◌, refl, sym, ap, ◌∙◌, subst}
use mathlib.Core.Bool.{Bool, true, false, cond}
use Prim.Native.Nat.{ℕ, ◌-◌, ◌≤◌}
use native.Mathlib.Omega.{arith}
use lib.Dec.{T}
use lib.ListN.{length}
use lib.Ieee.{Float}
use lib.Ieee.Scale.{finite}
use Rattle.answers.specs.declared.refusals.Refusal.TheVariants.{NotFinite}
use Rattle.math.specs.declared.points.Point.{Point}
use Rattle.table.specs.Lookup.{last_of, raw_of}
use Rattle.table.specs.declared.tables.Table.{Table}
use Rattle.table_order.specs.Stated.{F32Table}
use Rattle.table_order.specs.Swept.{Steady}
use Rattle.table_order.proofs.Swept.{steady}
use Rattle.table_samples.specs.Samples.{total_of, lengths_of, table_of}
use Rattle.table_samples.proofs.Made.{made-sound, made-fits, made-total-fits, made-count}
use Rattle.std.specs.Prelude.{Result, Ok, Err}
use Rattle.answers.specs.declared.refusals.Refusal.{Refusal}
use Rattle.bezier.specs.declared.quads.QuadBezier.{QuadBezier}
use Rattle.bezier.specs.declared.cubics.CubicBezierCurve.{CubicBezierCurve}
use Rattle.bezier.specs.Curves.{verdict_of, made_by}
use Rattle.bezier.specs.Quads.{quad_sample_of, quad_of, made_quad_of, quad_raw, quad_position_of}
use Rattle.bezier.specs.Cubics.{cubic_sample_of, cubic_of, made_cubic_of, cubic_raw, cubic_position_of}

-- ---- a made table
abbrev pub Made : (Float → Point) → Type 0
Made formula = F32Table (table_of formula).entries (table_of formula).total

few : (n : ℕ) → n ≡ 32 → n - 1 ≤ 16777216
few n e = omega arith

made_table : (formula : Float → Point) → T (finite (total_of formula 31)) → Made formula
unfolding table_of
made_table formula h = record {
  table = record { sound = made-sound formula 31 h; counted = few (length (lengths_of formula 31)) (made-count formula 31) };
  values = made-fits formula 31;
  total-value = made-total-fits formula 31;
}

-- a curve is accepted exactly where its total is finite
accepted-finite : (total : Float) → verdict_of total ≡ Ok (tt {0}) → T (finite total)
unfolding verdict_of
accepted-finite total = go (finite total)
  where
    go : (b : Bool) → cond b (Ok (tt {0})) (Err (NotFinite 0)) ≡ Ok (tt {0}) → T b
    go true e = tt
    go false e = cc

pub accepted-table : (formula : Float → Point) → verdict_of (table_of formula).total ≡ Ok (tt {0}) → Made formula
accepted-table formula e = made_table formula (unfold table_of in accepted-finite (table_of formula).total e)

-- sample i is taken at i/31: the last entry of a made table is number 31
pub made-last : (formula : Float → Point) → last_of (table_of formula).entries ≡ 31
unfolding table_of
made-last formula = let h = made-count formula 31 in omega arith

pub accepted-steady : (formula : Float → Point) → verdict_of (table_of formula).total ≡ Ok (tt {0})
    → let table = table_of formula in Steady 31 table.entries table.total (raw_of table.entries table.total)
accepted-steady formula e =
    let table = table_of formula in
    subst (λ (n : ℕ). Steady n table.entries table.total (raw_of table.entries table.total)) (made-last formula) (steady (accepted-table formula e))

-- a curve that was made is the one that was to be made, and its total is accepted
pub made-whole : {Curve : Type 0} (verdict : Result (Unit {0}) Refusal) (own curve : Curve) → made_by verdict own ≡ Ok curve → (verdict ≡ Ok (tt {0})) × (own ≡ curve)
made-whole (Ok done) own curve e = (refl, cc)
made-whole (Err refusal) own curve e = cc

made-steady : {Curve : Type 0} (formula : Float → Point) (table : Curve → Table) (own : Curve) → table own ≡ table_of formula → (curve : Curve)
    → made_by (verdict_of (table_of formula).total) own ≡ Ok curve → Steady 31 (table curve).entries (table curve).total (raw_of (table curve).entries (table curve).total)
made-steady formula table own same curve made =
    let whole = made-whole (verdict_of (table_of formula).total) own curve made in
    subst (λ (t : Table). Steady 31 t.entries t.total (raw_of t.entries t.total)) (sym same ∙ ap table whole.1) (accepted-steady formula whole.0)

-- ---- quads and cubics, stored and made
pub quad-steady : (curve : QuadBezier) → F32Table curve.table.entries curve.table.total
    → Steady (last_of curve.table.entries) curve.table.entries curve.table.total (quad_raw curve)
quad-steady curve f = steady f

pub quad-at-raw : (curve : QuadBezier) (p : Float) → quad_position_of curve p ≡ quad_sample_of curve.start curve.control curve.end (quad_raw curve p)
unfolding quad_position_of
quad-at-raw curve p = refl

pub made-quad-steady : (start control end : Point) (curve : QuadBezier) → made_quad_of start control end ≡ Ok curve
    → Steady 31 curve.table.entries curve.table.total (quad_raw curve)
unfolding made_quad_of quad_of
made-quad-steady start control end = made-steady (quad_sample_of start control end) (λ (c : QuadBezier). c.table) (quad_of start control end) refl

pub cubic-steady : (curve : CubicBezierCurve) → F32Table curve.table.entries curve.table.total
    → Steady (last_of curve.table.entries) curve.table.entries curve.table.total (cubic_raw curve)
cubic-steady curve f = steady f

pub cubic-at-raw : (curve : CubicBezierCurve) (p : Float) → cubic_position_of curve p ≡ cubic_sample_of curve.start curve.control1 curve.control2 curve.end (cubic_raw curve p)
unfolding cubic_position_of
cubic-at-raw curve p = refl

pub made-cubic-steady : (start control1 control2 end : Point) (curve : CubicBezierCurve) → made_cubic_of start control1 control2 end ≡ Ok curve
    → Steady 31 curve.table.entries curve.table.total (cubic_raw curve)
unfolding made_cubic_of cubic_of
made-cubic-steady start control1 control2 end = made-steady (cubic_sample_of start control1 control2 end) (λ (c : CubicBezierCurve). c.table) (cubic_of start control1 control2 end) refl
