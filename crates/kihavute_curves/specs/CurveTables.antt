-- The table of a made quad or cubic in a lent output: 33 numbers, and nothing in `answer`. Definitions only.
use Rattle.std.specs.Prelude.{ℕ, List, [], Float, Result, Ok, Err}
use Rattle.answers.specs.declared.refusals.Refusal.{Refusal}
use Rattle.bezier.specs.declared.quads.QuadBezier.{QuadBezier}
use Rattle.bezier.specs.declared.cubics.CubicBezierCurve.{CubicBezierCurve}
use Rattle.c_output.specs.Filling.{Filled, table_numbers}

abbrev pub QuadTable : Result QuadBezier Refusal → List Float → List ℕ → ℕ → List Float → List ℕ → Type 0
QuadTable (Ok curve) out answer returned out_after answer_after = Filled (Ok tt) [] (table_numbers curve.table) out answer returned out_after answer_after
QuadTable (Err refusal) out answer returned out_after answer_after = Filled (Err refusal) [] [] out answer returned out_after answer_after

abbrev pub CubicTable : Result CubicBezierCurve Refusal → List Float → List ℕ → ℕ → List Float → List ℕ → Type 0
CubicTable (Ok curve) out answer returned out_after answer_after = Filled (Ok tt) [] (table_numbers curve.table) out answer returned out_after answer_after
CubicTable (Err refusal) out answer returned out_after answer_after = Filled (Err refusal) [] [] out answer returned out_after answer_after
