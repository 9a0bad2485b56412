-- An arc as C gives it, and what making one puts into a lent output. Definitions only.
use Rattle.std.specs.Prelude.{ℕ, Bool, cond, not, List, [], ◌∷◌, eqb, Float, Result, Ok, Err}
use Rattle.math.specs.Math.{point_of}
use Rattle.ellipse.specs.declared.ends.Chord.{Chord}
use Rattle.answers.specs.declared.refusals.Refusal.{Refusal}
use Rattle.arc.specs.declared.arcs.EllipticalArc.{EllipticalArc}
use Rattle.c_output.specs.Filling.{Filled, table_numbers, arc_numbers}

-- a flag: 0 is no, any other number yes
abbrev pub flag_of : ℕ → Bool
flag_of flag = not (eqb flag 0)

-- an arc as the Rust's `from_svg` takes it
abbrev pub chord_of : Float → Float → Float → Float → Float → ℕ → ℕ → Float → Float → Chord
chord_of sx sy rx ry rotation large sweep ex ey =
    record {
      start = point_of sx sy;
      radii = point_of rx ry;
      x_axis_rotation = rotation;
      large_arc = flag_of large;
      sweep = flag_of sweep;
      end = point_of ex ey;
    }

-- 1 where the arc fell back to a line, else 0
abbrev pub fell_back : EllipticalArc → ℕ
fell_back arc = cond arc.line_fallback 1 0

-- the arc's 11 numbers in a lent output, and in `answer` whether it fell back
abbrev pub ArcShape : Result EllipticalArc Refusal → List Float → List ℕ → ℕ → List Float → List ℕ → Type 0
ArcShape (Ok arc) out answer returned out_after answer_after = Filled (Ok tt) (fell_back arc ∷ []) (arc_numbers arc.shape) out answer returned out_after answer_after
ArcShape (Err refusal) out answer returned out_after answer_after = Filled (Err refusal) [] [] out answer returned out_after answer_after

-- "the line fallback, which has no table here": no number then
abbrev pub held_table : EllipticalArc → List Float
held_table arc = cond arc.line_fallback [] (table_numbers arc.table)

-- the arc's table in a lent output, and in `answer` whether it fell back
abbrev pub ArcTable : Result EllipticalArc Refusal → List Float → List ℕ → ℕ → List Float → List ℕ → Type 0
ArcTable (Ok arc) out answer returned out_after answer_after = Filled (Ok tt) (fell_back arc ∷ []) (held_table arc) out answer returned out_after answer_after
ArcTable (Err refusal) out answer returned out_after answer_after = Filled (Err refusal) [] [] out answer returned out_after answer_after
