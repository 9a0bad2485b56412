-- One group of each kind of command (document 01, "Permissive reading"). Definitions only.
use Rattle.std.specs.Prelude.{ℕ, Bool, true, false, List, Float, Result, Ok}
use Rattle.std.specs.Float.{binary32}
use Rattle.std.specs.Float.Ieee.{add}
use Rattle.answers.specs.declared.refusals.Refusal.{Refusal}
use Rattle.math.specs.declared.points.Point.{Point}
use Rattle.commands.specs.declared.command.PathCommand.{PathCommand}
use Rattle.commands.specs.declared.command.PathCommand.TheVariants.{MoveTo, LineTo, QuadTo, CubicTo, ArcTo}
use Rattle.svg_group.specs.Numbers.{and_then, read_number_of, read_flags_of, point_of, read_pair_of}
use Rattle.svg_group.specs.declared.letters.Kind.{Kind}
use Rattle.svg_group.specs.declared.letters.Kind.TheVariants.{Move, Line, Horizontal, Vertical, Cubic, SmoothCubic, Quad, SmoothQuad, Arc}
use Rattle.svg_group.specs.declared.groups.Group.{Group}

abbrev pub group_at : PathCommand → ℕ → Group
group_at command next = record { command = command; next = next }

-- "Lower case adds to the current point": one coordinate of it
abbrev pub along : Bool → Float → Float → Float
along true from value = add binary32 from value
along false from value = value

module _ (text : List ℕ) (at : ℕ) (relative : Bool) (current : Point) where
  -- "M: first pair MoveTo"
  unfoldable pub read_move_of : Result Group Refusal
  read_move_of = and_then (read_pair_of text at relative current) (λ end. Ok (group_at (MoveTo (point_of end)) end.next))

  -- "more pairs LineTo"
  unfoldable pub read_line_of : Result Group Refusal
  read_line_of = and_then (read_pair_of text at relative current) (λ end. Ok (group_at (LineTo (point_of end)) end.next))

  -- "H and V give LineTo": the other coordinate is the current point's
  unfoldable pub read_horizontal_of : Result Group Refusal
  read_horizontal_of = and_then (read_number_of text at) (λ x. Ok (group_at (LineTo (record { x = along relative current.x x.value; y = current.y })) x.end))

  unfoldable pub read_vertical_of : Result Group Refusal
  read_vertical_of = and_then (read_number_of text at) (λ y. Ok (group_at (LineTo (record { x = current.x; y = along relative current.y y.value })) y.end))

  unfoldable pub read_cubic_of : Result Group Refusal
  read_cubic_of =
      and_then (read_pair_of text at relative current) (λ control1.
      and_then (read_pair_of text control1.next relative current) (λ control2.
      and_then (read_pair_of text control2.next relative current) (λ end.
      Ok (group_at (CubicTo (point_of control1) (point_of control2) (point_of end)) end.next))))

  unfoldable pub read_quad_of : Result Group Refusal
  read_quad_of =
      and_then (read_pair_of text at relative current) (λ control.
      and_then (read_pair_of text control.next relative current) (λ end.
      Ok (group_at (QuadTo (point_of control) (point_of end)) end.next)))

  -- S: the second control and the end; the first control is given
  unfoldable pub read_smooth_cubic_of : Point → Result Group Refusal
  read_smooth_cubic_of first =
      and_then (read_pair_of text at relative current) (λ control2.
      and_then (read_pair_of text control2.next relative current) (λ end.
      Ok (group_at (CubicTo first (point_of control2) (point_of end)) end.next)))

  -- T: the end alone
  unfoldable pub read_smooth_quad_of : Point → Result Group Refusal
  read_smooth_quad_of first = and_then (read_pair_of text at relative current) (λ end. Ok (group_at (QuadTo first (point_of end)) end.next))

  -- two radii, which are no point and stay as they are written, a rotation, two flags and the end
  unfoldable pub read_arc_of : Result Group Refusal
  read_arc_of =
      and_then (read_pair_of text at false current) (λ radii.
      and_then (read_number_of text radii.next) (λ rotation.
      and_then (read_flags_of text rotation.end) (λ flags.
      and_then (read_pair_of text flags.next relative current) (λ end.
      Ok (group_at (ArcTo (point_of radii) rotation.value flags.large flags.sweep (point_of end)) end.next)))))

-- `first` is the first control of a smooth curve
unfoldable pub read_group_of : List ℕ → ℕ → Kind → Bool → Point → Point → Result Group Refusal
read_group_of text at Move relative current first = read_move_of text at relative current
read_group_of text at Line relative current first = read_line_of text at relative current
read_group_of text at Horizontal relative current first = read_horizontal_of text at relative current
read_group_of text at Vertical relative current first = read_vertical_of text at relative current
read_group_of text at Cubic relative current first = read_cubic_of text at relative current
read_group_of text at SmoothCubic relative current first = read_smooth_cubic_of text at relative current first
read_group_of text at Quad relative current first = read_quad_of text at relative current
read_group_of text at SmoothQuad relative current first = read_smooth_quad_of text at relative current first
read_group_of text at Arc relative current first = read_arc_of text at relative current
