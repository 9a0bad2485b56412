-- The command of a group has the numbers of its kind. Assumes nothing.
use Prim.Native.Nat.{ℕ}
use mathlib.Core.Path.{◌≡◌, refl, subst}
use mathlib.Core.Bool.{Bool, false}
use mathlib.Core.List.{List}
use lib.ListN.{length}
use Rattle.std.specs.Prelude.{Result, Ok, Err}
use Rattle.answers.specs.declared.refusals.Refusal.{Refusal}
use Rattle.math.specs.declared.points.Point.{Point}
use Rattle.commands.specs.Stored.{arguments_of}
use Rattle.svg_group.specs.Letters.{width_of}
use Rattle.svg_group.specs.Numbers.{read_number_of, read_flags_of, read_pair_of}
use Rattle.svg_group.specs.Groups.{read_move_of, read_line_of, read_horizontal_of, read_vertical_of, read_cubic_of, read_smooth_cubic_of, read_quad_of, read_smooth_quad_of, read_arc_of, read_group_of}
use Rattle.svg_group.specs.declared.letters.Kind.{Kind}
use Rattle.svg_group.specs.declared.letters.Kind.TheVariants.{Move, Line, Horizontal, Vertical, Cubic, SmoothCubic, Quad, SmoothQuad, Arc}
use Rattle.svg_group.specs.declared.groups.Group.{Group}
use Rattle.svg_group.proofs.Thens.{then-elim}

Wide : ℕ → Result Group Refusal → Type 0
Wide width (Ok group) = length (arguments_of group.command) ≡ width
Wide width (Err refusal) = Unit

module _ (text : List ℕ) (at : ℕ) (relative : Bool) (current first : Point) where
  group-wide : (kind : Kind) → Wide (width_of kind) (read_group_of text at kind relative current first)
  unfolding read_group_of read_move_of read_line_of read_horizontal_of read_vertical_of read_cubic_of read_smooth_cubic_of read_quad_of read_smooth_quad_of read_arc_of Wide
  group-wide Move = then-elim (Wide 2) (read_pair_of text at relative current) _ (λ x. tt) (λ v q. refl)
  group-wide Line = then-elim (Wide 2) (read_pair_of text at relative current) _ (λ x. tt) (λ v q. refl)
  group-wide Horizontal = then-elim (Wide 2) (read_number_of text at) _ (λ x. tt) (λ v q. refl)
  group-wide Vertical = then-elim (Wide 2) (read_number_of text at) _ (λ x. tt) (λ v q. refl)
  group-wide Cubic =
      then-elim (Wide 6) (read_pair_of text at relative current) _ (λ x. tt) (λ v q.
      then-elim (Wide 6) (read_pair_of text v.next relative current) _ (λ x. tt) (λ w r.
      then-elim (Wide 6) (read_pair_of text w.next relative current) _ (λ x. tt) (λ u s. refl)))
  group-wide SmoothCubic =
      then-elim (Wide 6) (read_pair_of text at relative current) _ (λ x. tt) (λ v q.
      then-elim (Wide 6) (read_pair_of text v.next relative current) _ (λ x. tt) (λ w r. refl))
  group-wide SmoothQuad = then-elim (Wide 4) (read_pair_of text at relative current) _ (λ x. tt) (λ v q. refl)
  group-wide Quad =
      then-elim (Wide 4) (read_pair_of text at relative current) _ (λ x. tt) (λ v q.
      then-elim (Wide 4) (read_pair_of text v.next relative current) _ (λ x. tt) (λ w r. refl))
  group-wide Arc =
      then-elim (Wide 7) (read_pair_of text at false current) _ (λ x. tt) (λ radii q.
      then-elim (Wide 7) (read_number_of text radii.next) _ (λ x. tt) (λ rotation r.
      then-elim (Wide 7) (read_flags_of text rotation.end) _ (λ x. tt) (λ flags s.
      then-elim (Wide 7) (read_pair_of text flags.next relative current) _ (λ x. tt) (λ end t. refl))))

  pub group-width : (kind : Kind) (group : Group) → read_group_of text at kind relative current first ≡ Ok group → length (arguments_of group.command) ≡ width_of kind
  unfolding Wide
  group-width kind group q = subst (Wide (width_of kind)) q (group-wide kind)
