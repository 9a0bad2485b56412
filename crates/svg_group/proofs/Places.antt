-- A group is passed to where it is read to, or refused as it is, whatever the current point is. Assumes nothing.
use Prim.Native.Nat.{ℕ}
use mathlib.Core.Path.{◌≡◌, refl, sym, ap, ◌∙◌}
use mathlib.Core.Bool.{Bool, true, false, cond}
use mathlib.Core.List.{List}
use lib.Dec.{ltb}
use lib.ListN.{length}
use Rattle.std.specs.Prelude.{Result, Ok, Err}
use Rattle.answers.specs.declared.refusals.Refusal.{Refusal}
use Rattle.answers.specs.declared.refusals.Refusal.TheVariants.{UnexpectedEnd}
use Rattle.scan.specs.Runs.{past_separators_of}
use Rattle.scan.specs.Numbers.{scan_number_of}
use Rattle.scan.specs.declared.numbers.Places.{Places}
use Rattle.scan.specs.declared.numbers.NumberError.{NumberError}
use Rattle.scan.specs.declared.numbers.NumberError.TheVariants.{NoDigit, NoExponentDigit}
use Rattle.decimal.specs.Decimal.{number_of, read_of}
use Rattle.decimal.specs.declared.numbers.Read.{Read}
use Rattle.math.specs.declared.points.Point.{Point}
use Rattle.commands.specs.declared.command.PathCommand.{PathCommand}
use Rattle.commands.specs.declared.command.PathCommand.TheVariants.{MoveTo, LineTo, QuadTo, CubicTo, ArcTo}
use Rattle.svg_group.specs.Numbers.{and_then, read_number_of, read_flags_of, point_of, read_pair_of}
use Rattle.svg_group.specs.Groups.{group_at, read_move_of, read_line_of, read_horizontal_of, read_vertical_of, read_cubic_of, read_smooth_cubic_of, read_quad_of, read_smooth_quad_of, read_arc_of, read_group_of}
use Rattle.svg_group.specs.Passing.{ended, pass_number_of, pass_pair_of, pass_quad_of, pass_cubic_of, pass_arc_of, pass_group_of}
use Rattle.svg_group.specs.declared.letters.Kind.{Kind}
use Rattle.svg_group.specs.declared.letters.Kind.TheVariants.{Move, Line, Horizontal, Vertical, Cubic, SmoothCubic, Quad, SmoothQuad, Arc}
use Rattle.svg_group.specs.declared.numbers.Coordinates.{Coordinates}
use Rattle.svg_group.specs.declared.groups.Group.{Group}
use Rattle.svg_group.proofs.Thens.{then-ok, then-then}

-- ---- the place of an answer

abbrev pub place_of : {A : Type 0} → (A → ℕ) → Result A Refusal → Result ℕ Refusal
place_of end (Ok v) = Ok (end v)
place_of end (Err refusal) = Err refusal

abbrev pub number_place : Result Read Refusal → Result ℕ Refusal
number_place = place_of (λ (v : Read). v.end)

abbrev pub pair_place : Result Coordinates Refusal → Result ℕ Refusal
pair_place = place_of (λ (v : Coordinates). v.next)

abbrev pub group_place : Result Group Refusal → Result ℕ Refusal
group_place = place_of (λ (v : Group). v.next)

-- what follows something that is read, and its place
module _ {A B : Type 0} (last : B → ℕ) where
  then-place :
      (end : A → ℕ) (pass : ℕ → Result ℕ Refusal) (first : Result A Refusal) (go : A → Result B Refusal)
      → ((v : A) → place_of last (go v) ≡ pass (end v)) → place_of last (and_then first go) ≡ and_then (place_of end first) pass
  then-place end pass (Ok v) go e = e v
  then-place end pass (Err refusal) go e = refl

  -- what has no place of its own to tell
  then-along :
      (pass : A → Result ℕ Refusal) (first : Result A Refusal) (go : A → Result B Refusal)
      → ((v : A) → place_of last (go v) ≡ pass v) → place_of last (and_then first go) ≡ and_then first pass
  then-along pass (Ok v) go e = e v
  then-along pass (Err refusal) go e = refl

-- ---- numbers and pairs

module _ (text : List ℕ) where
  decimal-place : (n : Result Places NumberError) → number_place (read_of text n) ≡ ended n
  decimal-place (Ok places) = refl
  decimal-place (Err (NoDigit k)) = refl
  decimal-place (Err (NoExponentDigit k)) = refl

  cond-place : (b : Bool) (x y : Result Read Refusal) → number_place (cond b x y) ≡ cond b (number_place x) (number_place y)
  cond-place true x y = refl
  cond-place false x y = refl

  number-place : (at : ℕ) → number_place (read_number_of text at) ≡ pass_number_of text at
  unfolding read_number_of pass_number_of number_of
  number-place at =
      let start = past_separators_of text at in
      cond-place (ltb start (length text)) (number_of text start) (Err (UnexpectedEnd (length text)))
      ∙ ap (λ p. cond (ltb start (length text)) p (Err (UnexpectedEnd (length text)))) (decimal-place (scan_number_of text start))

  -- a number, and what follows it
  number-goes :
      {B : Type 0} (last : B → ℕ) (at : ℕ) (go : Read → Result B Refusal) (pass : ℕ → Result ℕ Refusal) → ((v : Read) → place_of last (go v) ≡ pass v.end)
      → place_of last (and_then (read_number_of text at) go) ≡ and_then (pass_number_of text at) pass
  number-goes last at go pass e = then-place last (λ v. v.end) pass (read_number_of text at) go e ∙ ap (λ p. and_then p pass) (number-place at)

  number-ends :
      {B : Type 0} (last : B → ℕ) (at : ℕ) (make : Read → B) → ((v : Read) → last (make v) ≡ v.end)
      → place_of last (and_then (read_number_of text at) (λ v. Ok (make v))) ≡ pass_number_of text at
  number-ends last at make e = number-goes last at (λ v. Ok (make v)) Ok (λ v. ap Ok (e v)) ∙ then-ok (pass_number_of text at)

  module _ (relative : Bool) (current : Point) where
    pair-passes : (at : ℕ) → pair_place (read_pair_of text at relative current) ≡ pass_pair_of text at
    unfolding read_pair_of pass_pair_of
    pair-passes at = number-goes (λ v. v.next) at _ (pass_number_of text) (λ x. number-ends (λ v. v.next) x.end _ (λ y. refl))

    pair-goes :
        (at : ℕ) (go : Coordinates → Result Group Refusal) (pass : ℕ → Result ℕ Refusal) → ((v : Coordinates) → group_place (go v) ≡ pass v.next)
        → group_place (and_then (read_pair_of text at relative current) go) ≡ and_then (pass_pair_of text at) pass
    pair-goes at go pass e = then-place (λ v. v.next) (λ v. v.next) pass (read_pair_of text at relative current) go e ∙ ap (λ p. and_then p pass) (pair-passes at)

    -- a pair that ends a group
    pair-ends :
        (at : ℕ) (make : Point → PathCommand)
        → group_place (and_then (read_pair_of text at relative current) (λ end. Ok (group_at (make (point_of end)) end.next))) ≡ pass_pair_of text at
    pair-ends at make = pair-goes at (λ end. Ok (group_at (make (point_of end)) end.next)) Ok (λ v. refl) ∙ then-ok (pass_pair_of text at)

-- ---- groups

module _ (text : List ℕ) (relative : Bool) (current first : Point) where
  pub group-place : (at : ℕ) (kind : Kind) → group_place (read_group_of text at kind relative current first) ≡ pass_group_of text at kind
  unfolding read_group_of pass_group_of read_move_of read_line_of read_horizontal_of read_vertical_of read_cubic_of read_smooth_cubic_of read_quad_of read_smooth_quad_of read_arc_of pass_quad_of pass_cubic_of pass_arc_of
  group-place at Move = pair-ends text relative current at MoveTo
  group-place at Line = pair-ends text relative current at LineTo
  group-place at Horizontal = number-ends text (λ v. v.next) at _ (λ x. refl)
  group-place at Vertical = number-ends text (λ v. v.next) at _ (λ y. refl)
  group-place at Cubic =
      pair-goes text relative current at _ (λ n. and_then (pass_pair_of text n) (pass_pair_of text))
      (λ control1. pair-goes text relative current control1.next _ (pass_pair_of text) (λ control2. pair-ends text relative current control2.next (CubicTo (point_of control1) (point_of control2))))
      ∙ sym (then-then (pass_pair_of text at) (pass_pair_of text) (pass_pair_of text))
  group-place at SmoothCubic = pair-goes text relative current at _ (pass_pair_of text) (λ control2. pair-ends text relative current control2.next (CubicTo first (point_of control2)))
  group-place at SmoothQuad = pair-ends text relative current at (QuadTo first)
  group-place at Quad = pair-goes text relative current at _ (pass_pair_of text) (λ control. pair-ends text relative current control.next (QuadTo (point_of control)))
  group-place at Arc =
      pair-goes text false current at _ _ (λ radii.
      number-goes text (λ v. v.next) radii.next _ _ (λ rotation.
      then-along (λ v. v.next) _ (read_flags_of text rotation.end) _ (λ flags.
      pair-ends text relative current flags.next (ArcTo (point_of radii) rotation.value flags.large flags.sweep))))
