-- A group of any kind refuses with 4 only at an exponent without a digit: each is a chain of numbers, pairs and flags, and each link hands its refusal
-- on. A kind that is added wants its own chain here, from the same links. Assumes nothing.
use Prim.Native.Nat.{ℕ, ◌+◌}
use mathlib.Core.Path.{◌≡◌, refl, ◌∙◌, ap}
use mathlib.Core.Bool.{Bool, true, false, cond}
use mathlib.Core.List.{List}
use native.Mathlib.Omega.{arith}
use lib.Dec.{ltb, eqb}
use lib.Ieee.{Float}
use lib.ListN.{length, get_or}
use Rattle.std.specs.Prelude.{Result, Ok, Err}
use Rattle.answers.specs.declared.refusals.Refusal.{Refusal}
use Rattle.answers.specs.declared.refusals.Refusal.TheVariants.{UnexpectedEnd, ExpectedFlag}
use Rattle.scan.specs.Runs.{past_separators_of}
use Rattle.decimal.specs.Decimal.{number_of}
use Rattle.decimal.specs.declared.numbers.Read.{Read}
use Rattle.decimal_text.proofs.Bare.{number-bare}
use Rattle.math.specs.declared.points.Point.{Point}
use Rattle.svg_group.specs.Numbers.{and_then, read_number_of, flag_at, flag_standing, read_flag_of, read_flags_of, read_pair_of}
use Rattle.svg_group.specs.Groups.{read_move_of, read_line_of, read_horizontal_of, read_vertical_of, read_cubic_of, read_smooth_cubic_of, read_quad_of, read_smooth_quad_of, read_arc_of, read_group_of}
use Rattle.svg_group.specs.declared.letters.Kind.{Kind}
use Rattle.svg_group.specs.declared.letters.Kind.TheVariants.{Move, Line, Horizontal, Vertical, Cubic, SmoothCubic, Quad, SmoothQuad, Arc}
use Rattle.svg_group.specs.declared.numbers.Flag.{Flag}
use Rattle.svg_group.specs.declared.numbers.Flags.{Flags}
use Rattle.svg_group.specs.declared.numbers.Coordinates.{Coordinates}
use Rattle.svg_group.specs.declared.groups.Group.{Group}
use Rattle.invalid_number.specs.Cause.{Caused}

cond_either : {A : Type 0} (P : A → Type 0) (b : Bool) (x y : A) → P x → P y → P (cond b x y)
cond_either P true x y f g = f
cond_either P false x y f g = g

-- what is read refuses with 4 only so
abbrev pub ReadCaused : List ℕ → {A : Type 0} → Result A Refusal → Type 0
ReadCaused text (Ok v) = Unit
ReadCaused text (Err x) = Caused text x

module _ (text : List ℕ) where
  -- a refusal is handed on, and what is read from past it is judged by itself
  link : {A B : Type 0} (first : Result A Refusal) (go : A → Result B Refusal) → ReadCaused text first → ((v : A) → ReadCaused text (go v)) → ReadCaused text (and_then first go)
  link (Ok v) go h g = g v
  link (Err x) go h g = h

  -- ---- numbers, flags, pairs

  end-caused : (n : ℕ) → Caused text (UnexpectedEnd n)
  end-caused n k e = let z : ◌≡◌ {A = ℕ} 0 1 = cc in absurd (omega arith)

  flag-refused : (n : ℕ) → Caused text (ExpectedFlag n)
  flag-refused n k e = let z : ◌≡◌ {A = ℕ} 0 1 = cc in absurd (omega arith)

  decimal-caused : (at : ℕ) → ReadCaused text (number_of text at)
  decimal-caused at = go (number_of text at) refl
    where
      go : (n : Result Read Refusal) → number_of text at ≡ n → ReadCaused text n
      go (Ok v) q = tt
      go (Err x) q = λ k e. (at, number-bare text at k (q ∙ ap Err e))

  number-caused : (at : ℕ) → ReadCaused text (read_number_of text at)
  unfolding read_number_of
  number-caused at =
      let start = past_separators_of text at in
      cond_either (λ (r : Result Read Refusal). ReadCaused text r) (ltb start (length text)) (number_of text start) (Err (UnexpectedEnd (length text))) (decimal-caused start) (end-caused (length text))

  flag-caused : (at : ℕ) → ReadCaused text (read_flag_of text at)
  unfolding read_flag_of flag_standing
  flag-caused at =
      let start = past_separators_of text at in
      cond_either P (ltb start (length text)) (flag_standing start (get_or text start 0)) (Err (UnexpectedEnd (length text)))
      (cond_either P (eqb (get_or text start 0) 48) (Ok (flag_at false (start + 1))) _ tt
      (cond_either P (eqb (get_or text start 0) 49) (Ok (flag_at true (start + 1))) (Err (ExpectedFlag start)) tt (flag-refused start)))
      (end-caused (length text))
    where
      P : Result Flag Refusal → Type 0
      P r = ReadCaused text r

  flags-caused : (at : ℕ) → ReadCaused text (read_flags_of text at)
  unfolding read_flags_of
  flags-caused at =
      link (read_flag_of text at) _ (flag-caused at) (λ large.
      link (read_flag_of text large.next) _ (flag-caused large.next) (λ sweep. tt))

  module _ (relative : Bool) (current : Point) where
    pair-caused : (at : ℕ) → ReadCaused text (read_pair_of text at relative current)
    unfolding read_pair_of
    pair-caused at =
        link (read_number_of text at) _ (number-caused at) (λ x.
        link (read_number_of text x.end) _ (number-caused x.end) (λ y. tt))

  -- ---- groups

  abbrev pub GroupCaused : Result Group Refusal → Type 0
  GroupCaused group = ReadCaused text group

  -- a group that goes on after a pair, or after a number
  after-pair : (at : ℕ) (relative : Bool) (current : Point) (go : Coordinates → Result Group Refusal) → ((v : Coordinates) → GroupCaused (go v)) → GroupCaused (and_then (read_pair_of text at relative current) go)
  after-pair at relative current go h = link (read_pair_of text at relative current) go (pair-caused relative current at) h

  after-number : (at : ℕ) (go : Read → Result Group Refusal) → ((v : Read) → GroupCaused (go v)) → GroupCaused (and_then (read_number_of text at) go)
  after-number at go h = link (read_number_of text at) go (number-caused at) h

  after-flags : (at : ℕ) (go : Flags → Result Group Refusal) → ((v : Flags) → GroupCaused (go v)) → GroupCaused (and_then (read_flags_of text at) go)
  after-flags at go h = link (read_flags_of text at) go (flags-caused at) h

  -- one law over the kinds; `first` is the first control of a smooth curve
  pub group-caused : (kind : Kind) (at : ℕ) (relative : Bool) (current first : Point) → GroupCaused (read_group_of text at kind relative current first)
  unfolding read_group_of read_move_of read_line_of read_horizontal_of read_vertical_of read_cubic_of read_smooth_cubic_of read_quad_of read_smooth_quad_of read_arc_of
  group-caused Move at relative current first = after-pair at relative current _ (λ v. tt)
  group-caused Line at relative current first = after-pair at relative current _ (λ v. tt)
  group-caused Horizontal at relative current first = after-number at _ (λ v. tt)
  group-caused Vertical at relative current first = after-number at _ (λ v. tt)
  group-caused Cubic at relative current first = after-pair at relative current _ (λ v. after-pair v.next relative current _ (λ w. after-pair w.next relative current _ (λ u. tt)))
  group-caused SmoothCubic at relative current first = after-pair at relative current _ (λ v. after-pair v.next relative current _ (λ w. tt))
  group-caused Quad at relative current first = after-pair at relative current _ (λ v. after-pair v.next relative current _ (λ w. tt))
  group-caused SmoothQuad at relative current first = after-pair at relative current _ (λ v. tt)
  group-caused Arc at relative current first =
      after-pair at false current _ (λ radii. after-number radii.next _ (λ rotation. after-flags rotation.end _ (λ flags. after-pair flags.next relative current _ (λ end. tt))))
