-- What is read ends further on than it starts: a number, a flag, a pair and a group each pass a byte. Assumes nothing.
use Prim.Native.Nat.{ℕ, ◌+◌, ◌≤◌, ◌<◌}
use mathlib.Core.Path.{◌≡◌, refl, subst}
use mathlib.Core.Bool.{Bool, true, false, cond}
use mathlib.Core.List.{List}
use native.Mathlib.Omega.{arith}
use lib.Dec.{ltb, eqb}
use lib.ListN.{length, get_or}
use Rattle.std.specs.Prelude.{Result, Ok, Err}
use Rattle.answers.specs.declared.refusals.Refusal.{Refusal}
use Rattle.answers.specs.declared.refusals.Refusal.TheVariants.{UnexpectedEnd, ExpectedFlag}
use Rattle.scan.specs.Bytes.{separators}
use Rattle.scan.specs.Runs.{past_separators_of}
use Rattle.scan.specs.Numbers.{scan_number_of}
use Rattle.scan.specs.declared.numbers.Places.{Places}
use Rattle.scan.specs.declared.numbers.NumberError.{NumberError}
use Rattle.scan.specs.declared.numbers.NumberError.TheVariants.{NoDigit, NoExponentDigit}
use Rattle.scan.proofs.RunLaws.{all-onward}
use Rattle.scan.proofs.NumberLaws.{scanned-ahead}
use Rattle.decimal.specs.Decimal.{number_of, read_of}
use Rattle.decimal.specs.declared.numbers.Read.{Read}
use Rattle.math.specs.declared.points.Point.{Point}
use Rattle.svg_group.specs.Numbers.{read_number_of, flag_at, flag_standing, read_flag_of, read_flags_of, read_pair_of}
use Rattle.svg_group.specs.Groups.{read_move_of, read_line_of, read_horizontal_of, read_vertical_of, read_cubic_of, read_smooth_cubic_of, read_quad_of, read_smooth_quad_of, read_arc_of, read_group_of}
use Rattle.svg_group.specs.declared.letters.Kind.{Kind}
use Rattle.svg_group.specs.declared.letters.Kind.TheVariants.{Move, Line, Horizontal, Vertical, Cubic, SmoothCubic, Quad, SmoothQuad, Arc}
use Rattle.svg_group.specs.declared.numbers.Flag.{Flag}
use Rattle.svg_group.specs.declared.numbers.Flags.{Flags}
use Rattle.svg_group.specs.declared.numbers.Coordinates.{Coordinates}
use Rattle.svg_group.specs.declared.groups.Group.{Group}
use Rattle.svg_group.proofs.Thens.{then-elim}

cond-elim : {A : Type 0} (P : A → Type 0) (b : Bool) (x y : A) → (b ≡ true → P x) → (b ≡ false → P y) → P (cond b x y)
cond-elim P true x y f g = f refl
cond-elim P false x y f g = g refl

-- what was read ends past a place
Past : {A : Type 0} → (A → ℕ) → ℕ → Result A Refusal → Type 0
Past end p (Ok v) = p < end v
Past end p (Err refusal) = Unit

past-place : {A : Type 0} (end : A → ℕ) (p : ℕ) {r : Result A Refusal} → Past end p r → (v : A) → r ≡ Ok v → p < end v
unfolding Past
past-place end p h v e = subst (Past end p) e h

-- the place past each
past_number : Read → ℕ
past_number v = v.end

past_flag : Flag → ℕ
past_flag v = v.next

past_flags : Flags → ℕ
past_flags v = v.next

past_pair : Coordinates → ℕ
past_pair v = v.next

past_group : Group → ℕ
past_group v = v.next

-- ---- numbers and flags

module _ (text : List ℕ) (at : ℕ) where
  decimal-past : (start : ℕ) → at ≤ start → (n : Result Places NumberError) → scan_number_of text start ≡ n → Past past_number at (read_of text n)
  unfolding Past past_number
  decimal-past start h (Ok p) e = omega (arith, scanned-ahead text start p e)
  decimal-past start h (Err (NoDigit k)) e = tt
  decimal-past start h (Err (NoExponentDigit k)) e = tt

  number_past : Past past_number at (read_number_of text at)
  unfolding read_number_of Past number_of
  number_past =
      let start = past_separators_of text at in
      cond-elim (Past past_number at) (ltb start (length text)) (number_of text start) (Err (UnexpectedEnd (length text)))
      (λ e. decimal-past start (all-onward separators text at) (scan_number_of text start) refl)
      (λ e. tt)

  flag-past : Past past_flag at (read_flag_of text at)
  unfolding read_flag_of Past past_flag flag_standing
  flag-past =
      let start = past_separators_of text at in
      let h : at < start + 1 = omega (arith, all-onward separators text at) in
      cond-elim (Past past_flag at) (ltb start (length text)) (flag_standing start (get_or text start 0)) (Err (UnexpectedEnd (length text)))
      (λ e. cond-elim (Past past_flag at) (eqb (get_or text start 0) 48) (Ok (flag_at false (start + 1))) _ (λ e. h)
      (λ e. cond-elim (Past past_flag at) (eqb (get_or text start 0) 49) (Ok (flag_at true (start + 1))) (Err (ExpectedFlag start)) (λ e. h) (λ e. tt)))
      (λ e. tt)

  number-ahead : (v : Read) → read_number_of text at ≡ Ok v → at < v.end
  unfolding past_number
  number-ahead = past-place past_number at number_past

  flag-ahead : (v : Flag) → read_flag_of text at ≡ Ok v → at < v.next
  unfolding past_flag
  flag-ahead = past-place past_flag at flag-past

module _ (text : List ℕ) (at : ℕ) where
  flags-past : Past past_flags at (read_flags_of text at)
  unfolding read_flags_of Past past_flags
  flags-past =
      then-elim (Past past_flags at) (read_flag_of text at) _ (λ x. tt) (λ v q.
      then-elim (Past past_flags at) (read_flag_of text v.next) _ (λ x. tt) (λ w r.
      omega (arith, flag-ahead text at v q, flag-ahead text v.next w r)))

  flags-ahead : (v : Flags) → read_flags_of text at ≡ Ok v → at < v.next
  unfolding past_flags
  flags-ahead = past-place past_flags at flags-past

-- ---- pairs and groups

module _ (text : List ℕ) (at : ℕ) (relative : Bool) (current : Point) where
  pair-past : Past past_pair at (read_pair_of text at relative current)
  unfolding read_pair_of Past past_pair
  pair-past =
      then-elim (Past past_pair at) (read_number_of text at) _ (λ x. tt) (λ v q.
      then-elim (Past past_pair at) (read_number_of text v.end) _ (λ x. tt) (λ w r.
      omega (arith, number-ahead text at v q, number-ahead text v.end w r)))

  pair-ahead : (v : Coordinates) → read_pair_of text at relative current ≡ Ok v → at < v.next
  unfolding past_pair
  pair-ahead = past-place past_pair at pair-past

module _ (text : List ℕ) (at : ℕ) (relative : Bool) (current first : Point) where
  group-past : (kind : Kind) → Past past_group at (read_group_of text at kind relative current first)
  unfolding read_group_of read_move_of read_line_of read_horizontal_of read_vertical_of read_cubic_of read_smooth_cubic_of read_quad_of read_smooth_quad_of read_arc_of Past past_group
  group-past Move = then-elim (Past past_group at) (read_pair_of text at relative current) _ (λ x. tt) (pair-ahead text at relative current)
  group-past Line = then-elim (Past past_group at) (read_pair_of text at relative current) _ (λ x. tt) (pair-ahead text at relative current)
  group-past Horizontal = then-elim (Past past_group at) (read_number_of text at) _ (λ x. tt) (number-ahead text at)
  group-past Vertical = then-elim (Past past_group at) (read_number_of text at) _ (λ x. tt) (number-ahead text at)
  group-past Cubic =
      then-elim (Past past_group at) (read_pair_of text at relative current) _ (λ x. tt) (λ v q.
      then-elim (Past past_group at) (read_pair_of text v.next relative current) _ (λ x. tt) (λ w r.
      then-elim (Past past_group at) (read_pair_of text w.next relative current) _ (λ x. tt) (λ u s.
      omega (arith, pair-ahead text at relative current v q, pair-ahead text v.next relative current w r, pair-ahead text w.next relative current u s))))
  group-past SmoothCubic =
      then-elim (Past past_group at) (read_pair_of text at relative current) _ (λ x. tt) (λ v q.
      then-elim (Past past_group at) (read_pair_of text v.next relative current) _ (λ x. tt) (λ w r.
      omega (arith, pair-ahead text at relative current v q, pair-ahead text v.next relative current w r)))
  group-past SmoothQuad = then-elim (Past past_group at) (read_pair_of text at relative current) _ (λ x. tt) (pair-ahead text at relative current)
  group-past Quad =
      then-elim (Past past_group at) (read_pair_of text at relative current) _ (λ x. tt) (λ v q.
      then-elim (Past past_group at) (read_pair_of text v.next relative current) _ (λ x. tt) (λ w r.
      omega (arith, pair-ahead text at relative current v q, pair-ahead text v.next relative current w r)))
  group-past Arc =
      then-elim (Past past_group at) (read_pair_of text at false current) _ (λ x. tt) (λ radii q.
      then-elim (Past past_group at) (read_number_of text radii.next) _ (λ x. tt) (λ rotation r.
      then-elim (Past past_group at) (read_flags_of text rotation.end) _ (λ x. tt) (λ flags s.
      then-elim (Past past_group at) (read_pair_of text flags.next relative current) _ (λ x. tt) (λ end e.
      omega (
        arith,
        pair-ahead text at false current radii q,
        number-ahead text radii.next rotation r,
        flags-ahead text rotation.end flags s,
        pair-ahead text flags.next relative current end e,
      )))))

  -- a group passes a byte
  pub group-ahead : (kind : Kind) (group : Group) → read_group_of text at kind relative current first ≡ Ok group → at < group.next
  unfolding past_group
  group-ahead kind = past-place past_group at (group-past kind)
