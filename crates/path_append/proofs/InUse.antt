-- The path in use, counted over a part of the kinds or over all of them, and the ways in which it is none. Assumes nothing.
use Prim.Native.Nat.{ℕ, zero, suc, ◌+◌, ◌*◌, ◌≤◌, ◌<◌}
use mathlib.Core.Path.{◌≡◌, refl, sym, ap, ◌∙◌}
use mathlib.Core.Bool.{Bool, true, false}
use mathlib.Core.List.{List, [], ◌∷◌}
use native.Mathlib.Omega.{arith}
use borrow.Author.Tests.{le-leb, lt-leb}
use lib.Dec.{T, leb, leb→le}
use lib.Ieee.Fits.{and_l, and_r}
use lib.ListN.{length, take, length-take}
use lib.Seq.{length-take-le}
use Rattle.path_segment.specs.Segments.{width_of, tables_of}
use Rattle.path_segment.proofs.Widths.{width-most}
use Rattle.path_stored.specs.Buffers.{Buffers, buffers}
use Rattle.path_stored.specs.Stored.{before, most_segments, is_stored, Stored}
use Rattle.path_stored.proofs.Counting.{before-most, tables-at-most}
use Rattle.path_stored.proofs.Rule.{stored-rule}
use Rattle.path_append.specs.Appending.{numbers_used, tables_used, first_of, in_use, number_before, may_follow}

-- what the first segments have is the same in their own part
pub before-take : (f : ℕ → ℕ) (kinds : List ℕ) (n : ℕ) → before f (take n kinds) n ≡ before f kinds n
unfolding before
before-take f [] zero = refl
before-take f [] (suc n) = refl
before-take f (k ∷ kinds) zero = refl
before-take f (k ∷ kinds) (suc n) = ap (λ m. f k + m) (before-take f kinds n)

-- ---- bounds
pub numbers-bound : (kinds : List ℕ) (count : ℕ) → numbers_used kinds count ≤ 11 * count
numbers-bound kinds count = before-most width_of 11 width-most kinds count

pub tables-bound : (kinds : List ℕ) (count : ℕ) → tables_used kinds count ≤ 33 * count
tables-bound kinds count = omega (arith, tables-at-most kinds count)

-- ---- no path is in use
refuted : (b : Bool) → (T b → ⊥) → b ≡ false
refuted true h = absurd (h tt)
refuted false h = refl

module _ (b : Buffers) (count : ℕ) where
  pub few-kinds : length b.kinds < count → false ≡ in_use b count
  unfolding in_use
  few-kinds h = simp (lt-leb count (length b.kinds) h)

  not-used : count ≤ length b.kinds → (Stored (first_of b count) → ⊥) → false ≡ in_use b count
  unfolding in_use
  not-used h none = simp (le-leb count (length b.kinds) h, refuted (is_stored (first_of b count)) (λ t. none (stored-rule (first_of b count) t)))

  size : count ≤ length b.kinds → length (take count b.kinds) ≡ count
  size h = length-take-le count b.kinds h

  all_of : (f : ℕ → ℕ) → count ≤ length b.kinds → before f (take count b.kinds) (length (take count b.kinds)) ≡ before f b.kinds count
  all_of f h = ap (before f (take count b.kinds)) (size h) ∙ before-take f b.kinds count

  pub many-kinds : count ≤ length b.kinds → most_segments < count → false ≡ in_use b count
  many-kinds h g = not-used h (λ s. let e = size h in let f = s.few in omega arith)

  pub few-lengths : count ≤ length b.kinds → length b.lengths < count → false ≡ in_use b count
  few-lengths h g = not-used h (λ s. let e = size h in let f = s.one in omega (arith, length-take count b.lengths))

  pub few-commands : count ≤ length b.kinds → length b.commands < count → false ≡ in_use b count
  few-commands h g = not-used h (λ s. let e = size h in let f = s.told in omega (arith, length-take count b.commands))

  pub few-numbers : count ≤ length b.kinds → length b.fields < numbers_used b.kinds count → false ≡ in_use b count
  few-numbers h g = not-used h (λ s. let e = s.numbers ∙ all_of width_of h in omega (arith, length-take (numbers_used b.kinds count) b.fields))

  pub few-tables : count ≤ length b.kinds → length b.tables < tables_used b.kinds count → false ≡ in_use b count
  few-tables h g = not-used h (λ s. let e = s.counted ∙ ap (λ n. 33 * n) (all_of tables_of h) in omega (arith, length-take (tables_used b.kinds count) b.tables))

  -- else the check decides
  pub checked : (t : Bool) (n m : ℕ) → n ≡ numbers_used b.kinds count → m ≡ tables_used b.kinds count → count ≤ length b.kinds
      → t ≡ is_stored (buffers (take count b.kinds) (take n b.fields) (take m b.tables) (take count b.lengths) (take count b.commands)) → t ≡ in_use b count
  unfolding in_use
  checked t n m en em h e = simp (le-leb count (length b.kinds) h, sym en, sym em) e

  -- what a path in use has
  pub record Whole : Type 0 where
    pub few : count ≤ most_segments
    pub with_kinds : count ≤ length b.kinds
    pub with_lengths : count ≤ length b.lengths
    pub with_commands : count ≤ length b.commands

  pub used-whole : T (in_use b count) → Whole
  unfolding in_use
  used-whole t =
      let stored = is_stored (first_of b count) in
      let h = leb→le count (length b.kinds) (and_l (leb count (length b.kinds)) stored t) in
      let s = stored-rule (first_of b count) (and_r (leb count (length b.kinds)) stored t) in
      let e = size h in
      let f = s.few in
      let o = s.one in
      let t = s.told in
      record {
        few = omega arith;
        with_kinds = h;
        with_lengths = omega (arith, length-take count b.lengths);
        with_commands = omega (arith, length-take count b.commands);
      }

  module _ (command : ℕ) where
    follow-parts : T (may_follow b count command) → T (in_use b count) × T (leb (number_before b.commands count) command)
    unfolding may_follow
    follow-parts t = (and_l (in_use b count) (leb (number_before b.commands count) command) t, and_r (in_use b count) (leb (number_before b.commands count) command) t)

    pub follow-used : T (may_follow b count command) → T (in_use b count)
    follow-used t = (follow-parts t).0

    pub follow-above : T (may_follow b count command) → number_before b.commands count ≤ command
    follow-above t = leb→le (number_before b.commands count) command (follow-parts t).1

    pub follow-whole : T (may_follow b count command) → Whole
    follow-whole t = used-whole (follow-used t)
