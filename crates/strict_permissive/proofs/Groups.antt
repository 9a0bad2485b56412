-- One argument of the grammar is one group of the permissive reader: it passes it, from before the separators in front of it to its end. Assumes
-- nothing.
use Prim.Native.Nat.{ℕ, ◌+◌}
use mathlib.Core.Path.{◌≡◌, refl, sym, subst, ◌∙◌, ap}
use mathlib.Core.Bool.{Bool, true, false}
use mathlib.Core.List.{List, [], ◌∷◌}
use mathlib.Core.Logic.{◌⊎◌, inl, inr}
use lib.Dec.{eqb}
use borrow.Author.Tests.{lt-ltb}
use lib.ListN.{length, get_or}
use Rattle.scan.specs.Bytes.{among, separators, flags, number_starts}
use Rattle.scan.specs.Runs.{stands, past_separators_of}
use Rattle.scan.specs.Numbers.{places_of}
use Rattle.std.specs.Prelude.{Result, Ok}
use Rattle.answers.specs.declared.refusals.Refusal.{Refusal}
use Rattle.scan.proofs.ByteLaws.{either-of, either_way, clash}
use Rattle.scan.proofs.RunLaws.{stands-within, stands-among}
use Rattle.strict_grammar.specs.Spans.{opt}
use Rattle.strict_grammar.specs.Grammar.{number, nonnegative-number, comma-wsp, coordinate-pair, elliptical-arc-argument, smooth-curveto-argument}
use Rattle.strict_grammar.specs.declared.Edition.{Edition}
use Rattle.strict_grammar.proofs.SpanLaws.{standing, other}
use Rattle.strict_grammar.proofs.Numbers.{number-starts, nonnegative-is}
use Rattle.strict_grammar.proofs.Theorems.{rotation-is}
use Rattle.strict_argument.specs.Reading.{argument_of}
use Rattle.strict_argument.specs.declared.groups.Kind.{Kind}
use Rattle.strict_argument.specs.declared.groups.Kind.TheVariants.{Coordinate, Pair, TwoPairs, ThreePairs, Arc}
use Rattle.svg_group.specs.Numbers.{and_then, flag_at, flag_standing, read_flag_of, flags_at, read_flags_of}
use Rattle.svg_group.specs.Passing.{ended, pass_number_of, pass_pair_of, pass_quad_of, pass_cubic_of, pass_arc_of}
use Rattle.strict_permissive.proofs.Follows.{Follows, follows-number, follows-flag, follows-separator, past-separator, scanned}

-- the group of a kind of argument, passed
abbrev pub pass_kind : List ℕ → Kind → ℕ → Result ℕ Refusal
pass_kind text Coordinate = pass_number_of text
pass_kind text Pair = pass_pair_of text
pass_kind text TwoPairs = pass_quad_of text
pass_kind text ThreePairs = pass_cubic_of text
pass_kind text Arc = pass_arc_of text

-- no separator stands where a number or a flag does
pub number-no-separator : (text : List ℕ) (i : ℕ) → stands text i number_starts ≡ true → stands text i separators ≡ false
unfolding among
number-no-separator text i h = other {l = number_starts} separators tt (standing number_starts i h)

flag-no-separator : (text : List ℕ) (i : ℕ) → stands text i flags ≡ true → stands text i separators ≡ false
unfolding among
flag-no-separator text i h = other {l = flags} separators tt (standing flags i h)

-- ---- flags

module _ (text : List ℕ) where
  flag-there : (i : ℕ) → stands text i flags ≡ true → (set : Bool) × (flag_standing i (get_or text i 0) ≡ Ok (flag_at set (i + 1)))
  unfolding among flag_standing
  flag-there i h = go (either_way (eqb (get_or text i 0) 48)) (either-of (eqb (get_or text i 0) 48) _ (stands-among flags text i h))
    where
      one : eqb (get_or text i 0) 48 ≡ false → (eqb (get_or text i 0) 49 ≡ true) ⊎ (◌≡◌ {A = Bool} false true) → (set : Bool) × (flag_standing i (get_or text i 0) ≡ Ok (flag_at set (i + 1)))
      one z (inl e) = (true, rw (z, e) refl)
      one z (inr e) = absurd (clash e refl)

      go : (eqb (get_or text i 0) 48 ≡ true) ⊎ (eqb (get_or text i 0) 48 ≡ false) → (eqb (get_or text i 0) 48 ≡ true) ⊎ (among (get_or text i 0) (49 ∷ []) ≡ true)
          → (set : Bool) × (flag_standing i (get_or text i 0) ≡ Ok (flag_at set (i + 1)))
      go (inl z) w = (false, rw z refl)
      go (inr z) (inl e) = absurd (clash e z)
      go (inr z) (inr e) = one z (either-of (eqb (get_or text i 0) 49) _ e)

  pub flag-read : (p i : ℕ) → past_separators_of text p ≡ i → stands text i flags ≡ true → (set : Bool) × (read_flag_of text p ≡ Ok (flag_at set (i + 1)))
  unfolding read_flag_of
  flag-read p i e h =
      let (set, f) = flag-there i h in
      (set, rw (e, lt-ltb i (length text) (stands-within flags text i h)) f)

  flags-read : (p i j : ℕ) (large sweep : Bool) → read_flag_of text p ≡ Ok (flag_at large i) → read_flag_of text i ≡ Ok (flag_at sweep j) → read_flags_of text p ≡ Ok (flags_at large sweep j)
  unfolding read_flags_of
  flags-read p i j large sweep a b = rw (a, b) refl

-- ---- numbers, pairs and groups

module _ (edition : Edition) (text : List ℕ) where
  pub number_passed : (p i j : ℕ) → past_separators_of text p ≡ i → number edition text i j → Follows text j → pass_number_of text p ≡ Ok j
  unfolding pass_number_of places_of
  number_passed p i j e n f =
      let (s, z) = scanned edition text i j n f in
      rw (e, lt-ltb i (length text) (stands-within number_starts text i (number-starts edition text i j n))) (ap ended s ∙ ap Ok z)

  -- what starts as a number does, past a separator
  past-number : (i m j : ℕ) → opt (comma-wsp edition text) i m → number edition text m j → past_separators_of text i ≡ m
  past-number i m j o n = past-separator edition text i m o (number-no-separator text m (number-starts edition text m j n))

  pub pair-passed : (p i j : ℕ) → past_separators_of text p ≡ i → coordinate-pair edition text i j → Follows text j → pass_pair_of text p ≡ Ok j
  unfolding pass_pair_of coordinate-pair
  pair-passed p i j e (k, n, (m, o, w)) f =
      ap (λ (r : Result ℕ Refusal). and_then r (pass_number_of text)) (number_passed p i k e n (follows-separator edition text k m o (follows-number edition text m j w)))
      ∙ number_passed k m j (past-number k m j o w) w f

  pair-first : (i j : ℕ) → coordinate-pair edition text i j → (k : ℕ) × number edition text i k
  unfolding coordinate-pair
  pair-first i j (k, n, w) = (k, n)

  past-pair : (i m j : ℕ) → opt (comma-wsp edition text) i m → coordinate-pair edition text m j → past_separators_of text i ≡ m
  past-pair i m j o w = let (k, n) = pair-first m j w in past-number i m k o n

  follows-pair : (i m j : ℕ) → opt (comma-wsp edition text) i m → coordinate-pair edition text m j → Follows text i
  follows-pair i m j o w = let (k, n) = pair-first m j w in follows-separator edition text i m o (follows-number edition text m k n)

  quad-passed : (p i j : ℕ) → past_separators_of text p ≡ i → smooth-curveto-argument edition text i j → Follows text j → pass_quad_of text p ≡ Ok j
  unfolding pass_quad_of
  quad-passed p i j e (k, n, (m, o, w)) f =
      ap (λ (r : Result ℕ Refusal). and_then r (pass_pair_of text)) (pair-passed p i k e n (follows-pair k m j o w)) ∙ pair-passed k m j (past-pair k m j o w) w f

  arc-passed : (p i j : ℕ) → past_separators_of text p ≡ i → elliptical-arc-argument edition text i j → Follows text j → pass_arc_of text p ≡ Ok j
  unfolding pass_arc_of elliptical-arc-argument coordinate-pair
  arc-passed p i j e (a, x, (b, o, (c, y, (d, q, (g, r, (h, s, (k, l, (m, t, (n, w, (u, v, end)))))))))) f =
      let turn = rotation-is edition text d g r in
      let radii = pair-passed p i c e (two a x b o c y) (follows-separator edition text c d q (follows-number edition text d g turn)) in
      let rotated = number_passed c d g (past-number c d g q turn) turn (follows-separator edition text g h (inl s) (follows-flag text h l.there)) in
      let (large, first) = flag-read text g h (past-separator edition text g h (inl s) (flag-no-separator text h l.there)) l.there in
      let (sweep, second) = flag-read text k m (past-separator edition text k m t (flag-no-separator text m w.there)) w.there in
      let first' = subst (λ (z : ℕ). read_flag_of text g ≡ Ok (flag_at large z)) (sym l.next) first in
      let second' = subst (λ (z : ℕ). read_flag_of text k ≡ Ok (flag_at sweep z)) (sym w.next) second in
      rw (radii, rotated, flags-read text g k n large sweep first' second') (pair-passed n u j (past-pair n u j v end) end f)
    where
      two : (a : ℕ) → nonnegative-number edition text i a → (b : ℕ) → opt (comma-wsp edition text) a b → (c : ℕ) → nonnegative-number edition text b c → coordinate-pair edition text i c
      two a x b o c y = (a, nonnegative-is edition text i a x, (b, o, nonnegative-is edition text b c y))

  cubic-passed : (p i j : ℕ) → past_separators_of text p ≡ i → argument_of edition text ThreePairs i j → Follows text j → pass_cubic_of text p ≡ Ok j
  unfolding pass_cubic_of
  cubic-passed p i j e (k, x, (m, o, (n, y, (q, r, z)))) f =
      ap (λ (t : Result ℕ Refusal). and_then t (pass_pair_of text)) (quad-passed p i n e (k, x, (m, o, y)) (follows-pair n q j r z)) ∙ pair-passed n q j (past-pair n q j r z) z f

  -- an argument that starts past the separators from p
  pub kind-passed : (kind : Kind) (p i j : ℕ) → past_separators_of text p ≡ i → argument_of edition text kind i j → Follows text j → pass_kind text kind p ≡ Ok j
  kind-passed Coordinate p i j e w f = number_passed p i j e w f
  kind-passed Pair p i j e w f = pair-passed p i j e w f
  kind-passed TwoPairs p i j e w f = quad-passed p i j e w f
  kind-passed ThreePairs p i j e w f = cubic-passed p i j e w f
  kind-passed Arc p i j e w f = arc-passed p i j e w f
