-- Lengths one after the other: what the fold keeps is the shortest, the longest and the sum. Assumes nothing.
use Prim.Native.Nat.{ℕ, zero, suc, ◌+◌, ◌≤◌, ◌<◌}
use mathlib.Core.Path.{◌≡◌, refl, sym, ◌∙◌}
use mathlib.Core.Bool.{Bool, true, false, cond}
use mathlib.Core.Logic.{◌⊎◌, inl, inr, ⊎_elim}
use mathlib.Core.List.{List, [], ◌∷◌}
use native.Mathlib.Omega.{arith}
use borrow.Author.Tests.{ltb-true, ltb-false}
use lib.Dec.{ltb}
use lib.ListN.{length, get_or}
use Rattle.season_sheet.specs.Lengths.{none_of, more_of, measured, Among, sum_of, Extremes}
use Rattle.season_sheet.specs.declared.measures.Lengths.{Lengths}

-- the lesser of two is no more than either and one of them
record Lesser (a b r : ℕ) : Type 0 where
  first : r ≤ a
  second : r ≤ b
  one : (r ≡ a) ⊎ (r ≡ b)

lesser : (a b : ℕ) → Lesser a b (cond (ltb a b) a b)
lesser a b = by (ltb a b) refl
  where
    by : (t : Bool) → ltb a b ≡ t → Lesser a b (cond t a b)
    by true e = record { first = omega arith; second = (let h = ltb-true a b e in omega arith); one = inl refl }
    by false e = record { first = (let h = ltb-false a b e in omega arith); second = omega arith; one = inr refl }

-- the greater of two
record Greater (a b r : ℕ) : Type 0 where
  first : a ≤ r
  second : b ≤ r
  one : (r ≡ a) ⊎ (r ≡ b)

greater : (a b : ℕ) → Greater a b (cond (ltb a b) b a)
greater a b = by (ltb a b) refl
  where
    by : (t : Bool) → ltb a b ≡ t → Greater a b (cond t b a)
    by true e = record { first = (let h = ltb-true a b e in omega arith); second = omega arith; one = inr refl }
    by false e = record { first = omega arith; second = (let h = ltb-false a b e in omega arith); one = inl refl }

here : (x : ℕ) (xs : List ℕ) {r : ℕ} → r ≡ x → Among r (x ∷ xs)
here x xs e = record { at = 0; inside = omega arith; is = sym e }

later : (x : ℕ) (xs : List ℕ) {r : ℕ} → Among r xs → Among r (x ∷ xs)
later x xs m = record { at = suc m.at; inside = (let h = m.inside in omega arith); is = m.is }

-- what r has of the lengths since m
record Since (xs : List ℕ) (m r : Lengths) : Type 0 where
  low : r.shortest ≤ m.shortest
  least : (i : ℕ) → i < length xs → r.shortest ≤ get_or xs i 0
  short-one : (r.shortest ≡ m.shortest) ⊎ Among r.shortest xs
  high : m.longest ≤ r.longest
  most : (i : ℕ) → i < length xs → get_or xs i 0 ≤ r.longest
  long-one : (r.longest ≡ m.longest) ⊎ Among r.longest xs
  sum : r.sum ≡ m.sum + sum_of xs

since : (xs : List ℕ) (m : Lengths) → Since xs m (measured xs m)
unfolding measured more_of sum_of
since [] m =
    record {
      low = omega arith;
      least = λ i h. absurd (omega arith);
      short-one = inl refl;
      high = omega arith;
      most = λ i h. absurd (omega arith);
      long-one = inl refl;
      sum = omega arith;
    }
since (x ∷ xs) m = go (since xs (more_of m x)) (lesser x m.shortest) (greater m.longest x)
  where
    go : Since xs (more_of m x) (measured xs (more_of m x)) → Lesser x m.shortest (more_of m x).shortest → Greater m.longest x (more_of m x).longest → Since (x ∷ xs) m (measured xs (more_of m x))
    go s l g =
        record {
          low = omega (arith, s.low, l.second);
          least = least;
          short-one = ⊎_elim (λ e. ⊎_elim (λ f. inr (here x xs (e ∙ f))) (λ f. inl (e ∙ f)) l.one) (λ a. inr (later x xs a)) s.short-one;
          high = omega (arith, s.high, g.first);
          most = most;
          long-one = ⊎_elim (λ e. ⊎_elim (λ f. inl (e ∙ f)) (λ f. inr (here x xs (e ∙ f))) g.one) (λ a. inr (later x xs a)) s.long-one;
          sum = s.sum ∙ (let e : m.sum + x + sum_of xs ≡ m.sum + (x + sum_of xs) = omega arith in e);
        }
      where
        least : (i : ℕ) → i < length (x ∷ xs) → (measured xs (more_of m x)).shortest ≤ get_or (x ∷ xs) i 0
        least zero h = omega (arith, s.low, l.first)
        least (suc i) h = s.least i (omega arith)

        most : (i : ℕ) → i < length (x ∷ xs) → get_or (x ∷ xs) i 0 ≤ (measured xs (more_of m x)).longest
        most zero h = omega (arith, s.high, g.second)
        most (suc i) h = s.most i (omega arith)

-- of one length or more, none above 1,000,000,000
pub measured-extremes :
    (x : ℕ) (xs : List ℕ) → ((i : ℕ) → i < length (x ∷ xs) → get_or (x ∷ xs) i 0 ≤ 1000000000) → Extremes (x ∷ xs) (measured (x ∷ xs) none_of)
measured-extremes x xs few =
    let s = since (x ∷ xs) none_of in
    let first : x ≤ 1000000000 = few 0 (omega arith) in
    let low : (measured (x ∷ xs) none_of).shortest ≤ x = s.least 0 (omega arith) in
    let high : x ≤ (measured (x ∷ xs) none_of).longest = s.most 0 (omega arith) in
    record {
      shortest-met = ⊎_elim (λ e. here x xs (let f : (measured (x ∷ xs) none_of).shortest ≡ 1000000000 = e in omega (arith, f, low, first))) (λ a. a) s.short-one;
      shortest-least = s.least;
      longest-met = ⊎_elim (λ e. here x xs (let f : (measured (x ∷ xs) none_of).longest ≡ 0 = e in omega (arith, f, high))) (λ a. a) s.long-one;
      longest-most = s.most;
      sum-whole = s.sum ∙ (let e : 0 + sum_of (x ∷ xs) ≡ sum_of (x ∷ xs) = omega arith in e);
    }
