-- The loops that fill rows in: a row of as many places as are done is its own invariant. Assumes nothing.
use mathlib.Core.Path.{◌≡◌, refl, sym, ap, subst, ◌∙◌}
use mathlib.Core.Logic.{◌⊎◌, inl, inr}
use Prim.Native.Nat.{ℕ, ◌+◌, ◌-◌, ◌≤◌, ◌<◌}
use native.Mathlib.Nat.{eq-or-lt_of_le, not-suc-le-zero, le_refl, lt_of_not-le}
use native.Mathlib.Decide.{dec_le}
use native.Mathlib.Omega.{arith}
use mathlib.Core.List.{List}
use lib.ListN.{length, get_or, set, length-set}
use lib.Seq.{get_or-set_same, get_or-set_other, ext_get_or}
use lib.Ieee.{Float, nan}
use Rattle.trig_all.specs.Rows.{Row, Run, angle_of}

-- ---- a row of whole numbers
pub row-start : {numbers : ℕ → ℕ} {row : List ℕ} → length row ≡ 8 → Row numbers 0 row
row-start h = record { size = h; each = λ k l. absurd (not-suc-le-zero l) }

module _ {numbers : ℕ → ℕ} {row : List ℕ} {i : ℕ} where
  pub row_more : Row numbers i row → i < 8 → (v : ℕ) → v ≡ numbers i → Row numbers (i + 1) (set row i v)
  row_more r l v e = record { size = length-set row i v ∙ r.size; each = λ k g. put k (eq-or-lt_of_le (let m : k ≤ i = omega arith in m)) }
    where
      put : (k : ℕ) → (k ≡ i) ⊎ (k < i) → get_or (set row i v) k 0 ≡ numbers k
      put k (inl q) = subst (λ (j : ℕ). get_or (set row i v) j 0 ≡ numbers j) (sym q) (get_or-set_same row i v 0 (omega (arith, r.size)) ∙ e)
      put k (inr q) = get_or-set_other row i k v 0 (λ (x : k ≡ i). omega arith) ∙ r.each k q

  pub row-whole : {n : ℕ} → Row numbers i row → n ≤ i → Row numbers n row
  row-whole r past = record { size = r.size; each = λ k l. r.each k (omega arith) }

-- what is put for each number of a row, by the numbers of that row
pub row-through : {f g : ℕ → ℕ} → ((r : ℕ) → f r ≡ g r) → {numbers : ℕ → ℕ} {n : ℕ} {row new : List ℕ}
    → Row numbers n row → Row (λ (k : ℕ). f (get_or row k 0)) n new → Row (λ (k : ℕ). g (numbers k)) n new
row-through {f} same {numbers} r s = record { size = s.size; each = λ k l. s.each k l ∙ ap f (r.each k l) ∙ same (numbers k) }

-- ---- in place: each place before i has its number, and each from i on what it had
pub record Replacing (numbers : ℕ → ℕ) (old row : List ℕ) (i : ℕ) : Type 0 where
  pub done : Row numbers i row
  pub rest : (j : ℕ) → i ≤ j → get_or row j 0 ≡ get_or old j 0

pub replacing-start : {numbers : ℕ → ℕ} {old : List ℕ} → length old ≡ 8 → Replacing numbers old old 0
replacing-start h = record { done = row-start h; rest = λ j l. refl }

module _ {numbers : ℕ → ℕ} {old row : List ℕ} {i : ℕ} where
  -- what stands at i is still what it was
  pub replacing-here : Replacing numbers old row i → get_or row i 0 ≡ get_or old i 0
  replacing-here r = r.rest i (le_refl i)

  pub replacing-more : Replacing numbers old row i → i < 8 → (v : ℕ) → v ≡ numbers i → Replacing numbers old (set row i v) (i + 1)
  replacing-more r l v e =
      record {
        done = row_more r.done l v e;
        rest = λ j g. get_or-set_other row i j v 0 (λ (x : j ≡ i). omega arith) ∙ r.rest j (let u : i ≤ j = omega arith in u);
      }

-- ---- a run, of which i are put
pub run-start : {f : Float → Float} {at : ℕ} {angles old : List Float} → length old ≡ 32 → Run f at 0 angles old old
run-start h = record { size = h; own = λ k l. absurd (not-suc-le-zero l); rest = λ j l. refl }

module _ {f : Float → Float} {at i : ℕ} {angles old row : List Float} where
  -- the next place has still what it had
  pub run-here : Run f at i angles old row → get_or row (at + i) nan ≡ get_or old (at + i) nan
  run-here r = r.rest (at + i) (inr (le_refl _))

  pub run_more : Run f at i angles old row → at + i < 32 → (v : Float) → v ≡ f (angle_of angles at i) → Run f at (i + 1) angles old (set row (at + i) v)
  run_more r inside v e =
      record {
        size = length-set row (at + i) v ∙ r.size;
        own = λ k l. put k (eq-or-lt_of_le (let m : k ≤ i = omega arith in m));
        rest = λ j g. get_or-set_other row (at + i) j v nan (apart j g) ∙ r.rest j (before j g);
      }
    where
      put : (k : ℕ) → (k ≡ i) ⊎ (k < i) → get_or (set row (at + i) v) (at + k) nan ≡ f (angle_of angles at k)
      put k (inl q) =
          subst (λ (j : ℕ). get_or (set row (at + i) v) (at + j) nan ≡ f (angle_of angles at j)) (sym q) (get_or-set_same row (at + i) v nan (omega (arith, r.size)) ∙ e)
      put k (inr q) = get_or-set_other row (at + i) (at + k) v nan (λ (x : at + k ≡ at + i). omega arith) ∙ r.own k q

      apart : (j : ℕ) → (j < at) ⊎ (at + (i + 1) ≤ j) → j ≡ at + i → ⊥
      apart j (inl l) x = omega arith
      apart j (inr l) x = omega arith

      before : (j : ℕ) → (j < at) ⊎ (at + (i + 1) ≤ j) → (j < at) ⊎ (at + i ≤ j)
      before j (inl l) = inl l
      before j (inr l) = inr (omega arith)

  pub run-whole : {n : ℕ} → Run f at i angles old row → n ≤ i → i ≤ n → Run f at n angles old row
  run-whole {n} r past upto = record { size = r.size; own = λ k l. r.own k (omega arith); rest = λ j g. r.rest j (wider j g) }
    where
      wider : (j : ℕ) → (j < at) ⊎ (at + n ≤ j) → (j < at) ⊎ (at + i ≤ j)
      wider j (inl l) = inl l
      wider j (inr l) = inr (omega arith)

-- ---- two rows that a run allows are equal
pub run-unique : {f : Float → Float} {at n : ℕ} {angles old r s : List Float} → Run f at n angles old r → Run f at n angles old s → r ≡ s
run-unique {f} {at} {n} {angles} {old} {r} {s} a b = ext_get_or nan r s (a.size ∙ sym b.size) (λ j l. same j (dec_le at j) (dec_le (at + n) j))
  where
    same : (j : ℕ) → Dec (at ≤ j) → Dec (at + n ≤ j) → get_or r j nan ≡ get_or s j nan
    same j (no g) past = let out = inl (lt_of_not-le g) in a.rest j out ∙ sym (b.rest j out)
    same j (yes l) (yes past) = a.rest j (inr past) ∙ sym (b.rest j (inr past))
    same j (yes l) (no g) =
        let below = lt_of_not-le g in
        let inside : j - at < n = omega arith in
        let e : at + (j - at) ≡ j = omega arith in
        subst (λ (i : ℕ). get_or r i nan ≡ get_or s i nan) e (a.own (j - at) inside ∙ sym (b.own (j - at) inside))
