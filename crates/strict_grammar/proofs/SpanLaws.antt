-- Laws of spans: a byte of a class at a place, runs of one class, and the longest word. Assumes nothing.
use Prim.Native.Nat.{ℕ, zero, suc, ◌+◌, ◌-◌, ◌≤◌, ◌<◌}
use mathlib.Core.Path.{◌≡◌, refl, sym, subst, ◌∙◌, ap}
use mathlib.Core.Bool.{Bool, true, false}
use mathlib.Core.List.{List, [], ◌∷◌}
use mathlib.Core.Logic.{◌⊎◌, inl, inr, ⊎_elim}
use native.Mathlib.Omega.{arith}
use lib.Dec.{T, leb}
use borrow.Author.Tests.{leb-true, leb-false}
use lib.ListN.{length, get_or}
use Rattle.scan.specs.Bytes.{among}
use Rattle.scan.specs.Runs.{stands, past_all}
use Rattle.scan.proofs.ByteLaws.{apartb, apart, withinb, within, clash, either_way}
use Rattle.scan.proofs.RunLaws.{stands-inside, stands-within, stands-among, all-onward, all-stands, all-stopped}
use Rattle.strict_grammar.specs.Spans.{Span, Byte, ◌·◌, opt, star, none, more, plus, longest}

-- ---- a byte

module _ {text : List ℕ} where
  pub standing : (class : List ℕ) (i : ℕ) → stands text i class ≡ true → Byte text class i (i + 1)
  standing class i h = record { there = h; next = refl }

  pub not_byte : {class : List ℕ} {i j : ℕ} → stands text i class ≡ false → Byte text class i j → ⊥
  not_byte h b = clash b.there h

  -- a place where a byte stands is within the text
  pub inside : {class : List ℕ} {i j : ℕ} → Byte text class i j → i < length text
  inside {class} {i} b = stands-within class text i b.there

  -- bytes of two classes with none in common do not stand at one place
  pub not-both : {l m : List ℕ} {i j k : ℕ} → T (apartb l m) → Byte text l i j → Byte text m i k → ⊥
  not-both {l} {m} {i} t a b = apart l m t (get_or text i 0) (stands-among l text i a.there) (stands-among m text i b.there)

  -- where a byte of one class stands, none of a class apart from it does
  pub other : {l : List ℕ} (m : List ℕ) {i j : ℕ} → T (apartb l m) → Byte text l i j → stands text i m ≡ false
  other {l} m {i} t a = ⊎_elim (λ h. absurd (not-both t a (standing m i h))) (λ h. h) (either_way (stands text i m))

  -- a byte of a class is one of a wider class
  pub wider : {l m : List ℕ} {i j : ℕ} → T (withinb l m) → Byte text l i j → Byte text m i j
  wider {l} {m} {i} t a =
      record {
        there = stands-inside m text i (inside a) ∙ within l m t (get_or text i 0) (stands-among l text i a.there);
        next = a.next;
      }

-- ---- numbers

pub le-or : (m n : ℕ) → (m ≤ n) ⊎ (n ≤ m)
le-or m n = ⊎_elim (λ h. inl (leb-true m n h)) (λ h. let g = leb-false m n h in inr (omega arith)) (either_way (leb m n))

-- ---- one word after the other

-- the longest word is one
pub longest-same : (P : Span) {i j k : ℕ} → longest P i j → longest P i k → j ≡ k
longest-same P {i} {j} {k} a b = let p = a.1 k b.0 in let q = b.1 j a.0 in omega arith

module _ {P : Span} where
  pub snoc : {i j k : ℕ} → star P i j → P j k → star P i k
  snoc {i} {j} {k} (none e) p = more (subst (λ (x : ℕ). P x k) (sym e) p) (none refl)
  snoc (more q r) p = more q (snoc r p)

  pub joined : {i j k : ℕ} → star P i j → star P j k → star P i k
  joined {i} {j} {k} (none e) r = subst (λ (x : ℕ). star P x k) (sym e) r
  joined (more q r) p = more q (joined r p)

-- ---- a run of one class

module _ {text l : List ℕ} where
  pub star-le : {i j : ℕ} → star (Byte text l) i j → i ≤ j
  star-le (none e) = omega arith
  star-le (more b r) = let h = star-le r in omega (arith, b.next)

  -- where no byte of the class stands, the run ends
  pub star-stops : {i k : ℕ} → stands text i l ≡ false → star (Byte text l) i k → i ≡ k
  star-stops h (none e) = e
  star-stops h (more b r) = absurd (not_byte h b)

  star-tail : {i k j : ℕ} → Byte text l i k → star (Byte text l) i j → k ≤ j → star (Byte text l) k j
  star-tail {i} {k} {j} b (none e) h = absurd (let n = b.next in omega arith)
  star-tail {i} {k} {j} b (more d r) h = subst (λ (x : ℕ). star (Byte text l) x j) (d.next ∙ sym b.next) r

  -- of two runs from one place the longer goes on from the shorter one's end
  pub star-rest : {i k j : ℕ} → star (Byte text l) i k → star (Byte text l) i j → k ≤ j → star (Byte text l) k j
  star-rest {i} {k} {j} (none e) r h = subst (λ (x : ℕ). star (Byte text l) x j) e r
  star-rest {i} {k} {j} (more b q) r h = star-rest q (star-tail b r (let g = star-le q in omega arith)) h

  pub plus-lt : {i j : ℕ} → plus (Byte text l) i j → i < j
  plus-lt p = let g = star-le p.2 in let n = p.1.next in omega arith

  pub plus-star : {i j : ℕ} → plus (Byte text l) i j → star (Byte text l) i j
  plus-star p = more p.1 p.2

  pub star-plus : {i j : ℕ} → star (Byte text l) i j → i < j → plus (Byte text l) i j
  star-plus (none e) h = absurd (omega arith)
  star-plus (more {k = k} b r) h = (k, b, r)

  pub star-or : {i j : ℕ} → star (Byte text l) i j → (i ≡ j) ⊎ plus (Byte text l) i j
  star-or (none e) = inl e
  star-or (more {k = k} b r) = inr (k, b, r)

  -- a run that ends where the class does is the longest
  pub run-same : {i j k : ℕ} → longest (star (Byte text l)) i j → star (Byte text l) i k → stands text k l ≡ false → k ≡ j
  run-same {i} {j} {k} r q h = star-stops h (star-rest q r.0 (r.1 k q))

-- ---- the run that `scan` finds

module _ (l text : List ℕ) where
  run_up : (n i : ℕ) → ((k : ℕ) → i ≤ k → k < i + n → stands text k l ≡ true) → star (Byte text l) i (i + n)
  run_up zero i each = let e : i ≡ i + 0 = omega arith in none e
  run_up (suc n) i each =
      let e : (i + 1) + n ≡ i + suc n = omega arith in
      more (standing l i (each i (omega arith) (omega arith)))
      (subst (λ (x : ℕ). star (Byte text l) (i + 1) x) e (run_up n (i + 1) (λ k a b. each k (omega arith) (omega arith))))

  pub run-between : (i j : ℕ) → i ≤ j → ((k : ℕ) → i ≤ k → k < j → stands text k l ≡ true) → star (Byte text l) i j
  run-between i j h each =
      let e : i + (j - i) ≡ j = omega arith in
      subst (λ (x : ℕ). star (Byte text l) i x) e (run_up (j - i) i (λ k a b. each k a (omega arith)))

  pub run-found : (i : ℕ) → longest (star (Byte text l)) i (past_all l text i)
  run-found i =
      let w = run-between i (past_all l text i) (all-onward l text i) (all-stands l text i) in
      (w, λ k s. at_most k s w)
    where
      at_most : (k : ℕ) → star (Byte text l) i k → star (Byte text l) i (past_all l text i) → k ≤ past_all l text i
      at_most k s w =
          ⊎_elim (λ h. h) (λ h. let e = star-stops (all-stopped l text i) (star-rest w s h) in omega arith) (le-or k (past_all l text i))
