-- A row of a record, one pattern after the other: what those before are, and that the rest decides. Past the text's end all offsets are alike. Assumes nothing.
use Rattle.std.proofs.Common.{◌≡◌, ℕ, zero, suc, ◌+◌, ◌-◌, ◌<◌, ◌≤◌, Bool, true, false, cond, ◌&&◌, ◌==◌, eqb, ltb, List, [], ◌∷◌, ◌++◌, length, get_or, take, drop, set, sym, refl, ap, ◌∙◌, add-one, arith, length-set, drop_of_length-le, take_all, drop-cons, take-suc-set, ltb-false, eq-eqb, ne_eqb}
use Rattle.std.specs.List.{list_all, zip}
use lib.Seq.{append_snoc}
use lib.Ieee.{Float, nan}
use Rattle.floats.specs.Floats.{bits_of}
use Rattle.replay_records.specs.Records.{pattern_of, float_of}
use Rattle.replay_records.specs.Numbers.{onward_of, numbers_of, same_numbers, same_bytes}
use Rattle.replay_records.proofs.Digits.{text-ends}

-- ---- past the text's end
module _ (text : List ℕ) (step : ℕ) where
  past_end : (p : ℕ) → length text ≤ p → pattern_of text p ≡ 0
  past_end p h = sym (text-ends text p (omega arith))

  numbers-past : (count p q : ℕ) → length text ≤ p → length text ≤ q → numbers_of text p step count ≡ numbers_of text q step count
  unfolding numbers_of
  numbers-past zero p q h g = refl
  numbers-past (suc count) p q h g =
      let a = past_end p h in
      let b = past_end q g in
      let rest = numbers-past count (p + step) (q + step) (omega arith) (omega arith) in
      cc

  same-past : (numbers : List Float) (p q : ℕ) → length text ≤ p → length text ≤ q → same_numbers numbers text p step ≡ same_numbers numbers text q step
  unfolding same_numbers
  same-past [] p q h g = refl
  same-past (x ∷ numbers) p q h g =
      let a = past_end p h in
      let b = past_end q g in
      let rest = same-past numbers (p + step) (q + step) (omega arith) (omega arith) in
      cc

  module _ (offset : ℕ) where
    numbers-onward : (count : ℕ) → numbers_of text (onward_of text offset step) step count ≡ numbers_of text (offset + step) step count
    numbers-onward count = go (ltb offset (length text)) refl
      where
        go : (b : Bool) → ltb offset (length text) ≡ b → numbers_of text (cond b (offset + step) offset) step count ≡ numbers_of text (offset + step) step count
        go true e = refl
        go false e = let h = ltb-false offset (length text) e in numbers-past count offset (offset + step) h (omega arith)

    same-onward : (numbers : List Float) → same_numbers numbers text (onward_of text offset step) step ≡ same_numbers numbers text (offset + step) step
    same-onward numbers = go (ltb offset (length text)) refl
      where
        go : (b : Bool) → ltb offset (length text) ≡ b → same_numbers numbers text (cond b (offset + step) offset) step ≡ same_numbers numbers text (offset + step) step
        go true e = refl
        go false e = let h = ltb-false offset (length text) e in same-past numbers offset (offset + step) h (omega arith)

-- ---- numbers read: those before i are in, and the rest of the row belongs past them
pub record Reading (text : List ℕ) (at step : ℕ) (before out : List Float) (offset i : ℕ) : Type 0 where
  pub size : length out ≡ length before
  pub upto : i ≤ length before
  pub rest : take i out ++ numbers_of text offset step (length before - i) ≡ numbers_of text at step (length before)

module _ (text : List ℕ) (at step : ℕ) (before : List Float) where
  pub reading-start : Reading text at step before before at 0
  reading-start = record { size = refl; upto = omega arith; rest = ap (λ (k : ℕ). numbers_of text at step k) (let e : length before - 0 ≡ length before = omega arith in e) }

  module _ (out : List Float) (offset i : ℕ) (r : Reading text at step before out offset i) where
    pub reading-more : (x : Float) (next : ℕ) → i < length out → x ≡ float_of (pattern_of text offset) → next ≡ onward_of text offset step → Reading text at step before (set out i x) next (i + 1)
    unfolding numbers_of
    reading-more x next inside e f =
        let s = r.size in
        let m = length before - (i + 1) in
        let left : length before - i ≡ suc m = omega arith in
        record {
          size = length-set out i x ∙ s;
          upto = omega arith;
          rest =
              ap (λ (p : ℕ). take (i + 1) (set out i x) ++ numbers_of text p step m) f
              ∙ ap (λ (l : List Float). take (i + 1) (set out i x) ++ l) (numbers-onward text step offset m)
              ∙ ap (λ (k : ℕ). take k (set out i x) ++ numbers_of text (offset + step) step m) (add-one i)
              ∙ ap (λ (l : List Float). l ++ numbers_of text (offset + step) step m) (take-suc-set out i x inside)
              ∙ append_snoc (take i out) x (numbers_of text (offset + step) step m)
              ∙ ap (λ (y : Float). take i out ++ y ∷ numbers_of text (offset + step) step m) e
              ∙ ap (λ (k : ℕ). take i out ++ numbers_of text offset step k) (sym left)
              ∙ r.rest;
        }

    pub reading-done : length out ≤ i → out ≡ numbers_of text at step (length before)
    unfolding numbers_of
    reading-done past =
        let s = r.size in
        let none : length before - i ≡ 0 = omega arith in
        sym (take_all i out past) ∙ sym (nothing (take i out)) ∙ ap (λ (k : ℕ). take i out ++ numbers_of text offset step k) (sym none) ∙ r.rest
      where
        nothing : (xs : List Float) → xs ++ [] ≡ xs
        nothing [] = refl
        nothing (x ∷ xs) = ap (λ (l : List Float). x ∷ l) (nothing xs)

-- ---- numbers held against patterns: those before i agree, and the rest decides
pub record Agreeing (numbers : List Float) (text : List ℕ) (at step offset i : ℕ) : Type 0 where
  pub upto : i ≤ length numbers
  pub rest : same_numbers (drop i numbers) text offset step ≡ same_numbers numbers text at step

module _ (numbers : List Float) (text : List ℕ) (at step : ℕ) where
  pub agreeing-start : Agreeing numbers text at step at 0
  agreeing-start = record { upto = omega arith; rest = refl }

  module _ (offset i : ℕ) (a : Agreeing numbers text at step offset i) where
    module _ (inside : i < length numbers) (own due : ℕ) (o : own ≡ bits_of (get_or numbers i nan)) (d : due ≡ pattern_of text offset) where
      parted : same_numbers (drop i numbers) text offset step ≡ (eqb own due && same_numbers (drop (suc i) numbers) text (offset + step) step)
      unfolding same_numbers
      parted = rw (drop-cons numbers i nan inside, o, d) refl

      pub agreeing-more : (next : ℕ) → own ≡ due → next ≡ onward_of text offset step → Agreeing numbers text at step next (i + 1)
      agreeing-more next e f = record {
        upto = omega arith;
        rest =
            ap (λ (p : ℕ). same_numbers (drop (i + 1) numbers) text p step) f
            ∙ same-onward text step offset (drop (i + 1) numbers)
            ∙ ap (λ (k : ℕ). same_numbers (drop k numbers) text (offset + step) step) (add-one i)
            ∙ sym (parted ∙ ap (λ (b : Bool). b && same_numbers (drop (suc i) numbers) text (offset + step) step) (eq-eqb own due e))
            ∙ a.rest;
      }

      pub agreeing-not : (own ≡ due → ⊥) → false ≡ same_numbers numbers text at step
      agreeing-not h = sym (parted ∙ ap (λ (b : Bool). b && same_numbers (drop (suc i) numbers) text (offset + step) step) (ne_eqb own due h)) ∙ a.rest

    pub agreeing-done : length numbers ≤ i → true ≡ same_numbers numbers text at step
    unfolding same_numbers
    agreeing-done past = ap (λ (xs : List Float). same_numbers xs text offset step) (sym (drop_of_length-le numbers past)) ∙ a.rest

-- ---- bytes held against bytes: pair by pair with the part of the text where they are looked for
pub same_bytes-zip :
    (by : ℕ) (text bytes : List ℕ) (at count : ℕ) → count ≡ length bytes → at + count ≤ length text
    → list_all (λ p. p.0 + by == p.1) (zip bytes (take count (drop at text))) ≡ same_bytes bytes by text at
unfolding same_bytes
same_bytes-zip by text [] at count e inside = refl
same_bytes-zip by text (b ∷ bytes) at count e inside =
    rw (e, drop-cons text at 0 (omega arith), add-one at)
    (ap (λ (rest : Bool). b + by == get_or text at 0 && rest) (same_bytes-zip by text bytes (suc at) (length bytes) refl (omega arith)))
