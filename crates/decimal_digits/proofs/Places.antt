-- The digits between two places of a text: none, one, those of two parts, and those of a run, which are as many as its bytes. Assumes nothing.
use Rattle.std.proofs.Common.{◌≡◌, ℕ, zero, suc, ◌+◌, ◌-◌, ◌<◌, ◌≤◌, Bool, true, false, cond, List, [], ◌∷◌, ◌++◌, length, get_or, take, drop, ap, ◌∙◌, subst, arith, length-append, drop-cons, drop-drop, take-add}
use Rattle.scan.specs.Bytes.{among, digits}
use Rattle.decimal_digits.specs.Digits.{digits_among, digits_in}
use Rattle.decimal_digits.proofs.Values.{among-append}

module _ (text : List ℕ) where
  pub none_in : (at : ℕ) → digits_in text at at ≡ []
  unfolding digits_among
  none_in at = let e : at - at ≡ 0 = omega arith in rw e

  pub join-in : (a b c : ℕ) → a ≤ b → b ≤ c → digits_in text a c ≡ digits_in text a b ++ digits_in text b c
  join-in a b c h l =
      let n : c - a ≡ (b - a) + (c - b) = omega arith in
      let m : a + (b - a) ≡ b = omega arith in
      ap (λ (z : ℕ). digits_among (take z (drop a text))) n
      ∙ ap digits_among (take-add (b - a) (c - b) (drop a text))
      ∙ ap (λ (z : List ℕ). digits_among (take (b - a) (drop a text) ++ take (c - b) z)) (drop-drop (b - a) a text ∙ ap (λ (z : ℕ). drop z text) m)
      ∙ among-append (take (b - a) (drop a text)) (take (c - b) (drop b text))

  one_byte : (at : ℕ) → at < length text → take (at + 1 - at) (drop at text) ≡ get_or text at 0 ∷ []
  one_byte at h = let n : at + 1 - at ≡ 1 = omega arith in rw (n, drop-cons text at 0)

  pub digit-in : (at : ℕ) → at < length text → among (get_or text at 0) digits ≡ true → digits_in text at (at + 1) ≡ (get_or text at 0 - 48) ∷ []
  unfolding digits_among
  digit-in at h e = ap digits_among (one_byte at h) ∙ ap (λ (b : Bool). cond b ((get_or text at 0 - 48) ∷ []) []) e

  pub other-in : (at : ℕ) → at < length text → among (get_or text at 0) digits ≡ false → digits_in text at (at + 1) ≡ []
  unfolding digits_among
  other-in at h e = ap digits_among (one_byte at h) ∙ ap (λ (b : Bool). cond b ((get_or text at 0 - 48) ∷ []) []) e

  run_of : (n a : ℕ) → a + n ≤ length text → ((k : ℕ) → a ≤ k → k < a + n → among (get_or text k 0) digits ≡ true) → length (digits_in text a (a + n)) ≡ n
  run_of zero a h d = let e : a + 0 ≡ a = omega arith in ap (λ (z : ℕ). length (digits_in text a z)) e ∙ ap length (none_in a)
  run_of (suc n) a h d =
      let e : a + suc n ≡ (a + 1) + n = omega arith in
      let rest = run_of n (a + 1) (omega arith) (λ k from upto. d k (omega arith) (omega arith)) in
      ap (λ (z : ℕ). length (digits_in text a z)) e
      ∙ ap length (join-in a (a + 1) (a + 1 + n) (omega arith) (omega arith))
      ∙ length-append (digits_in text a (a + 1)) (digits_in text (a + 1) (a + 1 + n))
      ∙ ap (λ (l : List ℕ). length l + length (digits_in text (a + 1) (a + 1 + n))) (digit-in a (omega arith) (d a (omega arith) (omega arith)))
      ∙ omega (arith, rest)

  pub run_in : (a b : ℕ) → a ≤ b → b ≤ length text → ((k : ℕ) → a ≤ k → k < b → among (get_or text k 0) digits ≡ true) → length (digits_in text a b) ≡ b - a
  run_in a b h l d =
      let e : a + (b - a) ≡ b = omega arith in
      subst (λ (z : ℕ). length (digits_in text a z) ≡ b - a) e (run_of (b - a) a (omega arith) (λ k from upto. d k from (omega arith)))
