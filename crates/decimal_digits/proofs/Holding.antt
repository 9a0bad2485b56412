-- What the leading digits know of a number, as its digits are passed. Assumes nothing.
use Rattle.std.proofs.Common.{◌≡◌, ℕ, ◌+◌, ◌-◌, ◌*◌, ◌^◌, ◌<◌, ◌≤◌, true, false, List, [], ◌∷◌, ◌++◌, length, get_or, sym, refl, ap, ◌∙◌, subst, append-nil, mul_assoc, add-mul, mul-one, arith, lit<, pow-add}
use lib.Arith.{digits_lt}
use Rattle.scan.specs.Bytes.{among, digits}
use Rattle.decimal_digits.specs.Digits.{digits_in, val}
use Rattle.decimal_digits.specs.Leading.{Leads}
use Rattle.decimal_digits.proofs.Values.{val-append, val-one, val-lt}
use Rattle.decimal_digits.proofs.Places.{none_in, join-in, digit-in, other-in, run_in}

-- no digits yet
nothing : Leads [] 0 0
unfolding val
nothing = record { rest = 0; is = refl; small = lit< tt; early = λ h. refl }

pub leads-start : (text : List ℕ) (at : ℕ) → Leads (digits_in text at at) 0 0
leads-start text at = subst (λ (ds : List ℕ). Leads ds 0 0) (sym (none_in text at)) nothing

-- a digit more is taken
one_more : (ds : List ℕ) (w dropped x : ℕ) → Leads ds w dropped → w < 10 ^ 18 → Leads (ds ++ (x ∷ [])) (w * 10 + x) dropped
one_more ds w dropped x k h =
    let z : dropped ≡ 0 = k.early h in
    let p : 10 ^ dropped ≡ 1 = ap (λ (i : ℕ). 10 ^ i) z in
    let r : k.rest ≡ 0 = omega (arith, k.small, p) in
    let before : w * 10 ^ dropped ≡ w = ap (λ (i : ℕ). w * i) p ∙ mul-one w in
    let after : (w * 10 + x) * 10 ^ dropped ≡ w * 10 + x = ap (λ (i : ℕ). (w * 10 + x) * i) p ∙ mul-one (w * 10 + x) in
    record {
      rest = 0;
      is = val-append ds (x ∷ []) ∙ omega (arith, k.is, r, before, after, val-one x);
      small = omega (arith, p);
      early = λ f. z;
    }

-- digits more are dropped
many_more : (ds ys : List ℕ) (w dropped : ℕ) → Leads ds w dropped → 10 ^ 18 ≤ w → val ys < 10 ^ length ys → Leads (ds ++ ys) w (dropped + length ys)
many_more ds ys w dropped k h l =
    let p : 10 ^ (dropped + length ys) ≡ 10 ^ dropped * 10 ^ length ys = pow-add 10 dropped (length ys) in
    record {
      rest = k.rest * 10 ^ length ys + val ys;
      is = val-append ds ys ∙ ap (λ (z : ℕ). z * 10 ^ length ys + val ys) k.is ∙ omega (arith, add-mul (w * 10 ^ dropped) k.rest (10 ^ length ys), mul_assoc w (10 ^ dropped) (10 ^ length ys), ap (λ (z : ℕ). w * z) p);
      small = subst (λ (z : ℕ). k.rest * 10 ^ length ys + val ys < z) (sym p) (digits_lt k.small l);
      early = λ f. absurd (omega (arith, h, f));
    }

module _ (text : List ℕ) (start at w dropped : ℕ) (from : start ≤ at) (k : Leads (digits_in text start at) w dropped) where
  pub leads-digit : at < length text → among (get_or text at 0) digits ≡ true → w < 10 ^ 18 → Leads (digits_in text start (at + 1)) (w * 10 + (get_or text at 0 - 48)) dropped
  leads-digit h e l =
      subst (λ (ds : List ℕ). Leads ds (w * 10 + (get_or text at 0 - 48)) dropped)
      (sym (join-in text start at (at + 1) from (omega arith) ∙ ap (λ (ds : List ℕ). digits_in text start at ++ ds) (digit-in text at h e)))
      (one_more (digits_in text start at) w dropped (get_or text at 0 - 48) k l)

  pub leads-run : (end : ℕ) → at ≤ end → end ≤ length text → ((i : ℕ) → at ≤ i → i < end → among (get_or text i 0) digits ≡ true) → 10 ^ 18 ≤ w → Leads (digits_in text start end) w (dropped + (end - at))
  leads-run end h l d g =
      subst (λ (ds : List ℕ). Leads ds w (dropped + (end - at))) (sym (join-in text start at end from h))
      (subst (λ (n : ℕ). Leads (digits_in text start at ++ digits_in text at end) w (dropped + n)) (run_in text at end h l d)
      (many_more (digits_in text start at) (digits_in text at end) w dropped k g (val-lt _)))

  -- a byte that is no digit is passed
  pub leads-other : at < length text → among (get_or text at 0) digits ≡ false → Leads (digits_in text start (at + 1)) w dropped
  leads-other h e =
      subst (λ (ds : List ℕ). Leads ds w dropped) (sym (join-in text start at (at + 1) from (omega arith) ∙ ap (λ (ds : List ℕ). digits_in text start at ++ ds) (other-in text at h e) ∙ append-nil (digits_in text start at))) k
