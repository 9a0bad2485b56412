-- The number that digits stand for: of digits after digits, and its size. Assumes nothing.
use Rattle.std.proofs.Common.{◌≡◌, ℕ, zero, suc, ◌+◌, ◌-◌, ◌*◌, ◌^◌, ◌<◌, Bool, true, false, cond, List, [], ◌∷◌, ◌++◌, length, sym, refl, ap, ◌∙◌, subst, mul_assoc, mul_comm, add-mul, mul-pos, pow-suc, zero-add, zero-mul, arith, lit<, length-append, pow-add}
use lib.Arith.{digits_lt}
use Rattle.scan.specs.Bytes.{among, digits}
use Rattle.scan.proofs.ByteLaws.{digit-range}
use Rattle.decimal_digits.specs.Digits.{digits_among, val}

pub ten-pos : (k : ℕ) → 0 < 10 ^ k
ten-pos zero = lit< tt
ten-pos (suc k) = subst (λ (z : ℕ). 0 < z) (sym (pow-suc 10 k)) (mul-pos (ten-pos k) (lit< tt))

pub val-append : (xs ys : List ℕ) → val (xs ++ ys) ≡ val xs * 10 ^ length ys + val ys
unfolding val
val-append [] ys = sym (ap (λ (z : ℕ). z + val ys) (zero-mul (10 ^ length ys)) ∙ zero-add (val ys))
val-append (x ∷ xs) ys =
    ap (λ (z : ℕ). x * 10 ^ z + val (xs ++ ys)) (length-append xs ys)
    ∙ ap (λ (z : ℕ). x * z + val (xs ++ ys)) (pow-add 10 (length xs) (length ys))
    ∙ omega (arith, val-append xs ys, sym (mul_assoc x (10 ^ length xs) (10 ^ length ys)), add-mul (x * 10 ^ length xs) (val xs) (10 ^ length ys))

pub val-one : (x : ℕ) → val (x ∷ []) ≡ x
unfolding val
val-one x = omega arith

-- ---- digits among bytes

pub digit_lt : (byte : ℕ) → among byte digits ≡ true → byte - 48 < 10
digit_lt byte e = let r = digit-range byte e in omega arith

pub val-lt : (bytes : List ℕ) → val (digits_among bytes) < 10 ^ length (digits_among bytes)
unfolding val digits_among
val-lt [] = lit< tt
val-lt (byte ∷ rest) = go (among byte digits) refl (val-lt rest)
  where
    go : (x : Bool) → among byte digits ≡ x → val (digits_among rest) < 10 ^ length (digits_among rest)
        → val (cond x ((byte - 48) ∷ digits_among rest) (digits_among rest)) < 10 ^ length (cond x ((byte - 48) ∷ digits_among rest) (digits_among rest))
    go true e w = subst (λ (z : ℕ). (byte - 48) * 10 ^ length (digits_among rest) + val (digits_among rest) < z) (mul_comm 10 (10 ^ length (digits_among rest)) ∙ sym (pow-suc 10 (length (digits_among rest)))) (digits_lt (digit_lt byte e) w)
    go false e w = w

pub among-append : (xs ys : List ℕ) → digits_among (xs ++ ys) ≡ digits_among xs ++ digits_among ys
unfolding digits_among
among-append [] ys = refl
among-append (x ∷ xs) ys = go (among x digits) (among-append xs ys)
  where
    go : (b : Bool) → digits_among (xs ++ ys) ≡ digits_among xs ++ digits_among ys → cond b ((x - 48) ∷ digits_among (xs ++ ys)) (digits_among (xs ++ ys)) ≡ cond b ((x - 48) ∷ digits_among xs) (digits_among xs) ++ digits_among ys
    go true e = ap (λ (l : List ℕ). (x - 48) ∷ l) e
    go false e = e
