-- Leading digits and the two exponents: when the number is too small or too large for any product, and its place among the powers of ten otherwise. The
-- number is val ds * 10 ^ up / 10 ^ below, and u is how far its leading digits are moved up. Assumes nothing.
use Prim.Native.Nat.{ℕ, suc, ◌+◌, ◌-◌, ◌*◌, ◌^◌, ◌≤◌, ◌<◌, zero-le}
use mathlib.Core.Path.{◌≡◌, refl, ap, sym, ◌∙◌, subst}
use mathlib.Core.Logic.{◌⊎◌, inl, inr}
use mathlib.Core.List.{List}
use mathlib.Core.Bool.{Bool, true}
use native.Mathlib.Nat.{le_refl, le_trans, le_of_eq, add-mul, add-zero, zero-add, mul_assoc, mul_comm, mul_right_comm, zero-mul, one-mul, mul-le-mul, mul-le-mul_left, mul-le-mul_right, le_of_mul-le-mul_right, pow-suc}
use native.Mathlib.Omega.{arith}
use lib.Dec.{lit≤, lit<}
use lib.Pow.{pow-add}
use Rattle.floats.specs.Patterns.{infinity_bits}
use Rattle.decimal_rounding.proofs.Compares.{below_or_not}
use Rattle.decimal_rounding.proofs.Limits.{infinite-from, zero-to}
use Rattle.decimal_rounding.proofs.Pattern.{infinite-bits, zero_bits}
use Rattle.decimal_digits.specs.Digits.{val}
use Rattle.decimal_digits.specs.Leading.{Leads}
use Rattle.decimal_digits.proofs.Values.{ten-pos}
use Rattle.decimal_digits.proofs.Taking.{ten-mono}
use Rattle.decimal_product.specs.Near.{Leading, Cell, Says, Nearest as Product}
use Rattle.decimal_product.specs.declared.products.Near.{Near}
use Rattle.decimal_product.specs.declared.products.Near.TheVariants.{Bits, Between}
use Rattle.decimal.specs.Bits.{Nearest}

-- no digit but 0
pub none-nearest : (ds : List ℕ) (dropped up below : ℕ) → Leads ds 0 dropped → Nearest (val ds * 10 ^ up) (10 ^ below) 0
none-nearest ds dropped up below l =
    let z : dropped ≡ 0 = l.early (lit< tt) in
    let r : l.rest ≡ 0 = nothing l.rest dropped l.small z in
    let v : val ds ≡ 0 = l.is ∙ ap (λ (x : ℕ). x + l.rest) (zero-mul (10 ^ dropped)) ∙ zero-add l.rest ∙ r in
    record {
      finite_or_infinite = lit≤ tt;
      is = λ s. zero-to s (val ds * 10 ^ up) (10 ^ below) (ten-pos below) (subst (λ (x : ℕ). x * 10 ^ up * 2 ^ 150 ≤ 10 ^ below) (sym v) (subst (λ (x : ℕ). x * 2 ^ 150 ≤ 10 ^ below) (sym (zero-mul (10 ^ up))) zero-le)) ∙ zero_bits s;
    }
  where
    nothing : (r d : ℕ) → r < 10 ^ d → d ≡ 0 → r ≡ 0
    nothing r d h e = one r (subst (λ (x : ℕ). r < 10 ^ x) e h)
      where
        one : (r : ℕ) → r < 1 → r ≡ 0
        one r h = omega arith

-- the number, 10 ^ 64 times larger, by its leading digits
pub record Sized (w u num : ℕ) : Type 0 where
  pub more : ℕ
  pub at_least : w * 10 ^ u ≤ num * 10 ^ 64
  pub at_most : num * 10 ^ 64 ≤ (w + more) * 10 ^ u
  pub cut_off : (more ≡ 0) ⊎ ((more ≡ 1) × (2 ^ 59 ≤ w))

pub sized : (ds : List ℕ) (w dropped up : ℕ) → Leads ds w dropped → Sized w (dropped + 64 + up) (val ds * 10 ^ up)
sized ds w dropped up l = go (below_or_not w (10 ^ 18))
  where
    u : ℕ
    u = dropped + 64 + up

    moved : (x : ℕ) → x * 10 ^ dropped * 10 ^ up * 10 ^ 64 ≡ x * 10 ^ u
    moved x =
        mul_right_comm (x * 10 ^ dropped) (10 ^ up) (10 ^ 64)
        ∙ ap (λ (z : ℕ). z * 10 ^ up) (mul_assoc x (10 ^ dropped) (10 ^ 64) ∙ ap (λ (z : ℕ). x * z) (sym (pow-add 10 dropped 64)))
        ∙ mul_assoc x (10 ^ (dropped + 64)) (10 ^ up)
        ∙ ap (λ (z : ℕ). x * z) (sym (pow-add 10 (dropped + 64) up))

    scale : (x y : ℕ) → x ≤ y → x * 10 ^ up * 10 ^ 64 ≤ y * 10 ^ up * 10 ^ 64
    scale x y h = mul-le-mul_right (10 ^ 64) (mul-le-mul_right (10 ^ up) h)

    reach : (a b c : ℕ) → a ≡ b + c → b ≤ a
    reach a b c e = omega arith

    low : w * 10 ^ u ≤ val ds * 10 ^ up * 10 ^ 64
    low = le_trans (le_of_eq (sym (moved w))) (scale (w * 10 ^ dropped) (val ds) (reach (val ds) (w * 10 ^ dropped) l.rest l.is))

    bare : (a b c : ℕ) → a ≡ b + c → c ≡ 0 → a ≤ b
    bare a b c e z = omega arith

    nothing : (r d : ℕ) → r < 10 ^ d → d ≡ 0 → r ≡ 0
    nothing r d h e = one r (subst (λ (x : ℕ). r < 10 ^ x) e h)
      where
        one : (r : ℕ) → r < 1 → r ≡ 0
        one r h = omega arith

    next : (a b c p : ℕ) → a ≡ b + c → c < p → a ≤ b + p
    next a b c p e h = omega arith

    high : (more : ℕ) → val ds ≤ (w + more) * 10 ^ dropped → val ds * 10 ^ up * 10 ^ 64 ≤ (w + more) * 10 ^ u
    high more h = le_trans (scale (val ds) ((w + more) * 10 ^ dropped) h) (le_of_eq (moved (w + more)))

    go : (w < 10 ^ 18) ⊎ (10 ^ 18 ≤ w) → Sized w u (val ds * 10 ^ up)
    go (inl h) =
        let all = bare (val ds) (w * 10 ^ dropped) l.rest l.is (nothing l.rest dropped l.small (l.early h)) in
        record {
          more = 0;
          at_least = low;
          at_most = high 0 (le_trans all (le_of_eq (ap (λ (z : ℕ). z * 10 ^ dropped) (sym (add-zero w)))));
          cut_off = inl refl;
        }
    go (inr h) =
        let cut = next (val ds) (w * 10 ^ dropped) l.rest (10 ^ dropped) l.is l.small in
        record {
          more = 1;
          at_least = low;
          at_most = high 1 (le_trans cut (le_of_eq (ap (λ (z : ℕ). w * 10 ^ dropped + z) (sym (one-mul (10 ^ dropped))) ∙ sym (add-mul w 1 (10 ^ dropped)))));
          cut_off = inr (refl, le_trans (lit≤ tt) h);
        }

module _ (w u num below : ℕ) (z : Sized w u num) where
  -- the power of ten is in the table
  pub placed : (i : ℕ) → below + i ≡ u → Leading w i num (10 ^ below)
  placed i e =
      let p : 10 ^ u ≡ 10 ^ i * 10 ^ below = ap (λ (x : ℕ). 10 ^ x) (sym e) ∙ pow-add 10 below i ∙ mul_comm (10 ^ below) (10 ^ i) in
      record {
        more = z.more;
        at_least = subst (λ (x : ℕ). w * x ≤ num * 10 ^ 64) p z.at_least;
        at_most = subst (λ (x : ℕ). num * 10 ^ 64 ≤ (w + z.more) * x) p z.at_most;
        cut_off = z.cut_off;
      }

  pub too-low : w < 2 ^ 64 → u < below → Nearest num (10 ^ below) 0
  too-low h l =
      let power : 10 ^ u * 10 ≤ 10 ^ below = le_trans (le_of_eq (sym (pow-suc 10 u))) (ten-mono (suc u) below l) in
      let leading : (w + z.more) * 10 ^ u * 10 ≤ 2 ^ 64 * 10 ^ below = le_trans (le_of_eq (mul_assoc (w + z.more) (10 ^ u) 10)) (mul-le-mul (top z.more z.cut_off) power) in
      let digits : num * 10 ^ 65 ≤ 2 ^ 64 * 10 ^ below = le_trans (le_of_eq (sym (mul_assoc num (10 ^ 64) 10))) (le_trans (mul-le-mul_right 10 z.at_most) leading) in
      let small : num * 2 ^ 150 * 2 ^ 64 ≤ 10 ^ below * 2 ^ 64 = le_trans (le_of_eq (mul_assoc num (2 ^ 150) (2 ^ 64))) (le_trans (mul-le-mul_left num (lit≤ tt)) (le_trans digits (le_of_eq (mul_comm (2 ^ 64) (10 ^ below))))) in
      record {
        finite_or_infinite = lit≤ tt;
        is = λ s. zero-to s num (10 ^ below) (ten-pos below) (le_of_mul-le-mul_right small (lit< tt)) ∙ zero_bits s;
      }
    where
      top : (m : ℕ) → (m ≡ 0) ⊎ ((m ≡ 1) × (2 ^ 59 ≤ w)) → w + m ≤ 2 ^ 64
      top m (inl e) = none w m h e
        where
          none : (w m : ℕ) → w < 2 ^ 64 → m ≡ 0 → w + m ≤ 2 ^ 64
          none w m h e = omega arith
      top m (inr e) = one w m h e.0
        where
          one : (w m : ℕ) → w < 2 ^ 64 → m ≡ 1 → w + m ≤ 2 ^ 64
          one w m h e = omega arith

  pub too-high : 0 < w → below + 102 < u → Nearest num (10 ^ below) infinity_bits
  too-high h l =
      let power : 10 ^ below * 10 ^ 103 ≤ 10 ^ u = le_trans (le_of_eq (sym (pow-add 10 below 103))) (ten-mono (below + 103) u (omega arith)) in
      let digits : 10 ^ below * 10 ^ 103 ≤ num * 10 ^ 64 = le_trans power (le_trans (le_trans (le_of_eq (sym (one-mul (10 ^ u)))) (mul-le-mul_right (10 ^ u) h)) z.at_least) in
      let large : 10 ^ below * 10 ^ 39 ≤ num = le_of_mul-le-mul_right (le_trans (le_of_eq (mul_assoc (10 ^ below) (10 ^ 39) (10 ^ 64))) digits) (lit< tt) in
      record {
        finite_or_infinite = le_refl infinity_bits;
        is = λ s. infinite-from s num (10 ^ below) (ten-pos below) (le_trans (le_of_eq (mul_comm (2 ^ 128 - 2 ^ 103) (10 ^ below))) (le_trans (mul-le-mul_left (10 ^ below) (lit≤ tt)) large)) ∙ infinite-bits s;
      }

-- ---- what the product says, by its case

module _ {w place : ℕ} {r : Near} (said : Product w place r) (num den : ℕ) (d : 0 < den) (l : Leading w place num den) where
  pub product-bits : {b : ℕ} → r ≡ Bits b → Nearest num den b
  product-bits {b} e =
      let h : (s : Bool) → Says (Bits b) s num den = λ s. subst (λ (x : Near). Says x s num den) e (said.said s num den d l) in
      record { finite_or_infinite = (h true).0; is = λ s. (h s).1 }

  pub product-between : {m k : ℕ} → r ≡ Between m k → Cell m k num den
  product-between e = subst (λ (x : Near). Says x true num den) e (said.said true num den d l)
