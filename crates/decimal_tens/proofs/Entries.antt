-- An entry of the table of powers of ten is what the power's definition computes to at its place. Assumes nothing.
use Prim.Native.Nat.{ℕ, zero, suc, ◌+◌, ◌*◌, ◌/◌, ◌^◌, ◌≤◌, ◌<◌}
use mathlib.Core.Path.{◌≡◌, refl, ap, sym, ◌∙◌, subst}
use mathlib.Core.Logic.{◌⊎◌, inl, inr}
use mathlib.Core.Bool.{Bool, true, false, cond, ◌&&◌}
use native.Mathlib.Nat.{le_refl, mul-pos, div-mul-le_self, div-lt_iff_lt-mul}
use native.Mathlib.Omega.{arith}
use lib.Dec.{T, ltb, leb, eqb, eqb→eq, leb→le, ltb→lt, lit<}
use lib.Pow.{pow_pos}
use borrow.Author.Tests.{le-ltb, lt-ltb, eqb-true, eqb-false}
use Rattle.decimal_tens.specs.Tens.{places, height, leading, tens_of}
use Rattle.decimal_tens.proofs.Matched.{NoneOf, none_of}

-- ---- the table as a `match` on the place

-- a place that is the key k has the entry computed at k
pub entry : (k r place : ℕ) → place ≡ k → T (eqb r (tens_of k)) → r ≡ tens_of place
entry k r place e t = eqb→eq r (tens_of k) t ∙ ap tens_of (sym e)

-- a place that is none of the keys is past the table
pub past : (place : ℕ) → NoneOf places place → 0 ≡ tens_of place
unfolding tens_of
past place h = rw (le-ltb place places (none_of places place h))

-- ---- what an entry says of its power

-- p is the power's leading 60 digits: 10 ^ (place - 64) lies from p to p + 1 times 2 ^ (height place - 272)
pub record Leads (place p : ℕ) : Type 0 where
  pub at_least : p * (2 ^ height place * 10 ^ 64) ≤ 10 ^ place * 2 ^ 272
  pub below_next : 10 ^ place * 2 ^ 272 < suc p * (2 ^ height place * 10 ^ 64)
  pub full : 2 ^ 59 ≤ p
  pub small : p < 2 ^ 60

-- the range of every entry, computed
spans : ℕ → Bool
unfolding tens_of
spans zero = true
spans (suc n) = leb (2 ^ 59) (tens_of n) && ltb (tens_of n) (2 ^ 60) && spans n

all-span : T (spans places)
unfolding spans tens_of
all-span = tt

span-at : (n place : ℕ) → T (spans n) → place < n → (2 ^ 59 ≤ tens_of place) × (tens_of place < 2 ^ 60)
unfolding spans
span-at zero place t h = absurd (omega arith)
span-at (suc n) place t h = go (eqb place n) refl (λ u g. span-at n place u g)
  where
    first : (a b c : Bool) → T (a && b && c) → T a × T b × T c
    first true true c u = (tt, tt, u)
    first true false c u = absurd u
    first false b c u = absurd u

    parts : T (leb (2 ^ 59) (tens_of n)) × T (ltb (tens_of n) (2 ^ 60)) × T (spans n)
    parts = first (leb (2 ^ 59) (tens_of n)) (ltb (tens_of n) (2 ^ 60)) (spans n) t

    go : (b : Bool) → eqb place n ≡ b → (T (spans n) → place < n → (2 ^ 59 ≤ tens_of place) × (tens_of place < 2 ^ 60)) → (2 ^ 59 ≤ tens_of place) × (tens_of place < 2 ^ 60)
    go true e before = rw (eqb-true place n e) (leb→le _ _ parts.0, ltb→lt _ _ parts.1)
    go false e before = let m = eqb-false place n e in before parts.2 (omega arith)

pub leads : (place : ℕ) → place < places → Leads place (tens_of place)
unfolding tens_of leading
leads place h =
    let x = 10 ^ place * 2 ^ 272 in
    let y = 2 ^ height place * 10 ^ 64 in
    let e : tens_of place ≡ x / y = rw (lt-ltb place places h) in
    let y-pos : 0 < y = mul-pos (pow_pos (height place)) (lit< tt) in
    let s = span-at places place all-span h in
    record {
      at_least = rw e (div-mul-le_self x y);
      below_next = rw e ((div-lt_iff_lt-mul y-pos).0 (le_refl (suc (x / y))));
      full = s.0;
      small = s.1;
    }
