-- Eight bytes as one number: which of its lanes are digits, and the number that these stand for. Assumes nothing.
use Rattle.std.proofs.Common.{◌≡◌, ℕ, zero, suc, ◌+◌, ◌-◌, ◌*◌, ◌/◌, ◌%◌, ◌^◌, ◌<◌, ◌≤◌, Bool, true, false, cond, ◌&&◌, eqb, ltb, leb, ◌⊎◌, List, [], ◌∷◌, length, get_or, sym, refl, ap, ◌∙◌, subst, ap₂, inl, inr, ⊎_elim, le_of_suc-le-suc, add-zero, mod-lt, mul_assoc, add-mul, mul-le-mul_left, mul-lt-mul_of_pos_right, mul-pos, div-add-mod', zero-add, zero-mul, mul-one, mul_right_comm, arith, lit<, pow_pos, pow-add, ltb-false, ltb-true, le-ltb, lt-ltb, eqb-true, leb-true}
use native.Mathlib.Nat.{mul-add-mod_self_right}
use lib.Arith.{digits_lt, digits_div, digits_mod, mod-mul}
use lib.Pow.{split, high, low, ones_lt, mod-mod-pow}
use lib.Bits.{bit_and, bit_or, bit_xor, and_block, or_block, xor_block, and_mask, and_mod, or_mod, or_lt, xor_lt, and_zero_l, and_zero_r, shifted_half, shifted_even}
use lib.Count.{count_trailing_zeros, under}
use Rattle.scan.specs.Bytes.{among, digits}
use Rattle.decimal_digits.specs.Digits.{val}
use Rattle.decimal_digits.proofs.Values.{digit_lt}
use Rattle.decimal_digits.specs.Words.{laid, eight_of, begun, each, others_of, Below}

-- ---- lanes of any width, joined two by two

-- every second lane, where the first of them is b
evens : (k X m b : ℕ) → b < 2 ^ k → bit_and (X * 2 ^ k + b) (m * 2 ^ (k + k) + (2 ^ k - 1)) ≡ bit_and (X / 2 ^ k) m * 2 ^ (k + k) + b
evens k X m b h =
    let Q = X / 2 ^ k in
    let R = X % 2 ^ k in
    let P = 2 ^ k in
    let square : 2 ^ (k + k) ≡ P * P = pow-add 2 k k in
    let r : R < P = mod-lt X (pow_pos k) in
    let parts : X * P + b ≡ Q * 2 ^ (k + k) + (R * P + b) =
    ap (λ (z : ℕ). z * P + b) (sym (split X k)) ∙ omega (arith, add-mul (Q * P) R P, mul_assoc Q P P, ap (λ (z : ℕ). Q * z) square) in
    let inside : R * P + b < 2 ^ (k + k) = subst (λ (z : ℕ). R * P + b < z) (sym square) (digits_lt r h) in
    let small : P - 1 < 2 ^ (k + k) = omega (arith, inside, r, ones_lt k, digits_lt {q = P - 1} {m = P} {r = 0} {c = P} (ones_lt k) (pow_pos k), square, one_more (P - 1) P (pow_pos k)) in
    ap (λ (z : ℕ). bit_and z (m * 2 ^ (k + k) + (P - 1))) parts
    ∙ and_block (k + k) Q m (R * P + b) (P - 1) inside small
    ∙ ap (λ (z : ℕ). bit_and Q m * 2 ^ (k + k) + z) (and_mask (R * P + b) k ∙ low R k h)
  where
    one_more : (a p : ℕ) → 0 < p → a ≤ a * p
    one_more a p h = subst (λ (z : ℕ). z ≤ a * p) (mul-one a) (mul-le-mul_left a h)

unfoldable join : ℕ → List ℕ → List ℕ
join factor [] = []
join factor (a ∷ []) = []
join factor (a ∷ b ∷ rest) = (a * factor + b) ∷ join factor rest

-- the mask of every second lane
unfoldable seconds : ℕ → List ℕ → ℕ
seconds k [] = 0
seconds k (a ∷ []) = 0
seconds k (a ∷ b ∷ rest) = seconds k rest * 2 ^ (k + k) + (2 ^ k - 1)

abbrev Even : List ℕ → Type 0
Even [] = Unit
Even (a ∷ []) = ⊥
Even (a ∷ b ∷ rest) = Even rest

sums : (E O a b c P : ℕ) → (E * P + a) * c + (O * P + b) ≡ (E * c + O) * P + (a * c + b)
sums E O a b c P =
    omega (arith, add-mul (E * P) a c, add-mul (E * c) O P, mul_right_comm E P c)

joined : (k c : ℕ) (vs : List ℕ) → Even vs → Below (2 ^ k) vs → bit_and (laid k vs) (seconds k vs) * c + bit_and (laid k vs / 2 ^ k) (seconds k vs) ≡ laid (k + k) (join c vs)
unfolding laid seconds join
joined k c [] e h = ap₂ ◌+◌ (ap (λ (z : ℕ). z * c) (and_zero_l 0) ∙ zero-mul c) (and_zero_r (0 / 2 ^ k))
joined k c (a ∷ []) e h = absurd e
joined k c (a ∷ b ∷ rest) e h =
    let P = 2 ^ k in
    let L = laid k rest in
    let M = seconds k rest in
    let first : bit_and ((L * P + b) * P + a) (M * 2 ^ (k + k) + (P - 1)) ≡ bit_and L M * 2 ^ (k + k) + a = evens k (L * P + b) M a h.0 ∙ ap (λ (z : ℕ). bit_and z M * 2 ^ (k + k) + a) (high L k h.1.0) in
    let second : bit_and (((L * P + b) * P + a) / P) (M * 2 ^ (k + k) + (P - 1)) ≡ bit_and (L / P) M * 2 ^ (k + k) + b = ap (λ (z : ℕ). bit_and z (M * 2 ^ (k + k) + (P - 1))) (high (L * P + b) k h.0) ∙ evens k L M b h.1.0 in
    ap₂ (λ (x : ℕ) (y : ℕ). x * c + y) first second
    ∙ sums (bit_and L M) (bit_and (L / P) M) a b c (2 ^ (k + k))
    ∙ ap (λ (z : ℕ). z * 2 ^ (k + k) + (a * c + b)) (joined k c rest e h.1.1)

-- eight lanes joined three times are their number
module _ (x pairs fours r : ℕ)
    (once : pairs ≡ bit_and x 71777214294589695 * 10 + bit_and (x / 2 ^ 8) 71777214294589695)
    (twice : fours ≡ bit_and pairs 281470681808895 * 100 + bit_and (pairs / 2 ^ 16) 281470681808895)
    (thrice : r ≡ bit_and fours 4294967295 * 10000 + bit_and (fours / 2 ^ 32) 4294967295) where
  eight-lanes : (a b c d e f g h : ℕ) → Below 256 (a ∷ b ∷ c ∷ d ∷ e ∷ f ∷ g ∷ h ∷ []) → x ≡ laid 8 (a ∷ b ∷ c ∷ d ∷ e ∷ f ∷ g ∷ h ∷ []) → r ≡ val (a ∷ b ∷ c ∷ d ∷ e ∷ f ∷ g ∷ h ∷ [])
  unfolding laid seconds join val
  eight-lanes a b c d e f g h l is =
      let vs = a ∷ b ∷ c ∷ d ∷ e ∷ f ∷ g ∷ h ∷ [] in
      let p = once ∙ ap (λ (z : ℕ). bit_and z 71777214294589695 * 10 + bit_and (z / 2 ^ 8) 71777214294589695) is ∙ joined 8 10 vs tt l in
      let q = twice ∙ ap (λ (z : ℕ). bit_and z 281470681808895 * 100 + bit_and (z / 2 ^ 16) 281470681808895) p ∙ joined 16 100 (join 10 vs) tt (omega arith, (omega arith, (omega arith, (omega arith, tt)))) in
      let s = thrice ∙ ap (λ (z : ℕ). bit_and z 4294967295 * 10000 + bit_and (z / 2 ^ 32) 4294967295) q ∙ joined 32 10000 (join 100 (join 10 vs)) tt (omega arith, (omega arith, tt)) in
      omega (arith, s)

  pub eight_is : (vs : List ℕ) → length vs ≡ 8 → Below 256 vs → x ≡ laid 8 vs → r ≡ val vs
  eight_is (a ∷ b ∷ c ∷ d ∷ e ∷ f ∷ g ∷ h ∷ []) n l is = eight-lanes a b c d e f g h l is
  eight_is (a ∷ b ∷ c ∷ d ∷ e ∷ f ∷ g ∷ h ∷ i ∷ vs) n l is = absurd (omega arith)
  eight_is (a ∷ b ∷ c ∷ d ∷ e ∷ f ∷ g ∷ []) n l is = absurd (omega arith)
  eight_is (a ∷ b ∷ c ∷ d ∷ e ∷ f ∷ []) n l is = absurd (omega arith)
  eight_is (a ∷ b ∷ c ∷ d ∷ e ∷ []) n l is = absurd (omega arith)
  eight_is (a ∷ b ∷ c ∷ d ∷ []) n l is = absurd (omega arith)
  eight_is (a ∷ b ∷ c ∷ []) n l is = absurd (omega arith)
  eight_is (a ∷ b ∷ []) n l is = absurd (omega arith)
  eight_is (a ∷ []) n l is = absurd (omega arith)
  eight_is [] n l is = absurd (omega arith)

-- ---- a test that is computed for each number below one

unfoldable all : ℕ → (ℕ → Bool) → Bool
all zero test = true
all (suc n) test = test n && all n test

pub both : (a b : Bool) → (a && b) ≡ true → (a ≡ true) × (b ≡ true)
both true b e = (refl, e)
both false b e = let z : ◌≡◌ {A = ℕ} 0 1 = cc in absurd (omega arith)

all-is : (n : ℕ) (test : ℕ → Bool) → all n test ≡ true → (i : ℕ) → i < n → test i ≡ true
unfolding all
all-is zero test e i h = absurd (omega arith)
all-is (suc n) test e i h = go (λ l. all-is n test (both (test n) (all n test) e).1 i l) (ltb i n) refl
  where
    go : (i < n → test i ≡ true) → (b : Bool) → ltb i n ≡ b → test i ≡ true
    go rest true l = rest (ltb-true i n l)
    go rest false l = let same : i ≡ n = omega (arith, ltb-false i n l) in ap test same ∙ (both (test n) (all n test) e).0

-- ---- one lane

-- a digit's lane is its number, and any other byte's is above 9
abbrev lane_test : ℕ → Bool
lane_test byte = cond (among byte digits) (eqb (bit_xor byte 48) (byte - 48)) (leb 10 (bit_xor byte 48))

lane-tested : all 256 lane_test ≡ true
unfolding all among
lane-tested = refl

digit-lane : (byte : ℕ) → byte < 256 → among byte digits ≡ true → bit_xor byte 48 ≡ byte - 48
digit-lane byte h e = eqb-true _ _ (sym (ap (λ (b : Bool). cond b (eqb (bit_xor byte 48) (byte - 48)) (leb 10 (bit_xor byte 48))) e) ∙ all-is 256 lane_test lane-tested byte h)

other-lane : (byte : ℕ) → byte < 256 → among byte digits ≡ false → 10 ≤ bit_xor byte 48
other-lane byte h e = leb-true _ _ (sym (ap (λ (b : Bool). cond b (eqb (bit_xor byte 48) (byte - 48)) (leb 10 (bit_xor byte 48))) e) ∙ all-is 256 lane_test lane-tested byte h)

-- the highest binary digit is set above 9 and is not up to 9
abbrev mark-test : ℕ → Bool
mark-test v = eqb (bit_and (bit_or ((v + 118) % 256) v) 128) (cond (ltb v 10) 0 128)

mark-tested : all 256 mark-test ≡ true
unfolding all
mark-tested = refl

mark-is : (v : ℕ) → v < 256 → bit_and (bit_or ((v + 118) % 256) v) 128 ≡ cond (ltb v 10) 0 128
mark-is v h = eqb-true _ _ (all-is 256 mark-test mark-tested v h)

-- ---- the marks, lane by lane

next : (n : ℕ) → 2 ^ (8 * suc n) ≡ 2 ^ (8 * n) * 256
next n = let e : 8 * suc n ≡ 8 * n + 8 = omega arith in ap (λ (i : ℕ). 2 ^ i) e ∙ pow-add 2 (8 * n) 8

-- a lane up to 9 has no mark and carries nothing into the next
others-pass : (n X v : ℕ) → v < 10 → others_of (suc n) (X * 256 + v) ≡ others_of n X * 256
unfolding others_of each
others-pass n X v h =
    let A = each 118 n in
    let Y = (X + A) % 2 ^ (8 * n) in
    let small : v + 118 < 256 = omega arith in
    let byte : v < 256 = omega arith in
    let sum : X * 256 + v + (A * 256 + 118) ≡ (X + A) * 256 + (v + 118) = omega arith in
    let carried : (X * 256 + v + (A * 256 + 118)) % 2 ^ (8 * suc n) ≡ Y * 256 + (v + 118) =
    ap₂ ◌%◌ sum (next n)
    ∙ mod-mul ((X + A) * 256 + (v + 118)) (pow_pos (8 * n)) (lit< tt)
    ∙ ap₂ (λ (x : ℕ) (y : ℕ). x % 2 ^ (8 * n) * 256 + y) (digits_div (X + A) small) (digits_mod (X + A) small) in
    let same : (v + 118) % 256 ≡ v + 118 = omega arith in
    let none : bit_and (bit_or (v + 118) v) 128 ≡ 0 = ap (λ (z : ℕ). bit_and (bit_or z v) 128) (sym same) ∙ mark-is v byte ∙ ap (λ (b : Bool). cond b 0 128) (lt-ltb v 10 h) in
    ap (λ (z : ℕ). bit_and (bit_or z (X * 256 + v)) (each 128 n * 256 + 128)) carried
    ∙ ap (λ (z : ℕ). bit_and z (each 128 n * 256 + 128)) (or_block 8 Y X (v + 118) v small byte)
    ∙ and_block 8 (bit_or Y X) (each 128 n) (bit_or (v + 118) v) 128 (or_lt 8 (v + 118) v small byte) (lit< tt)
    ∙ ap (λ (z : ℕ). bit_and (bit_or Y X) (each 128 n) * 256 + z) none
    ∙ add-zero _

-- a lane above 9 has one
others-stop : (n X v : ℕ) → 10 ≤ v → v < 256 → others_of (suc n) (X * 256 + v) % 256 ≡ 128
unfolding others_of each
others-stop n X v h byte =
    let A = each 118 n in
    let S = X * 256 + v + (A * 256 + 118) in
    let e : 8 * suc n ≡ 8 * n + 8 = omega arith in
    let lane : S % 2 ^ (8 * suc n) % 2 ^ 8 ≡ (v + 118) % 256 =
    ap (λ (i : ℕ). S % 2 ^ i % 2 ^ 8) e ∙ mod-mod-pow S (8 * n) 8 ∙ omega arith in
    and_mod (bit_or (S % 2 ^ (8 * suc n)) (X * 256 + v)) (each 128 n * 256 + 128) 8
    ∙ ap₂ bit_and (or_mod (S % 2 ^ (8 * suc n)) (X * 256 + v) 8 ∙ ap₂ bit_or lane (digits_mod X byte)) (digits_mod (each 128 n) {m = 256} {r = 128} (lit< tt))
    ∙ mark-is v byte
    ∙ ap (λ (b : Bool). cond b 0 128) (le-ltb v 10 h)

-- ---- the digits that bytes begin with

unfoldable lanes : List ℕ → List ℕ
lanes [] = []
lanes (byte ∷ rest) = bit_xor byte 48 ∷ lanes rest

-- the lowest mark stands above the digits
record Marked (bs ds : List ℕ) : Type 0 where
  few : length ds < length bs
  above : ℕ
  is : others_of (length bs) (laid 8 (lanes bs)) ≡ above * 2 ^ (8 * length ds)
  lowest : above % 256 ≡ 128

record Split (bs ds : List ℕ) : Type 0 where
  rest : ℕ
  is : laid 8 (lanes bs) ≡ rest * 2 ^ (8 * length ds) + laid 8 ds
  small : Below 256 ds
  marks : ((length ds ≡ length bs) × (others_of (length bs) (laid 8 (lanes bs)) ≡ 0)) ⊎ Marked bs ds

none_of : others_of 0 0 ≡ 0
unfolding others_of each
none_of = and_zero_r (bit_or (0 % 2 ^ 0) 0)

split-of : (bs : List ℕ) → Below 256 bs → Split bs (begun bs)
unfolding laid lanes begun
split-of [] h = record { rest = 0; is = refl; small = tt; marks = inl (refl, none_of) }
split-of (b ∷ bs) h = go (among b digits) refl (split-of bs h.1)
  where
    go : (t : Bool) → among b digits ≡ t → Split bs (begun bs) → Split (b ∷ bs) (cond t ((b - 48) ∷ begun bs) [])
    go true e s =
        let X = laid 8 (lanes bs) in
        let v = bit_xor b 48 in
        let n = length (begun bs) in
        let lane : v ≡ b - 48 = digit-lane b h.0 e in
        let low : b - 48 < 10 = digit_lt b e in
        let pass : others_of (suc (length bs)) (X * 256 + v) ≡ others_of (length bs) X * 256 = others-pass (length bs) X v (omega arith) in
        let up : (x : ℕ) → x * 2 ^ (8 * n) * 256 ≡ x * 2 ^ (8 * suc n) = λ x. mul_assoc x (2 ^ (8 * n)) 256 ∙ ap (λ (z : ℕ). x * z) (sym (next n)) in
        record {
          rest = s.rest;
          is = ap₂ (λ (x : ℕ) (y : ℕ). x * 256 + y) s.is lane ∙ omega (arith, up s.rest);
          small = (omega arith, s.small);
          marks = ⊎_elim (λ q. inl (ap suc q.0, pass ∙ ap (λ (z : ℕ). z * 256) q.1))
              (λ (m : Marked bs (begun bs)). inr (record { few = omega (arith, m.few); above = m.above; is = pass ∙ ap (λ (z : ℕ). z * 256) m.is ∙ up m.above; lowest = m.lowest })) s.marks;
        }
    go false e s =
        let X = laid 8 (lanes bs) in
        let v = bit_xor b 48 in
        let byte : v < 256 = xor_lt 8 b 48 h.0 (lit< tt) in
        record {
          rest = X * 256 + v;
          is = omega arith;
          small = tt;
          marks = inr (record { few = omega arith; above = others_of (suc (length bs)) (X * 256 + v); is = sym (mul-one _); lowest = others-stop (length bs) X v (other-lane b h.0 e) byte });
        }

-- ---- eight bytes

values-is : (bs : List ℕ) → Below 256 bs → bit_xor (laid 8 bs) (each 48 (length bs)) ≡ laid 8 (lanes bs)
unfolding laid lanes each
values-is [] h = refl
values-is (b ∷ bs) h = xor_block 8 (laid 8 bs) (each 48 (length bs)) b 48 h.0 (lit< tt) ∙ ap (λ (z : ℕ). z * 256 + bit_xor b 48) (values-is bs h.1)

laid-lt : (vs : List ℕ) → Below 256 vs → laid 8 vs < 2 ^ (8 * length vs)
unfolding laid
laid-lt [] h = lit< tt
laid-lt (v ∷ vs) h = subst (λ (z : ℕ). laid 8 vs * 256 + v < z) (sym (next (length vs))) (digits_lt (laid-lt vs h.1) h.0)

lanes-below : (bs : List ℕ) → Below 256 bs → Below 256 (lanes bs)
unfolding lanes
lanes-below [] h = tt
lanes-below (b ∷ bs) h = (xor_lt 8 b 48 h.0 (lit< tt), lanes-below bs h.1)

lanes-length : (bs : List ℕ) → length (lanes bs) ≡ length bs
unfolding lanes
lanes-length [] = refl
lanes-length (b ∷ bs) = ap suc (lanes-length bs)

-- zeros before digits change nothing but how many there are
unfoldable zeros : ℕ → List ℕ → List ℕ
zeros zero ds = ds
zeros (suc n) ds = 0 ∷ zeros n ds

zeros-length : (n : ℕ) (ds : List ℕ) → length (zeros n ds) ≡ n + length ds
unfolding zeros
zeros-length zero ds = sym (zero-add (length ds))
zeros-length (suc n) ds = ap suc (zeros-length n ds) ∙ omega arith

zeros-below : (n : ℕ) (ds : List ℕ) → Below 256 ds → Below 256 (zeros n ds)
unfolding zeros
zeros-below zero ds h = h
zeros-below (suc n) ds h = (lit< tt, zeros-below n ds h)

zeros-val : (n : ℕ) (ds : List ℕ) → val (zeros n ds) ≡ val ds
unfolding zeros val
zeros-val zero ds = refl
zeros-val (suc n) ds = ap (λ (z : ℕ). z + val (zeros n ds)) (zero-mul (10 ^ length (zeros n ds))) ∙ zero-add _ ∙ zeros-val n ds

zeros-laid : (n : ℕ) (ds : List ℕ) → laid 8 (zeros n ds) ≡ laid 8 ds * 2 ^ (8 * n)
unfolding zeros laid
zeros-laid zero ds = sym (mul-one (laid 8 ds))
zeros-laid (suc n) ds = add-zero _ ∙ ap (λ (z : ℕ). z * 256) (zeros-laid n ds) ∙ mul_assoc (laid 8 ds) (2 ^ (8 * n)) 256 ∙ ap (λ (z : ℕ). laid 8 ds * z) (sym (next n))

-- an odd number before so many zeros
tz_shift : (k m i : ℕ) → m % 2 ≡ 1 → i < k → count_trailing_zeros k (m * 2 ^ i) ≡ i
unfolding count_trailing_zeros
tz_shift zero m i o h = absurd (omega arith)
tz_shift (suc k) m zero o h = ap (λ (x : ℕ). under (x % 2) (count_trailing_zeros k (x / 2))) (mul-one m) ∙ ap (λ (r : ℕ). under r (count_trailing_zeros k (m / 2))) o
tz_shift (suc k) m (suc i) o h =
    ap (λ (r : ℕ). under r (count_trailing_zeros k (m * 2 ^ suc i / 2))) (shifted_even m i)
    ∙ ap (λ (x : ℕ). suc (count_trailing_zeros k x)) (shifted_half m i)
    ∙ ap suc (tz_shift k m i o (le_of_suc-le-suc h))

-- the lowest mark's place tells the lane
mark-place : (above n : ℕ) → above % 256 ≡ 128 → n < 8 → count_trailing_zeros 64 (above * 2 ^ (8 * n)) ≡ 8 * n + 7
mark-place above n h l =
    let m = above / 256 * 2 + 1 in
    let e : above ≡ m * 2 ^ 7 = omega arith in
    let shifted : above * 2 ^ (8 * n) ≡ m * 2 ^ (8 * n + 7) =
    ap (λ (z : ℕ). z * 2 ^ (8 * n)) e ∙ mul_right_comm m (2 ^ 7) (2 ^ (8 * n)) ∙ mul_assoc m (2 ^ (8 * n)) (2 ^ 7) ∙ ap (λ (z : ℕ). m * z) (sym (pow-add 2 (8 * n) 7)) in
    ap (count_trailing_zeros 64) shifted ∙ tz_shift 64 m (8 * n + 7) (omega arith) (omega arith)

moved-again : (A U M : ℕ) → A % M * U % M ≡ A * U % M
moved-again A U M =
    sym
    (ap (λ (z : ℕ). z * U % M) (sym (div-add-mod' A M))
    ∙ ap (λ (z : ℕ). z % M) (add-mul (A / M * M) (A % M) U ∙ ap (λ (z : ℕ). z + A % M * U) (mul_right_comm (A / M) M U))
    ∙ mul-add-mod_self_right (A / M * U) M (A % M * U))

module _ (bs : List ℕ) (size : length bs ≡ 8) (bytes : Below 256 bs) (x : ℕ) (is : x ≡ bit_xor (laid 8 bs) (each 48 8)) where
  abbrev n : ℕ
  n = length (begun bs)

  x-is : x ≡ laid 8 (lanes bs)
  x-is = is ∙ ap (λ (i : ℕ). bit_xor (laid 8 bs) (each 48 i)) (sym size) ∙ values-is bs bytes

  marks-are : others_of 8 x ≡ others_of (length bs) (laid 8 (lanes bs))
  marks-are = ap₂ others_of (sym size) x-is

  marked-pos : Marked bs (begun bs) → 0 < others_of 8 x
  marked-pos m = subst (λ (z : ℕ). 0 < z) (sym (marks-are ∙ m.is)) (mul-pos (omega (arith, m.lowest)) (pow_pos (8 * n)))

  pub none_other : others_of 8 x ≡ 0 → n ≡ 8
  none_other z = ⊎_elim (λ q. q.0 ∙ size) (λ m. absurd (omega (arith, marked-pos m))) (split-of bs bytes).marks

  pub some-other : (others_of 8 x ≡ 0 → ⊥) → (count_trailing_zeros 64 (others_of 8 x) ≡ 8 * n + 7) × (n < 8)
  some-other z =
      ⊎_elim (λ q. absurd (z (marks-are ∙ q.1)))
      (λ (m : Marked bs (begun bs)). let few : n < 8 = omega (arith, m.few) in (ap (count_trailing_zeros 64) (marks-are ∙ m.is) ∙ mark-place m.above n m.lowest few, few))
      (split-of bs bytes).marks

  -- what is left of a word that is moved up by the lanes past its digits
  moved : (up : ℕ) → n ≤ 8 → up ≡ 4 * (8 - n) → x * 2 ^ up % 2 ^ 64 * 2 ^ up % 2 ^ 64 ≡ laid 8 (zeros (8 - n) (begun bs))
  moved up l e =
      let s = split-of bs bytes in
      let L = laid 8 (begun bs) in
      let U = 2 ^ (8 * (8 - n)) in
      let twice : up + up ≡ 8 * (8 - n) = omega arith in
      let in_all : 8 * n + 8 * (8 - n) ≡ 64 = omega arith in
      let square : 2 ^ up * 2 ^ up ≡ U = sym (pow-add 2 up up) ∙ ap (λ (i : ℕ). 2 ^ i) twice in
      let product : 2 ^ (8 * n) * U ≡ 2 ^ 64 = sym (pow-add 2 (8 * n) (8 * (8 - n))) ∙ ap (λ (i : ℕ). 2 ^ i) in_all in
      let inside : L * U < 2 ^ 64 = subst (λ (z : ℕ). L * U < z) product (mul-lt-mul_of_pos_right (laid-lt (begun bs) s.small) (pow_pos (8 * (8 - n)))) in
      moved-again (x * 2 ^ up) (2 ^ up) (2 ^ 64)
      ∙ ap (λ (z : ℕ). z % 2 ^ 64) (mul_assoc x (2 ^ up) (2 ^ up) ∙ ap₂ ◌*◌ (x-is ∙ s.is) square ∙ add-mul (s.rest * 2 ^ (8 * n)) L U ∙ ap (λ (z : ℕ). z + L * U) (mul_assoc s.rest (2 ^ (8 * n)) U ∙ ap (λ (z : ℕ). s.rest * z) product))
      ∙ digits_mod s.rest inside
      ∙ sym (zeros-laid (8 - n) (begun bs))

  module _ (r : ℕ) where
    pub part-value : (y up : ℕ) → n ≤ 8 → up ≡ 4 * (8 - n) → y ≡ x * 2 ^ up % 2 ^ 64 * 2 ^ up % 2 ^ 64
        → ((vs : List ℕ) → length vs ≡ 8 → Below 256 vs → y ≡ laid 8 vs → r ≡ val vs) → r ≡ val (begun bs)
    part-value y up l e f given =
        given (zeros (8 - n) (begun bs)) (zeros-length (8 - n) (begun bs) ∙ omega arith) (zeros-below (8 - n) (begun bs) (split-of bs bytes).small) (f ∙ moved up l e)
        ∙ zeros-val (8 - n) (begun bs)

    pub whole-value : n ≡ 8 → ((vs : List ℕ) → length vs ≡ 8 → Below 256 vs → x ≡ laid 8 vs → r ≡ val vs) → r ≡ val (begun bs)
    whole-value e given =
        let s = split-of bs bytes in
        let top : 2 ^ (8 * n) ≡ 2 ^ 64 = ap (λ (i : ℕ). 2 ^ (8 * i)) e in
        let all : laid 8 (lanes bs) < 2 ^ 64 = subst (λ (i : ℕ). laid 8 (lanes bs) < 2 ^ (8 * i)) (lanes-length bs ∙ size) (laid-lt (lanes bs) (lanes-below bs bytes)) in
        given (begun bs) e s.small (x-is ∙ s.is ∙ none_left s.rest (laid 8 (begun bs)) (2 ^ (8 * n)) top (subst (λ (z : ℕ). z < 2 ^ 64) s.is all))
      where
        none_left : (a b p : ℕ) → p ≡ 2 ^ 64 → a * p + b < 2 ^ 64 → a * p + b ≡ b
        none_left a b p e h = let f : a * p ≡ a * 18446744073709551616 = ap (λ (z : ℕ). a * z) e in omega arith

pub eight-below : (text : List ℕ) (at : ℕ) → ((i : ℕ) → get_or text i 0 < 256) → Below 256 (eight_of text at)
eight-below text at h = (h at, (h (at + 1), (h (at + 2), (h (at + 3), (h (at + 4), (h (at + 5), (h (at + 6), (h (at + 7), tt))))))))
