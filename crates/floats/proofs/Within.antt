-- A float of at most n in size, of either sign, and what + - * make of such bounds where the format holds the bound. In either format. Assumes nothing.
use mathlib.Core.Path.{◌≡◌, refl, sym, ap, ◌∙◌, subst}
use Prim.Native.Nat.{ℕ, zero, suc, ◌+◌, ◌-◌, ◌*◌, ◌≤◌, ◌<◌, ◌^◌}
use native.Mathlib.Nat.{le_trans, le_of_eq, mul-one, one-mul, mul_assoc, mul_comm, mul_left_comm, mul_right_comm, mul-mul-mul_comm, mul-pos, mul-le-mul, mul-le-mul_right, le_of_mul-le-mul_right, add-mul, lt_of_lt_of_le}
use native.Mathlib.Omega.{arith}
use mathlib.Core.Bool.{Bool, true, false, ◌&&◌, beq, cond, true≢false}
use lib.Dec.{T, ltb}
use lib.Pow.{pow_pos, pow-add, pow_mono, shl_lt}
use lib.Ieee.{Float, nan, inf, fin, Format, binary32, up, down, prec, emax, low, odd, units, round, neg, sum, add, sub, mul, unlike}
use lib.Ieee.Exact.{round_exact}
use lib.Ieee.Fits.{down_pos, round_is, round-fits}
use lib.Ieee.Positive.{num, den, den_pos}
use lib.Ieee.Scale.{finite}
use Rattle.floats.specs.Kinds.{nonneg}
use Rattle.floats.proofs.Fractions.{le→cross, value→nonneg}
use Rattle.floats.proofs.Rounded.{Rounds}
use Rattle.floats.proofs.Held.{Held, held-above, rounds-under}

pub record Within (n : ℕ) (x : Float) : Type 0 where
  pub whole : T (finite x)
  pub bound : num x ≤ n * den x

pub within-le : {m n : ℕ} (x : Float) → m ≤ n → Within m x → Within n x
within-le x h w = record { whole = w.whole; bound = le_trans w.bound (mul-le-mul_right (den x) h) }

pub nonneg-finite : (x : Float) → T (nonneg x) → T (finite x)
nonneg-finite nan h = absurd h
nonneg-finite (inf s) h = absurd h
nonneg-finite (fin s m e) h = tt

-- ---- the sign apart
abbrev bare : Float → Float
bare nan = nan
bare (inf s) = inf false
bare (fin s m e) = fin false m e

odd-bare : (d : ℕ) (s : Bool) (q k l : ℕ) → bare (odd d s q k l) ≡ odd d false q k l
unfolding odd
odd-bare d s zero k l = refl
odd-bare d s (suc q) k l = refl

units-bare : (f : Format) (s : Bool) (q k : ℕ) → bare (units f s q k) ≡ units f false q k
unfolding units
units-bare f s q k = go (ltb (q * 2 ^ k) (2 ^ (low f + suc (emax f))))
  where
    go : (b : Bool) → bare (cond b (odd (suc (prec f)) s q k (low f)) (inf s)) ≡ cond b (odd (suc (prec f)) false q k (low f)) (inf false)
    go true = odd-bare (suc (prec f)) s q k (low f)
    go false = refl

round-bare : (f : Format) (s : Bool) (a c : ℕ) → bare (round f s a c) ≡ round f false a c
round-bare f s a c = ap bare (round_is f s a c) ∙ units-bare f s _ _ ∙ sym (round_is f false a c)

bare-within : (n : ℕ) (x : Float) → Within n (bare x) → Within n x
bare-within n nan w = w
bare-within n (inf s) w = absurd w.whole
bare-within n (fin s m e) w = record { whole = tt; bound = w.bound }

-- ---- a whole number that the format holds
pub record Holds (f : Format) (n : ℕ) : Type 0 where
  pub value : Float
  pub held : Held f value
  pub same : num value ≡ n * den value

pub holds-scaled : (f : Format) (p q j : ℕ) → q < 2 ^ p → p ≤ prec f → p + j ≤ suc (emax f) → Holds f (q * 2 ^ j)
holds-scaled f p q j small few fine =
    let l = low f in
    let z = round f false (q * 2 ^ j) 1 in
    let top : q * 2 ^ (j + l) < 2 ^ (l + suc (emax f)) = lt_of_lt_of_le (shl_lt p (j + l) small) (pow_mono (room p j l (suc (emax f)) fine)) in
    let v =
    value→nonneg z false (q * 2 ^ j) 1 (pow_pos 0) (λ e. absurd (true≢false (sym e)))
    (round_exact f false (q * 2 ^ j) 1 q (j + l) (pow_pos 0) (lt_of_lt_of_le small (pow_mono few)) top
    (mul_assoc q (2 ^ j) (2 ^ l) ∙ ap (λ n. q * n) (sym (pow-add 2 j l)) ∙ sym (mul-one (q * 2 ^ (j + l))))) in
    record { value = z; held = record { fit = round-fits f false (q * 2 ^ j) 1; nn = v.0 }; same = sym (mul-one (num z)) ∙ v.1 }
  where
    room : (p j l t : ℕ) → p + j ≤ t → p + (j + l) ≤ l + t
    room p j l t h = omega arith

-- ---- rounding a fraction of at most n
pub round-within : (f : Format) (s : Bool) (a c n : ℕ) → 0 < c → Holds f n → a ≤ n * c → Within n (round f s a c)
round-within f s a c n C h l =
    let z = round f false a c in
    let o = h.value in
    let r : Rounds f z a c = record { sign = false; same = refl; only_zero = λ e. absurd (true≢false (sym e)); above = C } in
    let under =
    held-above f o z a c h.held r
    (le_trans (mul-le-mul_right (den o) l) (le_of_eq (mul_right_comm n c (den o) ∙ ap (λ k. k * c) (sym h.same)))) in
    let nn = rounds-under f z o a c r h.held.nn under in
    let cross = le_trans (le→cross z o nn h.held.nn under) (le_of_eq (ap (λ k. k * den z) h.same ∙ mul_right_comm n (den o) (den z))) in
    bare-within n (round f s a c)
    (subst (Within n) (sym (round-bare f s a c)) (record { whole = nonneg-finite z nn; bound = le_of_mul-le-mul_right cross (den_pos o) }))

-- ---- the operations
pub neg-within : (n : ℕ) (x : Float) → Within n x → Within n (neg x)
unfolding neg
neg-within n nan w = w
neg-within n (inf s) w = absurd w.whole
neg-within n (fin s m e) w = record { whole = tt; bound = w.bound }

pub add-within : (f : Format) (m n : ℕ) (x y : Float) → Holds f (m + n) → Within m x → Within n y → Within (m + n) (add f x y)
unfolding add sum
add-within f m n nan y h p q = absurd p.whole
add-within f m n (inf s) y h p q = absurd p.whole
add-within f m n (fin s a e) nan h p q = absurd q.whole
add-within f m n (fin s a e) (inf t) h p q = absurd q.whole
add-within f m n (fin s a e) (fin t b d) h p q = go (beq s t) (ltb A B)
  where
    A : ℕ
    A = a * up e * down d

    B : ℕ
    B = b * up d * down e

    C : ℕ
    C = down e * down d

    C-pos : 0 < C
    C-pos = mul-pos (down_pos e) (down_pos d)

    both : A + B ≤ (m + n) * C
    both =
        let u : A ≤ m * C = le_trans (mul-le-mul_right (down d) p.bound) (le_of_eq (mul_assoc m (down e) (down d))) in
        let v : B ≤ n * C = le_trans (mul-le-mul_right (down e) q.bound) (le_of_eq (mul_assoc n (down d) (down e) ∙ ap (λ k. n * k) (mul_comm (down d) (down e)))) in
        let w : (m + n) * C ≡ m * C + n * C = add-mul m n C in
        omega arith

    less : B - A ≤ (m + n) * C
    less = let k = both in omega arith

    more : A - B ≤ (m + n) * C
    more = let k = both in omega arith

    go : (i j : Bool) → Within (m + n) (cond i (round f s (A + B) C) (cond j (round f t (B - A) C) (round f (s && ltb B A) (A - B) C)))
    go true j = round-within f s (A + B) C (m + n) C-pos h both
    go false true = round-within f t (B - A) C (m + n) C-pos h less
    go false false = round-within f (s && ltb B A) (A - B) C (m + n) C-pos h more

pub sub_within : (f : Format) (m n : ℕ) (x y : Float) → Holds f (m + n) → Within m x → Within n y → Within (m + n) (sub f x y)
unfolding sub
sub_within f m n x y h p q = add-within f m n x (neg y) h p (neg-within n y q)

pub mul-within : (f : Format) (m n : ℕ) (x y : Float) → Holds f (m * n) → Within m x → Within n y → Within (m * n) (mul f x y)
unfolding mul
mul-within f m n nan y h p q = absurd p.whole
mul-within f m n (inf s) y h p q = absurd p.whole
mul-within f m n (fin s a e) nan h p q = absurd q.whole
mul-within f m n (fin s a e) (inf t) h p q = absurd q.whole
mul-within f m n (fin s a e) (fin t b d) h p q =
    round-within f (unlike s t) (a * up e * (b * up d)) (down e * down d) (m * n) (mul-pos (down_pos e) (down_pos d)) h
    (le_trans (mul-le-mul p.bound q.bound) (le_of_eq (mul-mul-mul_comm m (down e) n (down d))))
