-- Classes of bytes: a test of the code agrees with its class by one computed test over the 256 bytes; that two classes share no byte, or that
-- one holds the other, is computed from their lists. Assumes nothing.
use Prim.Native.Nat.{ℕ, zero, suc, ◌≤◌, ◌<◌}
use mathlib.Core.Path.{◌≡◌, refl, sym, subst, ◌∙◌}
use mathlib.Core.Bool.{Bool, true, false, ◌||◌, ◌&&◌, not, beq}
use mathlib.Core.Logic.{◌⊎◌, inl, inr, ⊎_elim}
use mathlib.Core.List.{List, [], ◌∷◌}
use native.Mathlib.Nat.{not-suc-le-zero}
use native.Mathlib.Omega.{arith}
use lib.Dec.{eqb, leb, T}
use borrow.Author.Tests.{eqb-true, eqb-false, eq-eqb, ne_eqb, leb-true}
use Rattle.scan.specs.Bytes.{among, digits}

-- ---- flags

pub clash : {b : Bool} → b ≡ true → b ≡ false → ⊥
clash {b} p q = let z : ◌≡◌ {A = Bool} true false = sym p ∙ q in subst T z tt

pub either_way : (b : Bool) → (b ≡ true) ⊎ (b ≡ false)
either_way true = inl refl
either_way false = inr refl

pub both_true : (a b : Bool) → (a && b) ≡ true → (a ≡ true) × (b ≡ true)
both_true true b e = (refl, e)
both_true false b e = absurd (clash e refl)

and_left : (a b : Bool) → T (a && b) → T a
and_left true b t = tt
and_left false b t = t

and_right : (a b : Bool) → T (a && b) → T b
and_right true b t = t
and_right false b t = absurd t

same_flag : (a b : Bool) → T (beq a b) → a ≡ b
same_flag true true t = refl
same_flag true false t = absurd t
same_flag false true t = absurd t
same_flag false false t = refl

is_true : (b : Bool) → T b → b ≡ true
is_true true t = refl
is_true false t = absurd t

not-true : (b : Bool) → T (not b) → b ≡ true → ⊥
not-true true t e = t
not-true false t e = clash e refl

pub either-of : (a b : Bool) → (a || b) ≡ true → (a ≡ true) ⊎ (b ≡ true)
either-of true b e = inl refl
either-of false b e = inr e

-- ---- every byte

-- a test passes at each number below n
abbrev pub below : (ℕ → Bool) → ℕ → Bool
below f zero = true
below f (suc n) = f n && below f n

split_below : (f : ℕ → Bool) (n k : ℕ) → T (f n) → (k < n → T (f k)) → k < suc n → (d : Bool) → eqb k n ≡ d → T (f k)
split_below f n k t ih h true e = rw (eqb-true k n e) t
split_below f n k t ih h false e = ih (omega (arith, eqb-false k n e))

holds-below : (f : ℕ → Bool) (n : ℕ) → T (below f n) → (k : ℕ) → k < n → T (f k)
holds-below f zero t k h = absurd (not-suc-le-zero h)
holds-below f (suc n) t k h =
    split_below f n k (and_left (f n) (below f n) t) (holds-below f n (and_right (f n) (below f n) t) k) h (eqb k n) refl

-- two tests agree on each byte, by a computed test
pub agree : (f g : ℕ → Bool) → T (below (λ b. beq (f b) (g b)) 256) → (b : ℕ) → b < 256 → f b ≡ g b
agree f g t b h = same_flag (f b) (g b) (holds-below (λ x. beq (f x) (g x)) 256 t b h)

-- ---- two classes

-- no byte of one class is in the other
abbrev pub apartb : List ℕ → List ℕ → Bool
apartb [] m = true
apartb (x ∷ l) m = not (among x m) && apartb l m

pub apart : (l m : List ℕ) → T (apartb l m) → (b : ℕ) → among b l ≡ true → among b m ≡ true → ⊥
unfolding among
apart [] m t b h g = clash h refl
apart (x ∷ l) m t b h g =
    ⊎_elim (λ e. not-true (among x m) (and_left (not (among x m)) (apartb l m) t) (subst (λ (y : ℕ). among y m ≡ true) (eqb-true b x e) g))
    (λ e. apart l m (and_right (not (among x m)) (apartb l m) t) b e g)
    (either-of (eqb b x) (among b l) h)

-- each byte of one class is in the other
abbrev pub withinb : List ℕ → List ℕ → Bool
withinb [] m = true
withinb (x ∷ l) m = among x m && withinb l m

pub within : (l m : List ℕ) → T (withinb l m) → (b : ℕ) → among b l ≡ true → among b m ≡ true
unfolding among
within [] m t b h = absurd (clash h refl)
within (x ∷ l) m t b h =
    ⊎_elim (λ e. subst (λ (y : ℕ). among y m ≡ true) (sym (eqb-true b x e)) (is_true (among x m) (and_left (among x m) (withinb l m) t)))
    (λ e. within l m (and_right (among x m) (withinb l m) t) b e)
    (either-of (eqb b x) (among b l) h)

-- ---- a class of one byte

pub alone : (b x : ℕ) → eqb b x ≡ among b (x ∷ [])
unfolding among
alone b x = go (eqb b x)
  where
    go : (t : Bool) → t ≡ (t || false)
    go true = refl
    go false = refl

pub alone-is : (b x : ℕ) → b ≡ x → among b (x ∷ []) ≡ true
unfolding among
alone-is b x e = simp (eq-eqb b x e)

pub alone-isnt : (b x : ℕ) → (b ≡ x → ⊥) → among b (x ∷ []) ≡ false
unfolding among
alone-isnt b x h = simp (ne_eqb b x h)

-- ---- a test of each byte of a class

abbrev pub eachb : (ℕ → Bool) → List ℕ → Bool
eachb f [] = true
eachb f (x ∷ l) = f x && eachb f l

pub each : (f : ℕ → Bool) (l : List ℕ) → T (eachb f l) → (b : ℕ) → among b l ≡ true → f b ≡ true
unfolding among
each f [] t b h = absurd (clash h refl)
each f (x ∷ l) t b h =
    ⊎_elim (λ e. subst (λ (y : ℕ). f y ≡ true) (sym (eqb-true b x e)) (is_true (f x) (and_left (f x) (eachb f l) t)))
    (λ e. each f l (and_right (f x) (eachb f l) t) b e)
    (either-of (eqb b x) (among b l) h)

-- a digit's byte, in numbers
pub digit-range : (b : ℕ) → among b digits ≡ true → (48 ≤ b) × (b ≤ 57)
digit-range b h =
    (leb-true 48 b (each (λ x. leb 48 x) digits tt b h), leb-true b 57 (each (λ x. leb x 57) digits tt b h))
