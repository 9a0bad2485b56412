-- The quotient of two whole numbers that are floats is one division. Assumes nothing.
use Prim.Native.Nat.{ℕ, ◌*◌, ◌^◌, ◌≤◌, ◌<◌}
use mathlib.Core.Path.{◌≡◌, ap, sym, ◌∙◌, subst}
use mathlib.Core.Bool.{Bool, false}
use native.Mathlib.Nat.{mul_assoc, mul_comm, mul-one, mul-pos, zero-mul, lt_irrefl}
use borrow.Author.Tests.{ne_eqb}
use lib.IntN.{pos}
use lib.Ieee.{Float, nan, inf, fin, Format, binary64, up, down, unlike, round, div, of_int}
use lib.Ieee.Fits.{down_pos}
use lib.Ieee.Exact.{HasValue}
use lib.Ieee.Scale.{round_same}
use lib.Ieee.Back.{round_whole}

cross : (X Y a b D E : ℕ) → X ≡ a * E → Y ≡ b * D → X * D * b ≡ a * (Y * E)
cross X Y a b D E e f =
    ap (λ (x : ℕ). x * D * b) e
    ∙ ap (λ (x : ℕ). x * b) (mul_assoc a E D)
    ∙ mul_assoc a (E * D) b
    ∙ ap (λ (x : ℕ). a * x) (mul_comm (E * D) b ∙ ap (λ (x : ℕ). b * x) (mul_comm E D) ∙ sym (mul_assoc b D E) ∙ ap (λ (x : ℕ). x * E) (sym f))

pub div-at : (f : Format) (x y : Float) (a b : ℕ) → 0 < b → HasValue x false a 1 → HasValue y false b 1 → div f x y ≡ round f false a b
unfolding div
div-at f nan y a b p h g = absurd h
div-at f (inf s) y a b p h g = absurd h
div-at f (fin s m e) nan a b p h g = absurd g
div-at f (fin s m e) (inf t) a b p h g = absurd g
div-at f (fin s m e) (fin t n d) a b p h g =
    let X : m * up e ≡ a * down e = sym (mul-one (m * up e)) ∙ h.1 in
    let Y : n * up d ≡ b * down d = sym (mul-one (n * up d)) ∙ g.1 in
    let P : 0 < n * up d = subst (λ (x : ℕ). 0 < x) (sym Y) (mul-pos p (down_pos d)) in
    let N : n ≡ 0 → ⊥ = λ z. lt_irrefl 0 (subst (λ (x : ℕ). 0 < x) (ap (λ (x : ℕ). x * up d) z ∙ zero-mul (up d)) P) in
    rw (ne_eqb n 0 N)
    (ap (λ (z : Bool). round f (unlike z t) (m * up e * down d) (n * up d * down e)) h.0
    ∙ ap (λ (z : Bool). round f (unlike false z) (m * up e * down d) (n * up d * down e)) g.0
    ∙ round_same f false (m * up e * down d) (n * up d * down e) a b (mul-pos P (down_pos e)) p (cross (m * up e) (n * up d) a b (down d) (down e) X Y))

pub whole : (n : ℕ) → n ≤ 2 ^ 53 → HasValue (of_int binary64 (pos n)) false n 1
unfolding of_int
whole n h = round_whole binary64 false n h
