-- Floats by sign and size: a float of a format is told by the two. Assumes nothing.
use Prim.Native.Nat.{ℕ, ◌*◌, ◌<◌}
use mathlib.Core.Path.{◌≡◌, sym, ap, ◌∙◌, subst}
use mathlib.Core.Bool.{Bool}
use native.Mathlib.Nat.{mul_right_comm, eq_of_mul-eq-mul_right}
use lib.Dec.{T}
use lib.Ieee.{Float, nan, inf, fin, Format, up, down, fits}
use lib.Ieee.Exact.{HasValue}
use Rattle.floats.proofs.Unique.{unique}

pub value-unique : (f : Format) (x y : Float) (s : Bool) (a c : ℕ) → 0 < c → T (fits f x) → T (fits f y) → HasValue x s a c → HasValue y s a c → x ≡ y
value-unique f nan y s a c C p q v w = absurd v
value-unique f (inf t) y s a c C p q v w = absurd v
value-unique f (fin t m e) nan s a c C p q v w = absurd w
value-unique f (fin t m e) (inf u) s a c C p q v w = absurd w
value-unique f (fin t m e) (fin u n g) s a c C p q v w =
    let same : u ≡ t = w.0 ∙ sym v.0 in
    let cross : m * up e * down g ≡ n * up g * down e =
    eq_of_mul-eq-mul_right c C (m * up e * down g) (n * up g * down e)
    (mul_right_comm (m * up e) (down g) c
    ∙ ap (λ (k : ℕ). k * down g) v.1
    ∙ mul_right_comm a (down e) (down g)
    ∙ ap (λ (k : ℕ). k * down e) (sym w.1)
    ∙ mul_right_comm (n * up g) c (down e)) in
    unique f t m e n g p (subst (λ (b : Bool). T (fits f (fin b n g))) same q) cross ∙ ap (λ (b : Bool). fin b n g) (sym same)
