-- Floats by sign and size: a product is the rounded product of the values. Assumes nothing.
use mathlib.Core.Path.{◌≡◌, ap, ◌∙◌}
use Prim.Native.Nat.{ℕ, ◌*◌, ◌<◌}
use native.Mathlib.Nat.{mul-pos, mul-mul-mul_comm}
use mathlib.Core.Bool.{Bool}
use lib.Ieee.{Float, nan, inf, fin, Format, up, down, round, mul, unlike}
use lib.Ieee.Exact.{HasValue}
use lib.Ieee.Fits.{down_pos}
use lib.Ieee.Scale.{round_same}

pub mul-values : (f : Format) (x y : Float) (s t : Bool) (a c b d : ℕ) → 0 < c → 0 < d → HasValue x s a c → HasValue y t b d → mul f x y ≡ round f (unlike s t) (a * b) (c * d)
unfolding mul
mul-values f nan y s t a c b d C D v w = absurd v
mul-values f (inf u) y s t a c b d C D v w = absurd v
mul-values f (fin u m e) nan s t a c b d C D v w = absurd w
mul-values f (fin u m e) (inf r) s t a c b d C D v w = absurd w
mul-values f (fin u m e) (fin r n g) s t a c b d C D v w =
    ap (λ (i : Bool). round f (unlike i r) (m * up e * (n * up g)) (down e * down g)) v.0
    ∙ ap (λ (i : Bool). round f (unlike s i) (m * up e * (n * up g)) (down e * down g)) w.0
    ∙ round_same f (unlike s t) (m * up e * (n * up g)) (down e * down g) (a * b) (c * d) (mul-pos (down_pos e) (down_pos g)) (mul-pos C D)
    (mul-mul-mul_comm (m * up e) (n * up g) c d
    ∙ ap (λ (k : ℕ). k * (n * up g * d)) v.1
    ∙ ap (λ (k : ℕ). a * down e * k) w.1
    ∙ mul-mul-mul_comm a (down e) b (down g))
