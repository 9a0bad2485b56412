-- `decimal::magnitudes::pattern` meets its contract: a rounded fraction is no NaN. Assumes nothing.
use Prim.Native.Nat.{◌^◌}
use mathlib.Core.Path.{ap, sym, subst}
use mathlib.Core.Bool.{Bool, false, not}
use lib.Dec.{T}
use lib.Ieee.{Float, nan, inf, fin, binary64, to_bits, is_nan}
use Rattle.decimal_rounding.proofs.Limits.{Signed, sign_kept}
use Rattle.decimal.proofs.magnitudes.pattern.Goals as goal

signed-number : (s : Bool) (x : Float) → Signed s x → T (not (is_nan x))
unfolding is_nan
signed-number s nan h = absurd h
signed-number s (inf t) h = tt
signed-number s (fin t m e) h = tt

pub float_to_bits-result : goal.float_to_bits-result
float_to_bits-result c =
    subst (λ (x : Float). T (not (is_nan x))) (sym c.quotient.ensures) (signed-number false _ (sign_kept binary64 false c.args.w (10 ^ c.args.places)))

pub returns : goal.returns
returns c = ap (λ (x : Float). to_bits binary64 x) c.quotient.ensures
