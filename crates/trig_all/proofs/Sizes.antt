-- How large the rungs are. Assumes nothing.
use mathlib.Core.Path.{◌≡◌, refl, sym, subst}
use Prim.Native.Nat.{ℕ, ◌+◌, ◌^◌, ◌≤◌, ◌<◌}
use native.Mathlib.Omega.{arith}
use mathlib.Core.List.{List}
use lib.ListN.{get_or}
use lib.Ieee.{Float}
use Rattle.trig_rule.specs.Steps.{fixed_of, fourth_of, risen}
use Rattle.trig_rule.proofs.Turns.{rest_le}
use Rattle.trig.proofs.Sizes.{risen-le, fourth-lt}
use Rattle.trig.specs.Ladders.{rungs_of}
use Rattle.trig_all.specs.Rows.{Row, Below, rest_for, stepped_bits}

-- two rungs
pub two-le : (a b v h p : ℕ) → v < 2 ^ 32 → p ≡ risen a v (risen b v h) → p ≤ a + b + h
two-le a b v h p k e = omega (arith, e, risen-le a v (risen b v h) k, risen-le b v h k)

-- ---- rows of them
pub rests-below : (angles : ℕ → Float) {n : ℕ} {row : List ℕ} → Row (λ (k : ℕ). rest_for (angles k)) n row → Below (2 ^ 58) n row
rests-below angles r k l = omega (arith, r.each k l, rest_le (fixed_of (stepped_bits (angles k))))

pub fourths-below : (rests : List ℕ) {n : ℕ} {row : List ℕ} → Below (2 ^ 58) n rests → Row (λ (k : ℕ). fourth_of (get_or rests k 0)) n row → Below (2 ^ 32) n row
fourths-below rests b r k l = subst (λ (z : ℕ). z < 2 ^ 32) (sym (r.each k l)) (fourth-lt (get_or rests k 0) (b k l))

pub rungs-below : (a b c d e : ℕ) (v : List ℕ) {n : ℕ} {row : List ℕ} → a + b + c + d + e < 2 ^ 32 → Below (2 ^ 32) n v → Row (λ (k : ℕ). rungs_of a b c d e (get_or v k 0)) n row → Below (2 ^ 32) n row
rungs-below a b c d e v room small r k l =
    let x = get_or v k 0 in
    omega (arith, two-le a b x (risen c x (risen d x e)) _ (small k l) (r.each k l), two-le c d x e _ (small k l) refl)
