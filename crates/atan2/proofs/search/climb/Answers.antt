-- The climb from t by k strides ends where the whole climb does. Assumes nothing.
use native.Mathlib.Omega.{arith}
use Prim.Native.Nat.{ℕ, suc, ◌+◌, ◌-◌, ◌^◌, ◌<◌}
use mathlib.Core.Path.{◌≡◌, refl, sym, ap, ◌∙◌}
use mathlib.Core.Bool.{Bool, cond, ◌&&◌}
use lib.Dec.{ltb}
use Rattle.atan2_rule.specs.Steps.{ahead_at, climb}
use Rattle.atan2.proofs.search.climb.Goals as goal

-- no stride, and one stride, of the definition

none : (test : ℕ → Bool) (to t : ℕ) → climb test to 0 t ≡ t
unfolding climb
none test to t = refl

step : (test : ℕ → Bool) (to n t : ℕ) → climb test to (suc n) t ≡ climb test to n (cond (ltb (t + 2 ^ n) to && test (t + 2 ^ n)) (t + 2 ^ n) t)
unfolding climb
step test to n t = refl

climb-step : (test : ℕ → Bool) (to k t : ℕ) → 0 < k → climb test to k t ≡ climb test to (k - 1) (cond (ltb (t + 2 ^ (k - 1)) to && test (t + 2 ^ (k - 1))) (t + 2 ^ (k - 1)) t)
climb-step test to k t h = ap (λ (n : ℕ). climb test to n t) back ∙ at (k - 1)
  where
    back : k ≡ suc (k - 1)
    back = omega arith

    at : (n : ℕ) → climb test to (suc n) t ≡ climb test to n (cond (ltb (t + 2 ^ n) to && test (t + 2 ^ n)) (t + 2 ^ n) t)
    at n = step test to n t

pub loop-k-preserved : goal.loop-k-preserved
loop-k-preserved c =
    let test = ahead_at c.args.d.u c.args.d.v c.args.d.left in
    (ap (climb test c.args.to (c.loop-k.k - 1)) c.stride-t.ensures.0 ∙ sym (climb-step test c.args.to c.loop-k.k c.loop-k.t c.loop-k-test.true) ∙ c.loop-k.invariant.0, c.stride-t.ensures.1, c.stride-t.ensures.2)

at_none : (test : ℕ → Bool) (to t k : ℕ) → k ≡ 0 → climb test to k t ≡ t
at_none test to t k e = ap (λ (n : ℕ). climb test to n t) e ∙ none test to t

pub returns : goal.returns
returns c =
    let e : c.loop-k.k ≡ 0 = omega arith in
    (sym (at_none (ahead_at c.args.d.u c.args.d.v c.args.d.left) c.args.to c.loop-k.t c.loop-k.k e) ∙ c.loop-k.invariant.0, c.loop-k.invariant.1, c.loop-k.invariant.2)
