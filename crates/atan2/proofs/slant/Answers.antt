-- The parts are the definition's, and the test picks its case. Assumes nothing.
use borrow.Author.Tests.{le-leb, lt-leb}
use native.Mathlib.Omega.{arith}
use Prim.Native.Nat.{ℕ, ◌+◌, ◌*◌, ◌^◌, ◌≤◌, ◌<◌}
use mathlib.Core.Path.{◌≡◌, sym, ap, ◌∙◌}
use mathlib.Core.Bool.{Bool, cond}
use lib.Dec.{leb, ltb}
use lib.Ieee.{Float, binary32, of_bits, div}
use Rattle.floats.specs.Patterns.{sign_place}
use Rattle.atan2_rule.specs.Steps.{top_of, part_of, guess_of, angle_bits, slanted}
use Rattle.atan2.proofs.Numbers.{no-nan-bits}
use Rattle.atan2.proofs.slant.Goals as goal

-- the definition over parts u and v that are given

abbrev over : Float → Float → ℕ → ℕ → ℕ → ℕ → ℕ → ℕ → Float
over y x a b s t u v = cond (leb (u * 8192 + t * 2 ^ 30) v) (div binary32 y x) (of_bits binary32 (s * sign_place + angle_bits u v t (guess_of a b (ltb v u) t)))

module _ (y x : Float) (a b s t : ℕ) {top u v : ℕ} (et : top ≡ top_of a b) (eu : u ≡ part_of a top) (ev : v ≡ part_of b top) where
  given : over y x a b s t u v ≡ slanted y x a b s t
  given = ap (λ (n : ℕ). over y x a b s t n v) (eu ∙ ap (part_of a) et) ∙ ap (λ (n : ℕ). over y x a b s t (part_of a (top_of a b)) n) (ev ∙ ap (part_of b) et)

  near : u * 8192 + t * 1073741824 ≤ v → div binary32 y x ≡ slanted y x a b s t
  near h = sym (ap (λ (c : Bool). cond c (div binary32 y x) (of_bits binary32 (s * sign_place + angle_bits u v t (guess_of a b (ltb v u) t)))) (le-leb (u * 8192 + t * 1073741824) v h)) ∙ given

  far : {r : ℕ} → v < u * 8192 + t * 1073741824 → r ≡ angle_bits u v t (guess_of a b (ltb v u) t) → of_bits binary32 (s * sign_place + r) ≡ slanted y x a b s t
  far h e =
      ap (λ (n : ℕ). of_bits binary32 (s * sign_place + n)) e
      ∙ sym (ap (λ (c : Bool). cond c (div binary32 y x) (of_bits binary32 (s * sign_place + angle_bits u v t (guess_of a b (ltb v u) t)))) (lt-leb (u * 8192 + t * 1073741824) v h)) ∙ given

pub float_from_bits-result : goal.float_from_bits-result
float_from_bits-result c = no-nan-bits _ (omega arith)
