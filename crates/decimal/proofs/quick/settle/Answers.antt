-- `decimal::quick::settle` meets its contract: the bits of the quotient are those of the nearest f32. Assumes nothing.
use mathlib.Core.Path.{◌≡◌, refl, ap, sym, ◌∙◌, subst}
use mathlib.Core.List.{List, [], ◌∷◌}
use Prim.Native.Nat.{ℕ, ◌^◌, ◌≤◌}
use native.Mathlib.Nat.{pow-le-pow_right, zero-lt-suc}
use native.Mathlib.Omega.{arith}
use lib.ListN.{length, set}
use lib.Ieee.{Float}
use Rattle.decimal_digits.proofs.Values.{ten-pos}
use Rattle.decimal.specs.Bits.{Nearest}
use Rattle.decimal.proofs.Ranged.{quotient-tells, quotient-bits}
use Rattle.decimal.proofs.quick.settle.Goals as goal

-- a list of one, written
set-one : (xs : List Float) (v : Float) → length xs ≡ 1 → set xs 0 v ≡ v ∷ []
set-one [] v e = absurd (omega (arith, e))
set-one (x ∷ []) v e = refl
set-one (x ∷ y ∷ ys) v e = absurd (omega (arith, e))

pub returns-then-w-ge9007199254740992 : goal.returns-then-w-ge9007199254740992
returns-then-w-ge9007199254740992 c h = absurd (omega (arith, h))

pub returns-then-places-gt8 : goal.returns-then-places-gt8
returns-then-places-gt8 c h = absurd (omega (arith, h))

-- ten to so few places
small : (places : ℕ) → places ≤ 8 → 10 ^ places ≤ 10 ^ 8
small places h = pow-le-pow_right (zero-lt-suc 9) h

pub narrow-requires : goal.narrow-requires
narrow-requires c some =
    quotient-tells _ _ some (omega (arith, c.if-w-ge9007199254740992.false)) (ten-pos _) (small _ (omega (arith, c.if-places-gt8.false))) _
    c.pattern-b.ensures (c.tells.ensures c.if-tells.true)

pub signed-requires : goal.signed-requires
signed-requires c = ((let near_here : Nearest c.args.w (10 ^ c.args.places) c.narrow.result = subst (λ (n : ℕ). Nearest c.args.w (10 ^ c.args.places) n) (sym c.narrow.ensures)
    (quotient-bits _ _ (ten-pos _) (small _ (omega (arith, c.if-places-gt8.false))) (c.tells.ensures c.if-tells.true) _
    (omega (arith, c.if-w-ge9007199254740992.false)) c.pattern-b.ensures) in near_here)).finite_or_infinite

pub returns-then-tells : goal.returns-then-tells
returns-then-tells c h =
    record {
      few = omega (arith, c.if-w-ge9007199254740992.false);
      ends = refl;
      stored = set-one c.args.out.now _ c.requires ∙ ap (λ (x : Float). x ∷ []) (c.signed.ensures ∙ sym (((let near_here : Nearest c.args.w (10 ^ c.args.places) c.narrow.result = subst (λ (n : ℕ). Nearest c.args.w (10 ^ c.args.places) n) (sym c.narrow.ensures)
          (quotient-bits _ _ (ten-pos _) (small _ (omega (arith, c.if-places-gt8.false))) (c.tells.ensures c.if-tells.true) _
          (omega (arith, c.if-w-ge9007199254740992.false)) c.pattern-b.ensures) in near_here)).is _));
    }

pub returns : goal.returns
returns c h = absurd (omega (arith, h))
