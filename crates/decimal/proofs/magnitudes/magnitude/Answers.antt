-- `decimal::magnitudes::magnitude` meets its contract. Capped exponents give the exact place among the powers of ten where it is in their table, and the right end of
-- the floats where it is not. Assumes nothing.
use mathlib.Core.Path.{◌≡◌, ap, sym, ◌∙◌, subst}
use mathlib.Core.Logic.{◌⊎◌, ⊎_elim}
use Prim.Native.Nat.{ℕ, ◌+◌, ◌-◌, ◌*◌, ◌^◌, ◌≤◌, ◌<◌}
use native.Mathlib.Omega.{arith}
use Rattle.decimal_digits.specs.Digits.{digits_among, val}
use Rattle.decimal_digits.specs.Leading.{Leads}
use Rattle.decimal_digits.specs.Exponent.{capped}
use Rattle.decimal_digits.proofs.Values.{ten-pos}
use Rattle.decimal_product.specs.Near.{Leading, Cell}
use Rattle.decimal.specs.Bits.{Nearest}
use Rattle.decimal.proofs.Capped.{Apart, under, past, near, capped-self}
use Rattle.decimal.proofs.Scaled.{none-nearest, sized, placed, too-low, too-high, product-bits, product-between}
use Rattle.decimal.proofs.magnitudes.magnitude.Goals as goal

-- the place among the powers of ten, for any exponents that are capped so
apart :
    (dropped places up down x y : ℕ) → dropped < 2 ^ 63 → places < 2 ^ 63 → (up ≡ 0) ⊎ (down ≡ 0)
    → x ≡ capped (dropped + 64 + up) → y ≡ capped (places + down) → y ≤ x → x - y ≤ 102
    → Apart (dropped + 64) up places down (x - y)
apart dropped places up down x y low few one e f le within =
    subst (λ (i : ℕ). Apart (dropped + 64) up places down i) (sym (ap (λ (i : ℕ). i - y) e ∙ ap (λ (i : ℕ). capped (dropped + 64 + up) - i) f))
    (near (dropped + 64) up places down (let h : dropped + 64 < 2 ^ 63 + 64 = omega arith in h) few one
    (subst (λ (i : ℕ). capped (places + down) ≤ i) e (subst (λ (i : ℕ). i ≤ x) f le))
    (subst (λ (i : ℕ). i - capped (places + down) ≤ 102) e (subst (λ (i : ℕ). x - i ≤ 102) f within)))

pub returns-then-w-eq0 : goal.returns-then-w-eq0
returns-then-w-eq0 c =
    record {
      bits = λ up down e f one. none-nearest _ c.args.dropped up (c.args.places + down) (subst (λ (w : ℕ). Leads (digits_among c.args.part.now) w c.args.dropped) c.if-w-eq0.true c.requires.leads);
    }

pub returns-then-up-down : goal.returns-then-up-down
returns-then-up-down c =
    record {
      bits = λ up down e f one.
          let x = c.sum-up.ensures up e in
          let y = c.sum-down.ensures down f in
          too-low c.args.w (c.args.dropped + 64 + up) _ (c.args.places + down) (sized _ _ _ up c.requires.leads) c.ranges.w.fits
          (under (c.args.dropped + 64) up c.args.places down ((let low_dropped_here : c.args.dropped + 64 < 2 ^ 63 + 64 = omega (arith, c.requires.few-dropped) in low_dropped_here)) ((let low_places_here : c.args.places < 2 ^ 63 = omega (arith, c.requires.few) in low_places_here)) one (subst (λ (i : ℕ). i < capped (c.args.places + down)) x (subst (λ (i : ℕ). c.sum-up.result < i) y c.if-up-down.true)));
    }

pub returns-then-up-down-gt102 : goal.returns-then-up-down-gt102
returns-then-up-down-gt102 c =
    record {
      bits = λ up down e f one.
          let x = c.sum-up.ensures up e in
          let y = c.sum-down.ensures down f in
          too-high c.args.w (c.args.dropped + 64 + up) _ (c.args.places + down) (sized _ _ _ up c.requires.leads) (omega (arith, c.if-w-eq0.false))
          (past (c.args.dropped + 64) up c.args.places down ((let low_dropped_here : c.args.dropped + 64 < 2 ^ 63 + 64 = omega (arith, c.requires.few-dropped) in low_dropped_here)) ((let low_places_here : c.args.places < 2 ^ 63 = omega (arith, c.requires.few) in low_places_here)) one
          (subst (λ (i : ℕ). capped (c.args.places + down) ≤ i) x (subst (λ (i : ℕ). i ≤ c.sum-up.result) y c.if-up-down.false))
          (subst (λ (i : ℕ). 102 < i - capped (c.args.places + down)) x (subst (λ (i : ℕ). 102 < c.sum-up.result - i) y c.if-up-down-gt102.true)));
    }

pub nearest-requires : goal.nearest-requires
nearest-requires c = (omega (arith, c.if-w-eq0.false), omega (arith, c.if-up-down-gt102.false))

pub between-requires : goal.between-requires
between-requires c =
    let rise = capped-self _ c.requires.rise-le in
    let fall = capped-self _ c.requires.fall-le in
    let at : Apart (c.args.dropped + 64) c.args.rise c.args.places c.args.fall (c.sum-up.result - c.sum-down.result) = apart c.args.dropped c.args.places c.args.rise c.args.fall c.sum-up.result c.sum-down.result c.requires.few-dropped (omega (arith, c.requires.few)) c.requires.one_way (c.sum-up.ensures c.args.rise rise) (c.sum-down.ensures c.args.fall fall) c.if-up-down.false c.if-up-down-gt102.false in
    let leading : Leading c.args.w (c.sum-up.result - c.sum-down.result) (val (digits_among c.args.part.now) * 10 ^ c.args.rise) (10 ^ (c.args.places + c.args.fall)) = placed c.args.w (c.args.dropped + 64 + c.args.rise) _ (c.args.places + c.args.fall) (sized _ _ _ c.args.rise c.requires.leads) (c.sum-up.result - c.sum-down.result) at.at-or-past in
    let cell = product-between c.nearest.ensures _ _ (ten-pos _) leading c.in-Between.is in
    (cell.few, cell.low, ⊎_elim (λ h. omega (arith, c.requires.few)) (λ h. omega (arith, c.requires.few, at.at-or-past, c.if-up-down-gt102.false)) c.requires.one_way)

pub returns-in-Bits : goal.returns-in-Bits
returns-in-Bits c =
    record {
      bits = λ up down e f one.
          let at : Apart (c.args.dropped + 64) up c.args.places down (c.sum-up.result - c.sum-down.result) = apart c.args.dropped c.args.places up down c.sum-up.result c.sum-down.result c.requires.few-dropped (omega (arith, c.requires.few)) one (c.sum-up.ensures up e) (c.sum-down.ensures down f) c.if-up-down.false c.if-up-down-gt102.false in
          let leading : Leading c.args.w (c.sum-up.result - c.sum-down.result) (val (digits_among c.args.part.now) * 10 ^ up) (10 ^ (c.args.places + down)) = placed c.args.w (c.args.dropped + 64 + up) _ (c.args.places + down) (sized _ _ _ up c.requires.leads) (c.sum-up.result - c.sum-down.result) at.at-or-past in
          product-bits c.nearest.ensures _ _ (ten-pos _) leading c.in-Bits.is;
    }

pub returns-in-Between : goal.returns-in-Between
returns-in-Between c =
    let ds = digits_among c.args.part.now in
    record {
      bits = λ up down e f one.
          let at : Apart (c.args.dropped + 64) up c.args.places down (c.sum-up.result - c.sum-down.result) = apart c.args.dropped c.args.places up down c.sum-up.result c.sum-down.result c.requires.few-dropped (omega (arith, c.requires.few)) one (c.sum-up.ensures up e) (c.sum-down.ensures down f) c.if-up-down.false c.if-up-down-gt102.false in
          let leading : Leading c.args.w (c.sum-up.result - c.sum-down.result) (val (digits_among c.args.part.now) * 10 ^ up) (10 ^ (c.args.places + down)) = placed c.args.w (c.args.dropped + 64 + up) _ (c.args.places + down) (sized _ _ _ up c.requires.leads) (c.sum-up.result - c.sum-down.result) at.at-or-past in
          let rises = e ∙ at.up-exact in
          let falls = f ∙ at.down-exact in
          let cell = product-between c.nearest.ensures _ _ (ten-pos _) leading c.in-Between.is in
          subst (λ (u : ℕ). Nearest (val ds * 10 ^ u) (10 ^ (c.args.places + down)) c.between.result) rises
          (subst (λ (d : ℕ). Nearest (val ds * 10 ^ c.args.rise) (10 ^ (c.args.places + d)) c.between.result) falls
          (c.between.ensures.bits c.args.places c.requires.in_all
          (subst (λ (u : ℕ). Cell c.in-Between.m c.in-Between.k (val ds * 10 ^ u) (10 ^ (c.args.places + c.args.fall))) (sym rises) (subst (λ (d : ℕ). Cell c.in-Between.m c.in-Between.k (val ds * 10 ^ up) (10 ^ (c.args.places + d))) (sym falls) cell))));
    }
