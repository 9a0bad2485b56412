-- Between the two bounds the pattern is between theirs. Assumes nothing.
use borrow.Author.Rules.{rules}
use mathlib.Core.Path.{◌≡◌, sym, subst}
use Prim.Native.Nat.{◌*◌, ◌^◌, ◌≤◌, ◌<◌}
use denote.Floats.{passes}
use lib.Dec.{T, lit≤, lit<}
use lib.Ieee.{Float, binary64, of_bits, to_bits, fits, lt, le}
use lib.Ieee.Bits.{of_bits-fits}
use lib.Ieee.Positive.{between}
use Rattle.floats.specs.Kinds.{real}
use Rattle.floats.proofs.Tests.{passed}
use Rattle.floats.proofs.Order.{lt→le, le-real-l}
use Rattle.decimal_rounding.proofs.Wide.{pattern-positive}
use Rattle.lengths.proofs.Sizes.{clamped-bits}
use Rattle.lengths.proofs.passes.clamped.Goals as goal
use Rattle.lengths.proofs.passes.clamped.Goals.{then-g, else-g}

abbrev least : Float
least = of_bits binary64 0x3870000000000000

abbrev most : Float
most = of_bits binary64 0x47C0000000000000

bounded : (h : Float) → T (fits binary64 h) → T (le least h) → T (le h most) → T (real h) × (903 * 2 ^ 52 ≤ to_bits binary64 h) × (to_bits binary64 h < 1149 * 2 ^ 52)
bounded h f a b =
    let p = between least h most (pattern-positive 0x3870000000000000 (lit≤ tt) (lit< tt)) (pattern-positive 0x47C0000000000000 (lit≤ tt) (lit< tt)) a b in
    let k = clamped-bits h f p a b in
    (le-real-l h most b, k.0, k.1)

-- h is g, above the least, or the least
taken : (g h : Float) → T (fits binary64 g) → T (lt least g) → h ≡ g → T (fits binary64 h) × T (le least h)
taken g h f l e = (subst (λ (z : Float). T (fits binary64 z)) (sym e) f, subst (λ (z : Float). T (le least z)) (sym e) (lt→le least g l))

least_self : T (le least least)
unfolding le lt of_bits
least_self = tt

fixed : (h : Float) → h ≡ least → T (fits binary64 h) × T (le least h)
fixed h e = (subst (λ (z : Float). T (fits binary64 z)) (sym e) (of_bits-fits binary64 0x3870000000000000), subst (λ (z : Float). T (le least z)) (sym e) least_self)

pub returns-then-h : goal.returns-then-h
returns-then-h c =
    let f = passes _ c.well_formed.0.1 in
    let k : T (fits binary64 c.if-g.h) × T (le least c.if-g.h) = elim c.if-g.branch [ then-g w ↦ taken _ _ f (passed w.if-g.true) w.h-is | else-g w ↦ fixed _ w.h-is ] in
    bounded _ k.0 k.1 (lt→le _ _ (passed c.if-h.true))

pub returns-else-h : goal.returns-else-h
unfolding to_bits of_bits
returns-else-h c = search rules
