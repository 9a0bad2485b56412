-- r has 64 digits less its leading zeros, and what is dropped leaves 31 of them at most. Assumes nothing.
use Rattle.std.proofs.Common.{◌≡◌, ℕ, ◌+◌, ◌/◌, ◌^◌, ◌<◌, ◌≤◌, sym, refl, subst, lt_of_lt_of_le, arith, pow_mono, shr_lt}
use lib.Count.{count_leading_zeros, leading_length}
use Rattle.trig_rule.specs.Steps.{drop_of}
use Rattle.trig.proofs.sides.dropped.Goals as goal

kept : (r : ℕ) → r < 2 ^ 64 → r / 2 ^ drop_of r < 2 ^ 31
kept r h =
    let l = leading_length 64 r h in
    let m : l.0 ≤ 31 + drop_of r = omega arith in
    shr_lt 31 (drop_of r) (lt_of_lt_of_le l.2 (pow_mono m))

pub returns-then-z-lt33 : goal.returns-then-z-lt33
returns-then-z-lt33 c = (refl, omega arith, kept c.args.r c.ranges.r.fits)

pub returns-else-z-lt33 : goal.returns-else-z-lt33
returns-else-z-lt33 c =
    let z : 0 ≡ drop_of c.args.r = none c.args.r c.if-z-lt33.false in
    (z, omega arith, subst (λ (k : ℕ). c.args.r / 2 ^ k < 2 ^ 31) (sym z) (kept c.args.r c.ranges.r.fits))
  where
    none : (r : ℕ) → 33 ≤ count_leading_zeros 64 r → 0 ≡ drop_of r
    none r h = omega arith
