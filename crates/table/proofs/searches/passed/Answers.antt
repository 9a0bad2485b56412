-- `table::searches::passed` meets its contract. The invariant: base and the place `size` further on bracket the first length that is not below the target. The measure
-- is the size. Assumes nothing.
use Prim.Native.Nat.{ℕ, ◌+◌, ◌-◌, ◌/◌}
use mathlib.Core.Path.{◌≡◌, refl, ap, subst, ◌∙◌}
use native.Mathlib.Omega.{arith}
use lib.ListN.{length, length-take}
use Rattle.table.specs.Lookup.{first_not_below}
use Rattle.table.proofs.Search.{Bracket, bracket-start, first-upto}
use Rattle.table.proofs.Quarters.{Quarter, quartered, part_sound, bracket-counted}
use Rattle.table.proofs.searches.passed.Goals as goal

pub loop-size-init : goal.loop-size-init
loop-size-init c =
    let e : length c.args.lengths.now ≡ 0 + length c.args.lengths.now = omega arith in
    subst (λ (k : ℕ). Bracket c.args.lengths.now c.args.target 0 k) e (bracket-start c.args.lengths.now c.args.target)

pub overflow_mul-base : goal.overflow_mul-base
overflow_mul-base c =
    let next : Quarter c.args.lengths.now c.args.target c.loop-size.base c.loop-size.size (c.loop-size.size / 4) c.quarters_below.result =
    quartered (c.loop-size.size / 4) c.requires c.loop-size.invariant (omega arith) (omega arith) _ c.quarters_below.ensures in
    omega (arith, next.upto, next.order)

pub overflow_add-base : goal.overflow_add-base
overflow_add-base c =
    let next : Quarter c.args.lengths.now c.args.target c.loop-size.base c.loop-size.size (c.loop-size.size / 4) c.quarters_below.result =
    quartered (c.loop-size.size / 4) c.requires c.loop-size.invariant (omega arith) (omega arith) _ c.quarters_below.ensures in
    omega (arith, next.upto, next.order)

pub loop-size-preserved : goal.loop-size-preserved
loop-size-preserved c = quartered (c.loop-size.size / 4) c.requires c.loop-size.invariant (omega arith) (omega arith) _ c.quarters_below.ensures

pub count_below-requires : goal.count_below-requires
count_below-requires c =
    (part_sound c.loop-size.base (c.loop-size.base + c.loop-size.size - c.loop-size.base) c.args.lengths.now c.requires, simp length-take (omega arith))

pub overflow_add-result : goal.overflow_add-result
overflow_add-result c =
    let exact : c.loop-size.base + c.count_below.result ≡ first_not_below c.args.target c.args.lengths.now =
    ap (λ (n : ℕ). c.loop-size.base + n) c.count_below.ensures ∙ bracket-counted c.loop-size.base (c.loop-size.base + c.loop-size.size) (c.loop-size.base + c.loop-size.size - c.loop-size.base) c.loop-size.invariant refl in
    omega (arith, exact, first-upto c.args.lengths.now c.args.target (length c.args.lengths.now) (bracket-start c.args.lengths.now c.args.target).above)

pub returns : goal.returns
returns c =
    let exact : c.loop-size.base + c.count_below.result ≡ first_not_below c.args.target c.args.lengths.now =
    ap (λ (n : ℕ). c.loop-size.base + n) c.count_below.ensures ∙ bracket-counted c.loop-size.base (c.loop-size.base + c.loop-size.size) (c.loop-size.base + c.loop-size.size - c.loop-size.base) c.loop-size.invariant refl in
    omega (arith, exact)
