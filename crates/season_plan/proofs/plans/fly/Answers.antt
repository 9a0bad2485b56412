-- `season_plan::plans::fly` meets its contract: the list is built in buffers that are long enough, and what they hold is weighed. Assumes nothing.
use borrow.Author.Rules.{rules}
use Prim.Native.Nat.{ℕ, ◌<◌}
use mathlib.Core.Path.{◌≡◌, sym, ap, ◌∙◌, subst}
use native.Mathlib.Omega.{arith}
use lib.ListN.{length}
use Rattle.std.proofs.lemmas.List.{length-take}
use Rattle.station_listing.proofs.Lent.{full, flight, used, not-built}
use Rattle.season_plan.proofs.Marks.{marked-length, roomy-less}
use Rattle.season_plan.proofs.Reading.{number-row, number-tallied, letters-few, unbuilt-counted, flown-as}
use Rattle.season_plan.proofs.plans.fly.Goals as goal

-- ---- a refusal
pub bump-requires : goal.bump-requires
bump-requires c =
    let h : c.number.result < 25 = subst (λ (n : ℕ). n < 25) (sym c.number.ensures) (number-row c.in-Err.refusal) in
    (omega (arith, h, c.requires.0), roomy-less c.requires.1 (omega arith))

pub shape_of-counts-in-Err : goal.shape_of-counts-in-Err
shape_of-counts-in-Err c = ap length c.bump.ensures ∙ marked-length _ _

pub returns-in-Err : goal.returns-in-Err
returns-in-Err c text k =
    number-tallied (unbuilt-counted k (not-built k c.build_path.ensures
    (full (search rules) (search rules) (search rules) (search rules) (search rules))
    c.in-Err.is))
    c.number.ensures c.bump.ensures

-- ---- a path
pub slice_bounds-lengths-end : goal.slice_bounds-lengths-end
slice_bounds-lengths-end c =
    let u = used c.requires.2.is c.build_path.ensures
    (full (search rules) (search rules) (search rules) (search rules) (search rules))
    c.in-Ok.is in
    omega (arith, u.0)

pub slice_bounds-kinds-end : goal.slice_bounds-kinds-end
slice_bounds-kinds-end c =
    let u = used c.requires.2.is c.build_path.ensures
    (full (search rules) (search rules) (search rules) (search rules) (search rules))
    c.in-Ok.is in
    omega (arith, u.0)

pub weigh-requires : goal.weigh-requires
weigh-requires c =
    let u = used c.requires.2.is c.build_path.ensures
    (full (search rules) (search rules) (search rules) (search rules) (search rules))
    c.in-Ok.is in
    (c.requires.0, c.requires.1, letters-few c.requires.2.is, omega (arith, length-take c.in-Ok.sizes.segments c.build_path.new.kinds, u.0))

pub shape_of-counts-in-Ok : goal.shape_of-counts-in-Ok
shape_of-counts-in-Ok c = ap length c.weigh.ensures.counts ∙ marked-length _ _

pub returns-in-Ok : goal.returns-in-Ok
returns-in-Ok c text k =
    flown-as k (flight k c.build_path.ensures
    (full (search rules) (search rules) (search rules) (search rules) (search rules))
    c.in-Ok.is) c.total-total.ensures
    c.weigh.ensures
