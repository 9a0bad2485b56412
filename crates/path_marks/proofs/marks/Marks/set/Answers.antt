-- `path_marks::marks::Marks::set` meets its contract: 256 marks reach over the path, so that the walk ends at one of them. Assumes nothing.
use Prim.Native.Nat.{◌≤◌, ◌<◌}
use mathlib.Core.Path.{refl, ap, ◌∙◌}
use native.Mathlib.Omega.{arith}
use lib.ListN.{length}
use Rattle.path_marks.proofs.Marking.{apart-is, setting-first, setting-own, setting-fields, setting-tables, setting-stored, setting-done, setting-next, setting-past}
use Rattle.path_marks.proofs.marks.Marks.set.Goals as goal

pub loop-k-init : goal.loop-k-init
loop-k-init c =
    let reach = c.shift_for-self-inside.ensures in
    let some : 0 < length c.self.inside.kinds.now = omega (arith, c.requires, ap length c.self.view_is) in
    (setting-first _ c.self.invariant.set.sized some c.first_cursor-at.ensures, refl, reach, apart-is reach, refl)

pub overflow_cast-self : goal.overflow_cast-self
overflow_cast-self c =
    let few : length c.loop-k.self-inside.kinds.now ≤ 65536 = omega (arith, c.self.invariant.few, ap length c.loop-k.invariant.1) in
    record { fits = omega (arith, setting-fields few c.loop-k.invariant.0) }

pub overflow_cast-self-in-loop-k : goal.overflow_cast-self-in-loop-k
overflow_cast-self-in-loop-k c =
    let few : length c.loop-k.self-inside.kinds.now ≤ 65536 = omega (arith, c.self.invariant.few, ap length c.loop-k.invariant.1) in
    record { fits = omega (arith, setting-tables few c.loop-k.invariant.0) }

pub overflow_sub-count : goal.overflow_sub-count
overflow_sub-count c =
    let few : length c.loop-k.self-inside.kinds.now ≤ 65536 = omega (arith, c.self.invariant.few, ap length c.loop-k.invariant.1) in
    omega (arith, c.loop-k.invariant.0.inside, (setting-own few c.loop-k.invariant.0).0, ap length c.loop-k.invariant.1)

pub invariant_of-self-then-count-at : goal.invariant_of-self-then-count-at
invariant_of-self-then-count-at c =
    let same = c.loop-k.invariant.1 in
    let few : length c.loop-k.self-inside.kinds.now ≤ 65536 = omega (arith, c.self.invariant.few, ap length same) in
    let reach = c.loop-k.invariant.2 in
    record {
      few = few;
      set =
          setting-done few c.loop-k.invariant.0 reach (setting-stored few c.loop-k.invariant.0 c.loop-k-test.true)
          (omega (arith, c.if-count-at.true, c.loop-k.invariant.3, ap length same));
    }

pub returns-then-count-at : goal.returns-then-count-at
returns-then-count-at c = c.loop-k.invariant.1 ∙ c.self.view_is

pub overflow_add-at : goal.overflow_add-at
overflow_add-at c = omega (arith, c.if-count-at.false, c.self.invariant.few)

pub forward-at-requires : goal.forward-at-requires
forward-at-requires c =
    let same = c.loop-k.invariant.1 in
    let few : length c.loop-k.self-inside.kinds.now ≤ 65536 = omega (arith, c.self.invariant.few, ap length same) in
    let own = setting-own few c.loop-k.invariant.0 in
    record { few = few; is = own.1; later = omega arith; inside = omega (arith, c.if-count-at.false, ap length same) }

pub loop-k-preserved : goal.loop-k-preserved
loop-k-preserved c =
    let same = c.loop-k.invariant.1 in
    let few : length c.loop-k.self-inside.kinds.now ≤ 65536 = omega (arith, c.self.invariant.few, ap length same) in
    let apart = c.loop-k.invariant.3 in (
      setting-next few c.loop-k.invariant.0 (setting-stored few c.loop-k.invariant.0 c.loop-k-test.true) (omega (arith, c.if-count-at.false, apart, ap length same))
          (rw apart at c.forward-at.ensures),
      same,
      c.loop-k.invariant.2,
      apart,
      c.loop-k.invariant.4,
    )

pub invariant_of-self : goal.invariant_of-self
invariant_of-self c = absurd (setting-past c.loop-k.invariant.0 c.loop-k.invariant.2 (omega arith))

pub returns : goal.returns
returns c = c.loop-k.invariant.1 ∙ c.self.view_is
