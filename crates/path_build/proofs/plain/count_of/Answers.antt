-- `path_build::plain::count_of` meets its contract. Assumes nothing.
use mathlib.Core.Path.{◌≡◌, refl, ◌∙◌}
use mathlib.Core.Bool.{Bool, true, false}
use native.Mathlib.Omega.{arith}
use lib.Dec.{eqb}
use lib.ListN.{get_or}
use Rattle.std.specs.Int.{from_bool}
use Rattle.path_build.specs.Plain.{one_if}
use Rattle.path_build.proofs.Counting.{count_next, count-end, one-most}
use Rattle.path_build.proofs.plain.count_of.Goals as goal

byte-one : (so : Bool) → from_bool so ≡ one_if so
byte-one true = refl
byte-one false = refl

pub overflow_add-count : goal.overflow_add-count
overflow_add-count c =
    let so = eqb (get_or c.args.letters.now c.loop-own.own-index 0) c.args.letter in
    let one : c.from-count.result ≡ one_if so = c.from-count.ensures ∙ byte-one so in
    omega (arith, c.loop-own.invariant.0, c.requires, one, one-most so)

pub loop-own-preserved : goal.loop-own-preserved
loop-own-preserved c =
    let so = eqb (get_or c.args.letters.now c.loop-own.own-index 0) c.args.letter in
    let one : c.from-count.result ≡ one_if so = c.from-count.ensures ∙ byte-one so in (
      omega (arith, c.loop-own.invariant.0, one, one-most so),
      omega (arith, c.loop-own.invariant.1, one, count_next c.args.letters.now c.args.letter c.loop-own.own-index c.loop-own-test.true),
    )

pub returns : goal.returns
returns c = omega (arith, c.loop-own.invariant.1, count-end c.args.letters.now c.args.letter c.loop-own.own-index c.loop-own-test.false)
