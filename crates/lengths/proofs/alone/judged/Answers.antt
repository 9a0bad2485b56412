-- Of two numbers s is the sum of squares itself, and a root that was settled is its (`judged-at`). Assumes nothing.
use mathlib.Core.Path.{◌≡◌, refl}
use mathlib.Core.Logic.{inl}
use mathlib.Core.Bool.{Bool, not, true, false, ◌&&◌}
use lib.Dec.{T}
use lib.Ieee.{Float, binary32, binary64, eq, ne, fits, is_nan}
use lib.Ieee.Fits.{and_i, fits_widens}
use Rattle.floats.specs.Floats.{zero_f}
use Rattle.floats.specs.Kinds.{real, upward}
use Rattle.floats.proofs.Tests.{failed}
use Rattle.floats.proofs.Order.{same→real}
use Rattle.lengths.specs.Length.{square_sum_of, length_of}
use Rattle.lengths.proofs.Upward.{squares-upward}
use Rattle.lengths.proofs.Far.{judged-at}
use Rattle.lengths.proofs.Lists.{not-zero}
use Rattle.lengths.proofs.alone.judged.Goals as goal

number : (x : Float) → ne x x ≡ false → T (real x)
number x h = same→real x (failed h)

wide : (x : Float) → T (fits binary32 x) → ne x x ≡ false → T (fits binary64 x && not (is_nan x))
wide x f h = and_i (fits binary64 x) (not (is_nan x)) (fits_widens x f) (number x h)

sum_upward : (x y : Float) → ne x x ≡ false → ne y y ≡ false → T (upward (square_sum_of x y))
sum_upward x y a b = squares-upward _ _ (number x a) (number y b)

refused : (b : Bool) → not b ≡ true → b ≡ false
refused false h = refl
refused true h = cc

pub float_to_float-a : goal.float_to_float-a
float_to_float-a c = wide c.args.x c.type_inv.x c.if-x.false

pub float_to_float-b : goal.float_to_float-b
float_to_float-b c = wide c.args.y c.type_inv.y c.if-y.false

pub guess-g-requires : goal.guess-g-requires
unfolding square_sum_of
guess-g-requires c = sum_upward c.args.x c.args.y c.if-x.false c.if-y.false

pub root_or_zero-root-requires : goal.root_or_zero-root-requires
unfolding square_sum_of
root_or_zero-root-requires c = sum_upward c.args.x c.args.y c.if-x.false c.if-y.false

pub returns-then-root : goal.returns-then-root
unfolding square_sum_of zero_f ne
returns-then-root c =
    let x = c.args.x in
    let y = c.args.y in
    let r = c.root_or_zero-root.result in
    not-zero r (length_of x y) (judged-at x y _ _ (sum_upward x y c.if-x.false c.if-y.false, inl refl) c.root_or_zero-root.ensures) (refused (eq r zero_f) c.if-root.true)
