-- A NaN, what rounds to 0, what rounds to infinity, and the rest by its pattern. Assumes nothing.
use mathlib.Core.Path.{◌≡◌, refl, sym, ap, ◌∙◌}
use mathlib.Core.Bool.{false, not}
use lib.Dec.{T}
use lib.Ieee.{Float, nan, inf, binary32, binary64, of_bits, div, ne, fits, is_nan}
use lib.Ieee.Bits.{of_bits-to_bits}
use lib.Ieee.Compare.{differs_from_itself}
use lib.Ieee.Fits.{and_i, fits_widens}
use Rattle.floats.specs.Kinds.{real}
use Rattle.floats.proofs.Tests.{passed, failed}
use Rattle.floats.proofs.Order.{same→real}
use Rattle.root.specs.Root.{root_of}
use Rattle.lengths.specs.Length.{square_sum_of, narrow_of, length_of}
use Rattle.decimal_rounding.proofs.Wide.{no-nan-single}
use Rattle.lengths.proofs.Upward.{squares-upward, upward-real}
use Rattle.lengths.proofs.Edges.{length-nan-x, length-nan-y, root-tiny, root-huge, middling, sum_fits}
use Rattle.lengths.proofs.exact.length.Goals as goal

none : div binary32 (of_bits binary32 0) (of_bits binary32 0) ≡ nan
unfolding div of_bits
none = refl

infinite : div binary32 (of_bits binary32 0x3F800000) (of_bits binary32 0) ≡ inf false
unfolding div of_bits
infinite = refl

number : (x : Float) → ne x x ≡ false → T (real x)
number x h = same→real x (failed h)

pub returns-then-x : goal.returns-then-x
returns-then-x c = none ∙ sym (length-nan-x _ _ (differs_from_itself _ (passed c.if-x.true)))

pub returns-then-y : goal.returns-then-y
returns-then-y c = none ∙ sym (length-nan-y _ _ (differs_from_itself _ (passed c.if-y.true)))

pub float_to_float-a : goal.float_to_float-a
float_to_float-a c = let x = c.args.x in and_i (fits binary64 x) (not (is_nan x)) (fits_widens x c.row_known-1.given) (number x c.if-x.false)

pub float_to_float-b : goal.float_to_float-b
float_to_float-b c = let y = c.args.y in and_i (fits binary64 y) (not (is_nan y)) (fits_widens y c.row_known-2-1.given) (number y c.if-y.false)

pub returns-then-s : goal.returns-then-s
unfolding length_of
returns-then-s c =
    let x = c.args.x in
    let y = c.args.y in
    sym (root-tiny (square_sum_of x y) (sum_fits x y) (squares-upward x y (number x c.if-x.false) (number y c.if-y.false)) (passed c.if-s.true))

pub returns-then-s-2 : goal.returns-then-s-2
unfolding length_of
returns-then-s-2 c =
    let x = c.args.x in
    let y = c.args.y in
    infinite ∙ sym (root-huge (square_sum_of x y) (sum_fits x y) (squares-upward x y (number x c.if-x.false) (number y c.if-y.false)) (passed c.if-s-2.true))

pub float_to_bits-s : goal.float_to_bits-s
unfolding square_sum_of
float_to_bits-s c =
    let x = c.args.x in
    let y = c.args.y in
    upward-real (square_sum_of x y) (squares-upward x y (number x c.if-x.false) (number y c.if-y.false))

pub root_pattern-requires : goal.root_pattern-requires
unfolding square_sum_of
root_pattern-requires c =
    let x = c.args.x in
    let y = c.args.y in
    middling (square_sum_of x y) (sum_fits x y) (squares-upward x y (number x c.if-x.false) (number y c.if-y.false)) (failed c.if-s.false) (failed c.if-s-2.false)

pub float_from_bits-result : goal.float_from_bits-result
float_from_bits-result c = no-nan-single _ c.root_pattern.ensures.1

pub returns : goal.returns
unfolding length_of
returns c =
    let x = c.args.x in
    let y = c.args.y in
    c.root_pattern.ensures.0 ∙ ap (λ (z : Float). narrow_of (root_of binary64 z)) (of_bits-to_bits binary64 (square_sum_of x y) (sum_fits x y))
