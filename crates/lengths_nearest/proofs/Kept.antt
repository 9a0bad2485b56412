-- `length_of` is the nearest f32 to the nearest f64 root of the sum of squares, and no other value is. Assumes nothing.
use Prim.Native.Nat.{ℕ, zero}
use mathlib.Core.Path.{◌≡◌, refl, sym, ap, ◌∙◌, subst}
use mathlib.Core.Bool.{false}
use lib.Dec.{T}
use lib.IntN.{ℤ}
use lib.Ieee.{Float, nan, inf, fin, binary32, binary64, of_bits}
use lib.Ieee.Positive.{num, den, den_pos, positive}
use Rattle.floats.specs.Floats.{zero_f}
use Rattle.floats.specs.Kinds.{real, upward}
use Rattle.root.specs.Root.{root_of, NearestRoot}
use Rattle.root.proofs.Nearest.{root-nearest, is-root}
use Rattle.decimal_nearest.specs.Nearest.{NearestTo}
use Rattle.decimal_nearest.proofs.Rounded.{round-nearest, nearest-is}
use Rattle.lengths.specs.Length.{square_sum_of, narrow_of, length_of}
use Rattle.lengths.proofs.Upward.{squares-upward}
use Rattle.lengths.proofs.Narrow.{narrow-is}
use Rattle.lengths.proofs.Edges.{sum_fits, length-nan-x, length-nan-y, narrow-zero, root-of-zero, root-of-infinity, root-positive}
use Rattle.lengths_nearest.specs.Kept.{LengthKept}

module _ (x y : Float) where
  abbrev sum : Float
  sum = square_sum_of x y

  pub length-kept : LengthKept x y (length_of x y)
  unfolding length_of zero_f
  length-kept =
      record {
        upward-sum = squares-upward x y;
        root = root_of binary64 sum;
        root-near = λ above. root-nearest binary64 sum (sum_fits x y) above;
        near = λ above.
            let q = root_of binary64 sum in
            subst (NearestTo false (num q) (den q)) (sym (narrow-is q (root-positive sum (sum_fits x y) above))) (round-nearest false (num q) (den q) (den_pos q));
        none = λ e is. ap (λ (z : Float). narrow_of (root_of binary64 z)) is ∙ ap narrow_of (root-of-zero e) ∙ narrow-zero e;
        endless = λ is. ap (λ (z : Float). narrow_of (root_of binary64 z)) is ∙ root-of-infinity;
        no-x = length-nan-x x y;
        no-y = length-nan-y x y;
      }

  -- and no other value is
  pub kept-is-length : (r : Float) → LengthKept x y r → T (positive (square_sum_of x y)) → r ≡ length_of x y
  unfolding length_of
  kept-is-length r kept above =
      let near = kept.root-near above in
      nearest-is false (num kept.root) (den kept.root) (den_pos kept.root) r (kept.near above)
      ∙ sym (narrow-is kept.root near.above_zero)
      ∙ ap narrow_of (is-root binary64 sum kept.root (sum_fits x y) above near)
