-- The loop that takes a row of 16 differences, from sample k to the next and so on, in two lists of 32. Assumes nothing.
use mathlib.Core.Path.{◌≡◌, sym, ap, ◌∙◌}
use mathlib.Core.List.{List}
use Prim.Native.Nat.{ℕ, suc, ◌+◌, ◌≤◌, ◌<◌, zero-le}
use native.Mathlib.Nat.{add-zero}
use native.Mathlib.Numerals.{add-one}
use native.Mathlib.Omega.{arith}
use lib.ListN.{length, set}
use lib.Ieee.{Float, binary32, sub}
use Rattle.lengths.proofs.Lists.{Passing, passing-start, passing-more}
use Rattle.math.specs.declared.points.Point.{Point}
use Rattle.table_samples.specs.Samples.{sample_at}
use Rattle.spline_table.specs.Rows.{Differences}

-- v is the difference of a coordinate from sample k + i to the next
abbrev Difference : (Point → Float) → (Float → Point) → ℕ → ℕ → ℕ → Float → Type 0
Difference coordinate formula n k i v = v ≡ sub binary32 (coordinate (sample_at formula n (suc (k + i)))) (coordinate (sample_at formula n (k + i)))

-- the differences before i are in, and `previous` is sample k + i
pub record Crossing (formula : Float → Point) (n k : ℕ) (x y : List Float) (previous : Point) (i : ℕ) : Type 0 where
  pub across : Passing (Difference (λ (p : Point). p.x) formula n k) x 32 i
  pub along : Passing (Difference (λ (p : Point). p.y) formula n k) y 32 i
  pub upto : i ≤ 16
  pub here : previous ≡ sample_at formula n (k + i)

module _ {formula : Float → Point} {n k : ℕ} {x y : List Float} where
  pub crossing-start : (first : Point) → length x ≡ 32 → length y ≡ 32 → first ≡ sample_at formula n k → Crossing formula n k x y first 0
  crossing-start first sx sy e = record { across = passing-start sx; along = passing-start sy; upto = zero-le; here = e ∙ ap (sample_at formula n) (sym (add-zero k)) }

  module _ {previous : Point} {i : ℕ} (c : Crossing formula n k x y previous i) where
    -- the next sample, m, is taken, and its differences are put in at i
    pub crossing-more : i < 16 → (next : Point) (m : ℕ) → m ≡ k + i + 1 → next ≡ sample_at formula n m
        → Crossing formula n k (set x i (sub binary32 next.x previous.x)) (set y i (sub binary32 next.y previous.y)) next (i + 1)
    crossing-more inside next m follows e =
        let there : next ≡ sample_at formula n (suc (k + i)) = e ∙ ap (sample_at formula n) (follows ∙ add-one (k + i)) in
        record {
          across = passing-more c.across (omega arith) _ (apart (λ (p : Point). p.x) there c.here);
          along = passing-more c.along (omega arith) _ (apart (λ (p : Point). p.y) there c.here);
          upto = omega arith;
          here = e ∙ ap (sample_at formula n) (let g : m ≡ k + (i + 1) = omega arith in g);
        }
      where
        apart : (coordinate : Point → Float) {a b c d : Point} → a ≡ b → c ≡ d → sub binary32 (coordinate a) (coordinate c) ≡ sub binary32 (coordinate b) (coordinate d)
        apart coordinate p q = cc

    -- the row is done
    pub crossing-done : 16 ≤ i → Differences formula n k (record { x = x; y = y; next = previous })
    crossing-done past =
        let u = c.upto in
        record {
          across = λ j h. c.across.done j (omega arith);
          along = λ j h. c.along.done j (omega arith);
          next = c.here ∙ ap (λ (m : ℕ). sample_at formula n (k + m)) (let g : i ≡ 16 = omega arith in g);
        }
