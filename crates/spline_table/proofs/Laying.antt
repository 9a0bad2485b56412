-- One coordinate of a row: the loop that lays 17 samples, and that their differences are those of a formula's samples. Assumes nothing.
use mathlib.Core.Path.{◌≡◌, sym, ap, ◌∙◌}
use mathlib.Core.Logic.{◌⊎◌, inl, inr}
use mathlib.Core.List.{List}
use Prim.Native.Nat.{ℕ, zero, suc, ◌+◌, ◌≤◌, ◌<◌}
use native.Mathlib.Nat.{add-zero, eq-or-lt_of_le}
use native.Mathlib.Omega.{arith}
use lib.ListN.{set, length-set}
use lib.Seq.{get_or-set_same, get_or-set_other}
use lib.IntN.{pos}
use lib.Ieee.{Float, nan, binary32, sub, mul, of_int}
use Rattle.lengths.proofs.Lists.{Passing, passing-more}
use Rattle.math.specs.declared.points.Point.{Point}
use Rattle.table.specs.Lookup.{at}
use Rattle.table_samples.specs.Samples.{sample_at}
use Rattle.spline_table.specs.Rows.{Scaled, Laid, Apart, Differences}

-- ---- the first is set when the others are done
module _ {P : ℕ → Float → Type 0} {r : List Float} {n k : ℕ} (p : Passing P r n k) (first : Float) where
  pub set_first : 0 < n → at (set r 0 first) 0 ≡ first
  set_first h = get_or-set_same r 0 first nan (omega (arith, p.size))

  set_other : (i : ℕ) → 0 < i → at (set r 0 first) i ≡ at r i
  set_other i h = get_or-set_other r 0 i first nan (λ (e : i ≡ 0). omega arith)

-- ---- the marks along the spans
pub scaled-done : {marks : List Float} {segments : ℕ} {r : List Float} {i : ℕ} → Passing (λ (j : ℕ) (v : Float). v ≡ mul binary32 (at marks j) (of_int binary32 (pos segments))) r 16 i
    → 16 ≤ i → (low : Float) → Scaled marks segments (set r 0 low)
scaled-done {marks} {segments} {r} p past low = record { size = length-set r 0 low ∙ p.size; each = λ j h g. set_other p low j h ∙ p.done j (omega arith) }

-- ---- the samples before i are in, and the last
pub record Laying (f : Float → Float) (marks : List Float) (next : Float) (r : List Float) (i : ℕ) : Type 0 where
  pub done : Passing (λ (j : ℕ) (v : Float). v ≡ f (at marks j)) r 17 i
  pub ends : at r 16 ≡ next

module _ {f : Float → Float} {marks : List Float} {next : Float} {r : List Float} {i : ℕ} (l : Laying f marks next r i) where
  pub laying-more : i < 16 → (v : Float) → v ≡ f (at marks i) → Laying f marks next (set r i v) (i + 1)
  laying-more h v e = record { done = passing-more l.done (omega arith) v e; ends = get_or-set_other r i 16 v nan (λ (q : 16 ≡ i). omega arith) ∙ l.ends }

  pub laying-done : 16 ≤ i → (first : Float) → Laid f marks first next (set r 0 first)
  laying-done past first = record {
    starts = set_first l.done first (omega arith);
    between = λ j h g. set_other l.done first j h ∙ l.done.done j (omega arith);
    ends = set_other l.done first 16 (omega arith) ∙ l.ends;
  }

-- ---- the samples of a formula from sample k on, one coordinate of them
abbrev pub Drawn : (Point → Float) → (Float → Point) → ℕ → ℕ → List Float → Type 0
Drawn coordinate formula n k samples = (i : ℕ) → i ≤ 16 → at samples i ≡ coordinate (sample_at formula n (k + i))

module _ (coordinate : Point → Float) (formula : Float → Point) (n k : ℕ) where
  pub drawn : {f : Float → Float} {marks : List Float} {first next : Float} {r : List Float} → Laid f marks first next r
      → first ≡ coordinate (sample_at formula n k) → next ≡ coordinate (sample_at formula n (k + 16))
      → ((i : ℕ) → 0 < i → i < 16 → f (at marks i) ≡ coordinate (sample_at formula n (k + i))) → Drawn coordinate formula n k r
  drawn l starts ends each zero h = l.starts ∙ starts ∙ ap (λ (m : ℕ). coordinate (sample_at formula n m)) (sym (add-zero k))
  drawn {f} {marks} {first} {next} {r} l starts ends each (suc i) h = by (eq-or-lt_of_le h)
    where
      by : (suc i ≡ 16) ⊎ (suc i < 16) → at r (suc i) ≡ coordinate (sample_at formula n (k + suc i))
      by (inl e) = ap (at r) e ∙ l.ends ∙ ends ∙ ap (λ (m : ℕ). coordinate (sample_at formula n (k + m))) (sym e)
      by (inr g) = l.between (suc i) (omega arith) g ∙ each (suc i) (omega arith) g

  pub drawn-apart : (samples r : List Float) → Drawn coordinate formula n k samples → Apart samples r → (i : ℕ) → i < 16
      → at r i ≡ sub binary32 (coordinate (sample_at formula n (suc (k + i)))) (coordinate (sample_at formula n (k + i)))
  drawn-apart samples r d a i h =
      a i h ∙ ap (λ (z : Float). sub binary32 z (at samples i)) (d (i + 1) (omega arith) ∙ ap (λ (m : ℕ). coordinate (sample_at formula n m)) (let e : k + (i + 1) ≡ suc (k + i) = omega arith in e))
      ∙ ap (sub binary32 (coordinate (sample_at formula n (suc (k + i))))) (d i (omega arith))

-- both coordinates
pub drawn-row : (formula : Float → Point) (n k : ℕ) (across along x y : List Float) (next : Point)
    → Drawn (λ (p : Point). p.x) formula n k across → Drawn (λ (p : Point). p.y) formula n k along → Apart across x → Apart along y → next ≡ sample_at formula n (k + 16)
    → Differences formula n k (record { x = x; y = y; next = next })
drawn-row formula n k across along x y next dx dy ax ay e = record {
  across = drawn-apart (λ (p : Point). p.x) formula n k across x dx ax;
  along = drawn-apart (λ (p : Point). p.y) formula n k along y dy ay;
  next = e;
}
