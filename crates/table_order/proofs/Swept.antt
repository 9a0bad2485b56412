-- Demand 3 of one table, whole: `steady` proves `Steady` of specs/Swept.antt for the lookup of the code, `raw_of`, in every sound table of f32 values, whatever the number of its entries. And the two
-- entries around a target are settled by the table: `chosen-once`. Assumes nothing.
use mathlib.Core.Path.{◌≡◌, refl, ◌∙◌}
use Prim.Native.Nat.{ℕ, ◌-◌, ◌≤◌, ◌<◌}
use native.Mathlib.Omega.{arith}
use mathlib.Core.Logic.{inl, inr}
use mathlib.Core.List.{List}
use lib.Dec.{T, ltb, ltb→lt, nltb→le}
use lib.Ieee.{Float, lt, le}
use lib.Ieee.Bits.{cond_no}
use Rattle.floats.specs.Floats.{zero_f, one_f, epsilon_f, clamp01_of}
use Rattle.floats.proofs.Tests.{decide, clashing, cond_yes}
use Rattle.floats.proofs.Order.{le_lt_trans, lt-le-trans, lt→le, lt→not-le, le→not-lt}
use Rattle.floats.proofs.Constants.{zero-lt-epsilon}
use Rattle.floats.proofs.Clamping.{clamp01-at-least, clamp01-at-most, clamp01-same}
use Rattle.table.specs.Lookup.{at, last_of, first_not_below, target_of, raw_at, raw_of}
use Rattle.table.proofs.Lengths.{Sound, entries-le}
use Rattle.table_order.specs.Stated.{F32Table}
use Rattle.table_order.specs.Swept.{Inside, Enclose, Chosen, Swept, Steady}
use Rattle.table_order.proofs.Theorems.{raw-order, raw-starts, raw-ends, raw-placed}

-- ---- the two entries around a target

-- Of two pairs of entries that enclose a target neither comes first: the entries never fall.
module _ {n : ℕ} {xs : List Float} {total : Float} (sound : Sound n xs total) {t : Float} where
  not-before : (i j : ℕ) → i < j → j ≤ n → Enclose (at xs (i - 1)) (at xs i) t → Enclose (at xs (j - 1)) (at xs j) t → ⊥
  not-before i j l inside a b =
      clashing (lt (at xs i) t) (le_lt_trans (at xs i) (at xs (j - 1)) t (entries-le sound i (j - 1) (omega arith) (omega arith)) b.lower) a.upper

  pub enclosed-once : (i j : ℕ) → i ≤ n → j ≤ n → Enclose (at xs (i - 1)) (at xs i) t → Enclose (at xs (j - 1)) (at xs j) t → i ≡ j
  enclosed-once i j k l a b =
      elim (decide (ltb i j)) [
        | inl h ↦ absurd (not-before i j (ltb→lt i j h) l a b)
        | inr h ↦ elim (decide (ltb j i)) [
          | inl g ↦ absurd (not-before j i (ltb→lt j i g) k b a)
          | inr g ↦ same (nltb→le i j h) (nltb→le j i g)
        ]
      ]
    where
      same : j ≤ i → i ≤ j → i ≡ j
      same h g = omega arith

  -- so the two chosen entries are settled by the table and the target
  pub chosen-once : {x y : Float} → (a : Chosen n xs t x) → (b : Chosen n xs t y) → a.entry ≡ b.entry
  chosen-once a b = enclosed-once a.entry b.entry a.last b.last a.enclose b.enclose

-- ---- the lookup

-- a progress is clamped once; a second time does nothing
pub clamped-again : (p : Float) → clamp01_of (clamp01_of p) ≡ clamp01_of p
clamped-again p = clamp01-same (clamp01_of p) (clamp01-at-least p) (clamp01-at-most p)

raw-counts : (xs : List Float) (total p : Float) → raw_of xs total p ≡ raw_of xs total (clamp01_of p)
unfolding raw_of target_of
raw-counts xs total p = rw (clamped-again p) refl

module _ {xs : List Float} {total : Float} (f : F32Table xs total) where
  module _ (p : Float) (long : T (lt epsilon_f total)) where
    abbrev target : Float
    target = target_of total p

    long-raw : raw_of xs total p ≡ raw_at xs total target
    unfolding raw_of
    long-raw = cond_no (le total epsilon_f) _ _ (lt→not-le total epsilon_f long)

    pub raw-swept : Swept (last_of xs) xs total target (raw_of xs total p)
    unfolding raw_at
    raw-swept =
        record {
          starts = λ low. long-raw ∙ cond_yes (le target zero_f) _ _ low;
          ends = λ high. long-raw ∙ cond_no (le target zero_f) _ _ (lt→not-le target zero_f (lt-le-trans zero_f total target above_zero high)) ∙ cond_yes (le total target) _ _ high;
          chosen = λ inside.
              let own = raw-placed f p long inside.above inside.below in
              record {
                entry = first_not_below target xs;
                first = own.enclosing.from;
                last = own.enclosing.upto;
                enclose = record { lower = own.enclosing.lower; upper = le→not-lt target (at xs (first_not_below target xs)) own.enclosing.upper };
                from = own.from;
                upto = own.upto;
              };
        }
      where
        above_zero : T (lt zero_f total)
        above_zero = le_lt_trans zero_f epsilon_f total (lt→le zero_f epsilon_f zero-lt-epsilon) long

  pub steady : Steady (last_of xs) xs total (raw_of xs total)
  steady = record { counts = raw-counts xs total; order = raw-order f; starts = raw-starts f; ends = raw-ends f; swept = raw-swept }
