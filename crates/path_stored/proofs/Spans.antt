-- The fields and the tables of a part of a path, kind by kind and part by part. Assumes nothing.
use Prim.Native.Nat.{ℕ, zero, suc, ◌+◌, ◌*◌, ◌-◌, ◌≤◌, ◌<◌}
use mathlib.Core.Path.{◌≡◌, refl}
use mathlib.Core.Bool.{Bool, true, false, cond}
use mathlib.Core.List.{List}
use native.Mathlib.Omega.{arith}
use borrow.Author.Tests.{le-leb}
use lib.Dec.{leb}
use lib.ListN.{length, get_or}
use Rattle.path_segment.specs.Segments.{width_of, tables_of}
use Rattle.path_segment.proofs.Widths.{tables-most}
use Rattle.path_stored.specs.Stored.{before}
use Rattle.path_stored.specs.Counts.{Adds, one_from}
use Rattle.path_stored.proofs.Counting.{sum_more, before-most}

pub one_at_most : (least kind : ℕ) → one_from least kind ≤ 1
one_at_most least kind = go (leb least kind)
  where
    go : (b : Bool) → cond b 1 0 ≤ 1
    go true = omega arith
    go false = omega arith

-- the fields of a kind, from what kinds have more than those before them
width-parts : (kind : ℕ) → width_of kind + 11 * one_from 5 kind ≡ 4 + 2 * one_from 1 kind + 2 * one_from 2 kind + 3 * one_from 3 kind
unfolding width_of
width-parts zero = refl
width-parts (suc zero) = refl
width-parts (suc (suc zero)) = refl
width-parts (suc (suc (suc zero))) = refl
width-parts (suc (suc (suc (suc zero)))) = refl
width-parts (suc (suc (suc (suc (suc kind))))) =
    rw (unknown 5 (omega arith), unknown 1 (omega arith), unknown 2 (omega arith), unknown 3 (omega arith))
  where
    unknown : (least : ℕ) → least ≤ 5 → leb least (suc (suc (suc (suc (suc kind))))) ≡ true
    unknown least h = le-leb least (suc (suc (suc (suc (suc kind))))) (omega arith)

-- ---- at most 128 segments, of which those before j are counted

pub record FieldCounts (kinds : List ℕ) (from j from1 from2 from3 from5 : ℕ) : Type 0 where
  pub sum : before width_of kinds from + 4 * (j - from) + 2 * from1 + 2 * from2 + 3 * from3 ≡ before width_of kinds j + 11 * from5
  pub grows : before width_of kinds from ≤ before width_of kinds j
  pub few1 : from1 ≤ j - from
  pub few2 : from2 ≤ j - from
  pub few3 : from3 ≤ j - from
  pub few5 : from5 ≤ j - from

pub fields-start : (kinds : List ℕ) (from : ℕ) → FieldCounts kinds from from 0 0 0 0
fields-start kinds from = record { sum = omega arith; grows = omega arith; few1 = omega arith; few2 = omega arith; few3 = omega arith; few5 = omega arith }

pub fields-more : {kinds : List ℕ} {from j from1 from2 from3 from5 : ℕ} (one1 one2 one3 one5 : ℕ) → FieldCounts kinds from j from1 from2 from3 from5 → from ≤ j → j < length kinds
    → one1 ≡ one_from 1 (get_or kinds j 0) → one2 ≡ one_from 2 (get_or kinds j 0) → one3 ≡ one_from 3 (get_or kinds j 0) → one5 ≡ one_from 5 (get_or kinds j 0)
    → FieldCounts kinds from (j + 1) (from1 + one1) (from2 + one2) (from3 + one3) (from5 + one5)
fields-more {kinds} {from} {j} one1 one2 one3 one5 n order inside e1 e2 e3 e5 =
    let kind = get_or kinds j 0 in
    let next : before width_of kinds j + width_of kind ≡ before width_of kinds (j + 1) = sum_more width_of kinds j inside refl refl in
    let parts = width-parts kind in
    let o1 = one_at_most 1 kind in
    let o2 = one_at_most 2 kind in
    let o3 = one_at_most 3 kind in
    let o5 = one_at_most 5 kind in
    let s = n.sum in
    let g = n.grows in
    record {
      sum = omega arith;
      grows = omega arith;
      few1 = omega (arith, n.few1);
      few2 = omega (arith, n.few2);
      few3 = omega (arith, n.few3);
      few5 = omega (arith, n.few5);
    }

pub fields-done : {kinds : List ℕ} {from to from1 from2 from3 from5 : ℕ} → FieldCounts kinds from to from1 from2 from3 from5
    → Adds width_of kinds from to (4 * (to - from) + 2 * from1 + 2 * from2 + 3 * from3 - 11 * from5)
fields-done n = let s = n.sum in let g = n.grows in omega arith

pub fields-enough : {kinds : List ℕ} {from to from1 from2 from3 from5 : ℕ} → FieldCounts kinds from to from1 from2 from3 from5
    → 11 * from5 ≤ 4 * (to - from) + 2 * from1 + 2 * from2 + 3 * from3
fields-enough n = let s = n.sum in let g = n.grows in omega arith

pub record Tabling (kinds : List ℕ) (from j sum : ℕ) : Type 0 where
  pub adds : Adds tables_of kinds from j sum
  pub few : sum ≤ j - from

pub tabling-start : (kinds : List ℕ) (from : ℕ) → Tabling kinds from from 0
tabling-start kinds from = record { adds = omega arith; few = omega arith }

pub tabling-more : {kinds : List ℕ} {from j sum : ℕ} (one : ℕ) → Tabling kinds from j sum → from ≤ j → j < length kinds → one ≡ tables_of (get_or kinds j 0) → Tabling kinds from (j + 1) (sum + one)
tabling-more {kinds} {from} {j} one t order inside e =
    let next : before tables_of kinds j + tables_of (get_or kinds j 0) ≡ before tables_of kinds (j + 1) = sum_more tables_of kinds j inside refl refl in
    let a = t.adds in
    record { adds = omega arith; few = omega (arith, t.few, tables-most (get_or kinds j 0)) }

-- ---- no sum is larger than 11 fields for each of 65,536 segments
pub adds-most : (f : ℕ → ℕ) → ((kind : ℕ) → f kind ≤ 11) → (kinds : List ℕ) (from to sum : ℕ) → to ≤ 65536 → Adds f kinds from to sum → sum ≤ 720896
adds-most f most kinds from to sum few a = let h = before-most f 11 most kinds to in omega arith

pub tables-under : (kind : ℕ) → tables_of kind ≤ 11
tables-under kind = omega (arith, tables-most kind)
