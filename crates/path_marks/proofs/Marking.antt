-- Marks of a path: the zeros that serve at first, marks set one by one, and the way from a mark. Assumes nothing.
use mathlib.Core.Path.{◌≡◌, sym, ap, ◌∙◌}
use mathlib.Core.Logic.{◌≢◌}
use Prim.Native.Nat.{ℕ, zero, suc, ◌+◌, ◌*◌, ◌-◌, ◌/◌, ◌%◌, ◌^◌, ◌≤◌, ◌<◌}
use native.Mathlib.Nat.{add-mul, one-mul, zero-mul, div-lt_iff_lt-mul, div-mul-le_self, mod-eq_of_lt, lt_of_mul-lt-mul_right, lt_of_lt_of_le}
use native.Mathlib.Omega.{arith}
use borrow.Author.Count.{below_more}
use mathlib.Core.List.{List}
use lib.ListN.{length, get_or, set, length-set}
use lib.Pow.{pow_pos, pow-lt}
use lib.Seq.{get_or-set_same, get_or-set_other}
use Rattle.path_stored.proofs.Counting.{before-zero}
use Rattle.path_place.specs.declared.cursors.Cursor.{Cursor}
use Rattle.path_place.specs.Cursors.{cursor_of, Moving}
use Rattle.path_place.proofs.Standing.{cursor-own}
use Rattle.path_place.proofs.Walks.{walked_from, walked-fields, walked-tables}
use Rattle.path_marks.specs.Marks.{segment_of, mark_of, Reach, Sized, Marked, Leap}

-- ---- the shift

-- so many segments are between two marks
pub apart-is : {count shift : ℕ} → Reach count shift → (1 * 2 ^ shift) % 2 ^ 64 ≡ 2 ^ shift
apart-is {count} {shift} r = let fits : 2 ^ shift < 2 ^ 64 = pow-lt {j = 64} (let small = r.small in omega arith) in ap (λ (n : ℕ). n % 2 ^ 64) (one-mul (2 ^ shift)) ∙ mod-eq_of_lt fits

-- ---- at first

-- marks that are not set: the first keeps zeros, and no other stands on the path
pub marked-unset : {kinds fields tables : List ℕ} → length kinds ≤ 65536 → Sized fields tables → get_or fields 0 0 ≡ 0 → get_or tables 0 0 ≡ 0 → Marked kinds 16 fields tables
unfolding cursor_of
marked-unset {kinds} {fields} {tables} few sized p q = record { sized = sized; reach = record { far = omega arith; small = omega arith }; are = first }
  where
    first : (k : ℕ) → segment_of 16 k < length kinds → mark_of 16 fields tables k ≡ cursor_of kinds (segment_of 16 k)
    first zero inside = rw (p, q) (simp before-zero)
    first (suc k) inside = absurd (omega arith)

-- ---- one mark after the other

-- the marks before k are set
pub record Before (kinds : List ℕ) (shift k : ℕ) (fields tables : List ℕ) : Type 0 where
  pub sized : Sized fields tables
  pub are : (m : ℕ) → m < k → mark_of shift fields tables m ≡ cursor_of kinds (segment_of shift m)

-- and the cursor stands at the segment of mark k
pub record Setting (kinds : List ℕ) (shift : ℕ) (at : Cursor) (k : ℕ) (fields tables : List ℕ) : Type 0 where
  pub set : Before kinds shift k fields tables
  pub is : at ≡ cursor_of kinds (segment_of shift k)
  pub inside : segment_of shift k < length kinds

pub setting-first : {kinds : List ℕ} (shift : ℕ) {at : Cursor} {fields tables : List ℕ} → Sized fields tables → 0 < length kinds → at ≡ cursor_of kinds 0
    → Setting kinds shift at 0 fields tables
setting-first {kinds} shift sized some e =
    let none : segment_of shift 0 ≡ 0 = zero-mul (2 ^ shift) in
    record { is = e ∙ ap (cursor_of kinds) (sym none); inside = omega arith; set = record { sized = sized; are = λ m h. absurd (omega arith) } }

-- no mark past the 256 stands on the path
pub setting-past : {kinds : List ℕ} {shift k : ℕ} {at : Cursor} {fields tables : List ℕ} → Setting kinds shift at k fields tables → Reach (length kinds) shift → k ≡ 256 → ⊥
setting-past {kinds} {shift} {k} s r e =
    let same : segment_of shift k ≡ segment_of shift 256 = ap (segment_of shift) e in
    let inside = s.inside in
    let far = r.far in
    omega arith

module _ {kinds : List ℕ} {shift k : ℕ} {at : Cursor} {fields tables : List ℕ} (few : length kinds ≤ 65536) (s : Setting kinds shift at k fields tables) where
  -- the cursor stands at its own segment
  pub setting-own : (at.segment ≡ segment_of shift k) × (at ≡ cursor_of kinds at.segment)
  setting-own = cursor-own kinds (segment_of shift k) s.is

  upto : at.segment ≤ 65536
  upto = let own = setting-own in let inside = s.inside in omega arith

  -- its counts, each in a u32
  pub setting-fields : at.fields ≤ 720896
  setting-fields = walked-fields (walked_from setting-own.1) upto

  pub setting-tables : at.tables ≤ 2162688
  setting-tables = walked-tables (walked_from setting-own.1) upto

  -- there is a place for the mark
  pub setting-lt : Reach (length kinds) shift → k < 256
  setting-lt r = lt_of_mul-lt-mul_right (2 ^ shift) (lt_of_lt_of_le s.inside r.far)

  -- the next one is set, and each before it is as it was
  pub setting-stored : k < 256 → Before kinds shift (k + 1) (set fields k at.fields) (set tables k at.tables)
  setting-stored room =
      record {
        sized = record { fields_are = length-set fields k at.fields ∙ s.set.sized.fields_are; tables_are = length-set tables k at.tables ∙ s.set.sized.tables_are };
        are =
            below_more (λ (m : ℕ). mark_of shift (set fields k at.fields) (set tables k at.tables) m ≡ cursor_of kinds (segment_of shift m)) k
            (λ m h.
            let other : m ≢ k = (λ e. omega (arith, e)) in
            rw (get_or-set_other fields k m at.fields 0 other, get_or-set_other tables k m at.tables 0 other) (s.set.are m h))
            (let n : k < length fields = omega (arith, s.set.sized.fields_are) in
            let t : k < length tables = omega (arith, s.set.sized.tables_are) in
            rw (get_or-set_same fields k at.fields 0 n, get_or-set_same tables k at.tables 0 t) (rw setting-own.0 at s.is));
      }

  segment-next : segment_of shift (k + 1) ≡ at.segment + 2 ^ shift
  segment-next = let own = setting-own.0 in omega (arith, add-mul k 1 (2 ^ shift))

  -- no segment is left for another: they are marks of the path
  pub setting-done : Reach (length kinds) shift → {fields' tables' : List ℕ} → Before kinds shift (k + 1) fields' tables' → length kinds - at.segment ≤ 2 ^ shift
      → Marked kinds shift fields' tables'
  setting-done r stored last =
      let next = segment-next in
      record {
        sized = stored.sized;
        reach = r;
        are = λ m inside. stored.are m (lt_of_mul-lt-mul_right (2 ^ shift) (omega arith));
      }

  -- the next mark
  pub setting-next : {to : Cursor} {fields' tables' : List ℕ} → Before kinds shift (k + 1) fields' tables' → 2 ^ shift < length kinds - at.segment
      → to ≡ cursor_of kinds (at.segment + 2 ^ shift) → Setting kinds shift to (k + 1) fields' tables'
  setting-next stored more e =
      let next = segment-next in
      record { set = stored; is = e ∙ ap (cursor_of kinds) (sym next); inside = omega arith }

-- ---- from a mark

module _ {kinds : List ℕ} {shift : ℕ} {fields tables : List ℕ} {from : Cursor} {segment : ℕ} (m : Marked kinds shift fields tables) (s : Leap kinds from segment) where
  -- the mark before the segment is one of the 256
  pub mark-lt : segment / 2 ^ shift < 256
  mark-lt = (div-lt_iff_lt-mul (pow_pos shift)).1 (lt_of_lt_of_le s.inside m.reach.far)

  pub mark-le : segment_of shift (segment / 2 ^ shift) ≤ segment
  mark-le = div-mul-le_self segment (2 ^ shift)

  -- nothing is cut off
  pub mark-whole : segment_of shift (segment / 2 ^ shift) % 2 ^ 64 ≡ segment_of shift (segment / 2 ^ shift)
  mark-whole = mod-eq_of_lt (let h = mark-le in let few = s.move.few in let inside = s.inside in omega arith)

  pub mark-moves : {start n t : ℕ} → start ≡ segment_of shift (segment / 2 ^ shift) → n ≡ get_or fields (segment / 2 ^ shift) 0 → t ≡ get_or tables (segment / 2 ^ shift) 0
      → Moving kinds (record { segment = start; fields = n; tables = t }) segment
  mark-moves e p q =
      let h = mark-le in
      let inside = s.inside in
      record {
        few = s.move.few;
        is = rw (e, p, q) (m.are (segment / 2 ^ shift) (omega arith));
        stood = omega arith;
        inside = omega arith;
      }
