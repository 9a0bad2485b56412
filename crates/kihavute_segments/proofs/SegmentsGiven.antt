-- What a segment of a stored path gives, case by case; its numbers and its table stand one after the other. Assumes nothing.
use Prim.Native.Nat.{ℕ, ◌+◌, ◌*◌, ◌≤◌, ◌<◌}
use mathlib.Core.Path.{◌≡◌, refl, sym, ap, ◌∙◌, subst}
use mathlib.Core.Bool.{Bool, true, false}
use Rattle.std.specs.Prelude.{Option, Some, Result, Ok, Err}
use mathlib.Core.List.{List, [], ◌∷◌, append-nil}
use native.Mathlib.Omega.{arith}
use borrow.Author.Tests.{lt-ltb, le-ltb}
use lib.Ieee.{Float}
use lib.ListN.{length, length-append}
use lib.Seq.{sets}
use Rattle.answers.specs.declared.refusals.Values.TheVariants.{One}
use Rattle.answers.specs.declared.refusals.Refusal.{Refusal}
use Rattle.answers.specs.declared.refusals.Refusal.TheVariants.{NoRoom}
use Rattle.answers.specs.Answers.{accepted, refused}
use Rattle.answers.specs.Report.{written}
use Rattle.answers.proofs.Writing.{written-more}
use Rattle.table.specs.declared.tables.Table.{Table}
use Rattle.path_segment.specs.declared.segments.PathSegment.{PathSegment}
use Rattle.path_segment.specs.Segments.{kind_of, width_of, has_table, fields_of, table_numbers}
use Rattle.path_segment.proofs.Widths.{one_table, none-table}
use Rattle.path_segment.proofs.Reading.{fields-width}
use Rattle.path_stored.specs.declared.queries.Part.{Part}
use Rattle.path_stored.specs.Queries.{counted_answer}
use Rattle.c_answer.specs.Counts.{count_given}
use Rattle.c_answer.specs.Given.{Given}
use Rattle.c_answer.proofs.Giving.{given-same, given-short}
use Rattle.kihavute_segments.specs.Segments.{numbers_of, places_of, segment_answer, SegmentGiven}

-- ---- how many numbers a kind has
pub places-some : (kind : ℕ) → has_table kind ≡ true → width_of kind + 33 ≡ places_of kind
places-some kind has = ap (λ (n : ℕ). width_of kind + 33 * n) (sym (one_table kind has))

pub places-none : (kind : ℕ) → has_table kind ≡ false → width_of kind ≡ places_of kind
places-none kind none = rw (none-table kind none) (omega arith)

-- ---- the numbers, run after run
module _ (segment : PathSegment) (table : Table) (out : List Float) where
  own : (first : List Float) → width_of (kind_of segment) ≤ length out → first ≡ sets out 0 (fields_of segment) → first ≡ written (fields_of segment) out
  own first room e = e ∙ written-more [] (fields_of segment) out (let w = fields-width segment in omega arith)

  -- a segment without a table
  pub put-own : (first : List Float) → has_table (kind_of segment) ≡ false → places_of (kind_of segment) ≤ length out → first ≡ sets out 0 (fields_of segment) → first ≡ written (numbers_of segment table) out
  unfolding numbers_of
  put-own first none room e =
      own first (omega (arith, places-none (kind_of segment) none)) e
      ∙ ap (λ (l : List Float). written l out) (sym (append-nil (fields_of segment)))
      ∙ rw none refl

  -- one with a table
  pub put_both :
      (first second : List Float) (place : ℕ)
      → has_table (kind_of segment) ≡ true
      → length table.entries ≡ 32
      → places_of (kind_of segment) ≤ length out
      → first ≡ sets out 0 (fields_of segment)
      → place ≡ width_of (kind_of segment)
      → second ≡ sets first place (table_numbers table)
      → second ≡ written (numbers_of segment table) out
  unfolding numbers_of
  put_both first second place has size room e at f =
      let wide = places-some (kind_of segment) has in
      let long : length (table_numbers table) ≡ 33 = length-append table.entries (table.total ∷ []) ∙ ap (λ (n : ℕ). n + 1) size in
      f
      ∙ ap (λ (l : List Float). sets l place (table_numbers table)) (own first (omega arith) e)
      ∙ ap (λ (n : ℕ). sets (written (fields_of segment) out) n (table_numbers table)) (at ∙ sym (fields-width segment))
      ∙ written-more (fields_of segment) (table_numbers table) out (let w = fields-width segment in omega arith)
      ∙ rw has refl

  -- "a NoRoom with invented needs (they are the counts of the defined list)"
  pub need-is-the-count : length table.entries ≡ 32 → length (numbers_of segment table) ≡ places_of (kind_of segment)
  unfolding numbers_of
  need-is-the-count size = go (has_table (kind_of segment)) refl
    where
      go : (has : Bool) → has_table (kind_of segment) ≡ has → length (numbers_of segment table) ≡ places_of (kind_of segment)
      go true e =
          rw e
          (length-append (fields_of segment) (table_numbers table)
          ∙ ap (λ (n : ℕ). length (fields_of segment) + n) (length-append table.entries (table.total ∷ []) ∙ ap (λ (n : ℕ). n + 1) size)
          ∙ ap (λ (n : ℕ). n + 33) (fields-width segment)
          ∙ places-some (kind_of segment) e)
      go false e = rw e (ap length (append-nil (fields_of segment)) ∙ fields-width segment ∙ places-none (kind_of segment) e)

-- ---- the answers
pub count-same : (counted : Result ℕ Refusal) → count_given counted ≡ counted_answer counted
count-same (Ok count) = refl
count-same (Err refusal) = refl

module _ (found : Result (Option Part) Refusal) (out : List Float) (answer : List ℕ) where
  -- an answer that is too short: nothing is written
  pub segment-short : length answer < 8 → SegmentGiven found out answer 255 out answer
  segment-short h = record { reported = given-short (segment_answer found (length out)) answer h; out_after = rw (lt-ltb (length answer) 8 h) }

  module _ {answer' : List ℕ} {returned : ℕ} (h : 8 ≤ length answer) where
    pub segment-put :
        (part : Part) (kind needed : ℕ) (out' : List Float)
        → found ≡ Ok (Some part)
        → kind ≡ kind_of part.segment
        → needed ≡ places_of (kind_of part.segment)
        → needed ≤ length out
        → out' ≡ written (numbers_of part.segment part.table) out
        → Given (accepted (kind ∷ needed ∷ [])) answer returned answer'
        → SegmentGiven found out answer returned out' answer'
    segment-put part kind needed out' told own count room put g =
        let fits = le-ltb (length out) (places_of (kind_of part.segment)) (subst (λ (n : ℕ). n ≤ length out) count room) in
        record {
          reported = given-same _ _ (rw (told, own, count, fits) refl) g;
          out_after = rw (le-ltb (length answer) 8 h, told, fits) put;
        }

    pub segment-no-room :
        (part : Part) (needed : ℕ)
        → found ≡ Ok (Some part)
        → needed ≡ places_of (kind_of part.segment)
        → length out < needed
        → Given (refused (NoRoom (One needed))) answer returned answer'
        → SegmentGiven found out answer returned out answer'
    segment-no-room part needed told count room g =
        let short = lt-ltb (length out) (places_of (kind_of part.segment)) (subst (λ (n : ℕ). length out < n) count room) in
        record {
          reported = given-same _ _ (rw (told, count, short) refl) g;
          out_after = rw (le-ltb (length answer) 8 h, told, short) refl;
        }

  -- any two allowed results are equal
  pub segment-given-unique :
      (r s : ℕ) (out₁ out₂ : List Float) (answer₁ answer₂ : List ℕ)
      → SegmentGiven found out answer r out₁ answer₁
      → SegmentGiven found out answer s out₂ answer₂
      → (r ≡ s) × (out₁ ≡ out₂) × (answer₁ ≡ answer₂)
  segment-given-unique r s out₁ out₂ answer₁ answer₂ p q = (p.reported.code ∙ sym q.reported.code, p.out_after ∙ sym q.out_after, p.reported.places ∙ sym q.reported.places)
