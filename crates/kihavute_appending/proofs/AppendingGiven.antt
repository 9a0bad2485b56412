-- What appending gives, by the cases of its answer and of the lent answer's length. Assumes nothing.
use Prim.Native.Nat.{ℕ, ◌+◌, ◌≤◌, ◌<◌}
use mathlib.Core.Path.{◌≡◌, refl, sym, ap, ◌∙◌, subst}
use mathlib.Core.Bool.{true, false}
use Rattle.std.specs.Prelude.{Result}
use mathlib.Core.List.{List}
use native.Mathlib.Omega.{arith}
use borrow.Author.Tests.{lt-ltb, le-ltb}
use lib.Dec.{ltb, eqb, ltb→lt, eqb→eq}
use lib.Ieee.{Float}
use lib.Ieee.Fits.{and_l, and_r}
use lib.ListN.{length}
use Rattle.answers.specs.declared.refusals.Refusal.{Refusal}
use Rattle.answers.specs.declared.refusals.Refusal.TheVariants.{BadPath}
use Rattle.answers.specs.declared.refusals.Values.{Values}
use Rattle.answers.specs.Answers.{refused}
use Rattle.floats.proofs.Tests.{passed}
use Rattle.path_segment.specs.declared.segments.PathSegment.{PathSegment}
use Rattle.path_segment.specs.Segments.{width_of, segment_of}
use Rattle.path_stored.specs.Buffers.{Buffers}
use Rattle.path_append.specs.Appending.{appended_of, answer_of, afterwards, Append}
use Rattle.c_answer.specs.Given.{Given}
use Rattle.c_answer.proofs.Giving.{given-same, given-short}
use Rattle.kihavute_appending.specs.Appending.{is_segment, pushed_of, Appending, Appends, Pushes}

-- ---- a segment by its kind and its numbers
module _ (kind : ℕ) (numbers : List Float) where
  -- what passes is read as a segment
  pub segment-known : is_segment kind numbers ≡ true → (kind < 5) × (0 + width_of kind ≤ length numbers)
  segment-known e =
      let count = eqb→eq (length numbers) (width_of kind) (and_r (ltb kind 5) (eqb (length numbers) (width_of kind)) (passed e)) in
      (ltb→lt kind 5 (and_l (ltb kind 5) (eqb (length numbers) (width_of kind)) (passed e)), omega arith)

module _ (count command : ℕ) (b : Buffers) (answer : List ℕ) where
  -- an answer that is too short: nothing is appended
  pub not-appended : (appended : Result Values Refusal) (segment : PathSegment) → length answer < 8 → Appending appended segment count command b answer 255 b answer
  not-appended appended segment h = record { reported = given-short (answer_of appended) answer h; after = rw (lt-ltb (length answer) 8 h) }

  push-is : (kind : ℕ) (numbers : List Float) → is_segment kind numbers ≡ true → appended_of b count command (segment_of kind numbers) ≡ pushed_of kind numbers count command b
  unfolding pushed_of
  push-is kind numbers e = rw e

  module _ {b' : Buffers} {answer' : List ℕ} {returned : ℕ} (h : 8 ≤ length answer) where
    -- else the entry's own promise, reported
    pub appends-reported : (segment : PathSegment) (r : Result Values Refusal) → Append b count command segment r b' → Given (answer_of r) answer returned answer' → Appends segment count command b answer returned b' answer'
    appends-reported segment r p g =
        record {
          reported = given-same _ _ (ap answer_of p.answer) g;
          after = rw (le-ltb (length answer) 8 h) (p.after ∙ ap (λ (a : Result Values Refusal). afterwards a b count command segment) p.answer);
        }

    module _ (kind : ℕ) (numbers : List Float) where
      pub pushes-reported :
          (segment : PathSegment) (r : Result Values Refusal)
          → is_segment kind numbers ≡ true
          → segment ≡ segment_of kind numbers
          → Append b count command segment r b'
          → Given (answer_of r) answer returned answer'
          → Pushes kind numbers count command b answer returned b' answer'
      pushes-reported segment r e same p g =
          subst (λ (a : Result Values Refusal). Appending a (segment_of kind numbers) count command b answer returned b' answer') (push-is kind numbers e)
          (appends-reported (segment_of kind numbers) r (subst (λ (s : PathSegment). Append b count command s r b') same p) g)

  -- what is no segment
  pub push-refused :
      {answer' : List ℕ} {returned : ℕ} (kind : ℕ) (numbers : List Float)
      → is_segment kind numbers ≡ false
      → 8 ≤ length answer
      → Given (refused BadPath) answer returned answer'
      → Pushes kind numbers count command b answer returned b answer'
  unfolding pushed_of
  push-refused kind numbers e h g = record { reported = given-same _ _ (rw e refl) g; after = rw (le-ltb (length answer) 8 h, e) refl }

  -- any two allowed results are equal
  pub appending-unique :
      (appended : Result Values Refusal) (segment : PathSegment) (r s : ℕ) (b₁ b₂ : Buffers) (answer₁ answer₂ : List ℕ)
      → Appending appended segment count command b answer r b₁ answer₁
      → Appending appended segment count command b answer s b₂ answer₂
      → (r ≡ s) × (b₁ ≡ b₂) × (answer₁ ≡ answer₂)
  appending-unique appended segment r s b₁ b₂ answer₁ answer₂ p q =
      (p.reported.code ∙ sym q.reported.code, p.after ∙ sym q.after, p.reported.places ∙ sym q.reported.places)
