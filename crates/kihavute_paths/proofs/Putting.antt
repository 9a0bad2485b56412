-- Outputs through C: a short answer leaves all as it was, any other gives what the entry below gave. Assumes nothing.
use Prim.Native.Nat.{ℕ, ◌≤◌, ◌<◌}
use mathlib.Core.Path.{◌≡◌, refl, sym, ap, ◌∙◌}
use mathlib.Core.List.{List, [], ◌∷◌}
use borrow.Author.Tests.{lt-ltb, le-ltb}
use lib.ListN.{length}
use lib.Ieee.{Float}
use Rattle.answers.specs.Answers.{Answer, accepted}
use Rattle.answers.specs.Report.{written}
use Rattle.floats.specs.Floats.{bits_of}
use Rattle.resample.specs.Resample.{Outcome, answered, written_by, resample_of, Resample}
use Rattle.morph.specs.Evaluate.{evaluate_of, Evaluate}
use Rattle.morph.specs.Morph.{Outcomes, first_written, second_written, morph_of, Morph}
use Rattle.morph.specs.Morph as Morphing
use Rattle.morph.specs.Evaluate as Evaluating
use Rattle.resample.specs.Resample as Resampling
use Rattle.answers.specs.declared.refusals.Refusal.{Refusal}
use Rattle.std.specs.Prelude.{Result}
use Rattle.c_answer.specs.Counts.{count_given}
use Rattle.morph.specs.declared.morphing.Morphed.{Morphed}
use Rattle.c_answer.specs.Given.{Given}
use Rattle.c_answer.proofs.Giving.{given-same, given-short, count-as}
use Rattle.kihavute_paths.specs.Morphs.{Put, PutTwo, morphed_given}

-- ---- a short answer
pub put-short : (outcome : Outcome) (before : List Float) (answer : List ℕ) → length answer < 8 → Put outcome before answer 255 before answer
put-short outcome before answer h = record { given = given-short (answered outcome) answer h; output = rw (lt-ltb (length answer) 8 h) }

pub put-two-short : (outcome : Outcomes) (one other : List Float) (answer : List ℕ) → length answer < 8 → PutTwo outcome one other answer 255 one other answer
put-two-short outcome one other answer h =
    record { given = given-short (Morphing.answered outcome) answer h; first = rw (lt-ltb (length answer) 8 h); second = rw (lt-ltb (length answer) 8 h) }

-- ---- any other
module _ (answer answer' : List ℕ) (returned : ℕ) (long : 8 ≤ length answer) where
  pub put-resampled :
      (points : List Float) (count : ℕ) (before after : List Float) (r : Result ℕ Refusal) → Resample points count before r after → Given (count_given r) answer returned answer'
      → Put (resample_of points count (length before)) before answer returned after answer'
  put-resampled points count before after r p g =
      record { given = given-same (count_given r) (answered (resample_of points count (length before))) (count-as Resampling.answer_of (λ count. refl) (λ refusal. refl) r ∙ p.answer) g; output = rw (le-ltb (length answer) 8 long) p.output }

  pub put-evaluated :
      (from to : List Float) (t : Float) (before after : List Float) (r : Result ℕ Refusal) → Evaluate from to t before r after → Given (count_given r) answer returned answer'
      → Put (evaluate_of from to t (length before)) before answer returned after answer'
  put-evaluated from to t before after r p g =
      record { given = given-same (count_given r) (answered (evaluate_of from to t (length before))) (count-as Evaluating.answer_of (λ count. refl) (λ refusal. refl) r ∙ p.answer) g; output = rw (le-ltb (length answer) 8 long) p.output }

  pub put-morphed :
      (from to : List Float) (count : ℕ) (one other one' other' : List Float) (r : Result Morphed Refusal) → Morph from to count one other r one' other' → Given (morphed_given r) answer returned answer'
      → PutTwo (morph_of from to count (length one) (length other)) one other answer returned one' other' answer'
  put-morphed from to count one other one' other' r p g =
      record {
        given = given-same (morphed_given r) (Morphing.answered (morph_of from to count (length one) (length other))) p.answer g;
        first = rw (le-ltb (length answer) 8 long) p.from_shape;
        second = rw (le-ltb (length answer) 8 long) p.to_shape;
      }

-- ---- any two allowed results are equal
pub shape-given-unique :
    {outcome : Outcome} {before : List Float} {answer : List ℕ} {r s : ℕ} {after other : List Float} {answer₁ answer₂ : List ℕ}
    → Put outcome before answer r after answer₁
    → Put outcome before answer s other answer₂
    → (r ≡ s) × (after ≡ other) × (answer₁ ≡ answer₂)
shape-given-unique p q = (p.given.code ∙ sym q.given.code, p.output ∙ sym q.output, p.given.places ∙ sym q.given.places)

pub shapes-given-unique :
    {outcome : Outcomes} {one other : List Float} {answer : List ℕ} {r s : ℕ} {one₁ one₂ other₁ other₂ : List Float} {answer₁ answer₂ : List ℕ}
    → PutTwo outcome one other answer r one₁ other₁ answer₁
    → PutTwo outcome one other answer s one₂ other₂ answer₂
    → (r ≡ s) × (one₁ ≡ one₂) × (other₁ ≡ other₂) × (answer₁ ≡ answer₂)
shapes-given-unique p q = (
  p.given.code ∙ sym q.given.code,
  p.first ∙ sym q.first,
  p.second ∙ sym q.second,
  p.given.places ∙ sym q.given.places,
)
