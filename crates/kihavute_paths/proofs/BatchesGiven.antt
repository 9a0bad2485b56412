-- What a batch gives, by the cases of its answer and of the lent answer's length. Assumes nothing.
use Prim.Native.Nat.{ℕ, ◌≤◌, ◌<◌}
use mathlib.Core.Path.{◌≡◌, refl, sym, ap, ◌∙◌}
use mathlib.Core.List.{List, [], ◌∷◌}
use borrow.Author.Tests.{lt-ltb, le-ltb}
use lib.Ieee.{Float}
use lib.ListN.{length}
use Rattle.answers.specs.declared.refusals.Refusal.{Refusal}
use Rattle.answers.specs.Answers.{accepted, refused}
use Rattle.path_stored.specs.Buffers.{Buffers}
use Rattle.path_batch.specs.Batches.{batch_answer, Places, Flights}
use Rattle.std.specs.Prelude.{Result}
use Rattle.c_answer.specs.Counts.{count_given}
use Rattle.c_answer.specs.Given.{Given}
use Rattle.c_answer.proofs.Giving.{given-same, count-as}
use Rattle.kihavute_paths.specs.Batches.{PlacesGiven, FlightsGiven}

module _ (b : Buffers) (progresses : List Float) (answer : List ℕ) where
  module _ (segments : List ℕ) (raws : List Float) where
    -- an answer that is too short: nothing is looked up
    pub no-places : length answer < 8 → PlacesGiven b progresses segments raws answer 255 segments raws answer
    no-places h =
        let s = lt-ltb (length answer) 8 h in
        record { reported = record { code = rw s; places = rw s }; segments_after = rw s; raws_after = rw s }

    -- else the entry's own promise, reported
    pub places-reported :
        {segments' : List ℕ} {raws' : List Float} {answer' : List ℕ} {returned : ℕ} (batch : Result ℕ Refusal)
        → 8 ≤ length answer
        → Places b progresses segments raws batch segments' raws'
        → Given (count_given batch) answer returned answer'
        → PlacesGiven b progresses segments raws answer returned segments' raws' answer'
    places-reported batch h p g =
        let s = le-ltb (length answer) 8 h in
        record { reported = given-same _ _ (count-as batch_answer (λ count. refl) (λ refusal. refl) batch ∙ ap batch_answer p.answer) g; segments_after = rw s p.segments_after; raws_after = rw s p.raws_after }

    -- any two allowed results are equal
    pub places-given-unique :
        (r s : ℕ) (segments₁ segments₂ : List ℕ) (raws₁ raws₂ : List Float) (answer₁ answer₂ : List ℕ)
        → PlacesGiven b progresses segments raws answer r segments₁ raws₁ answer₁
        → PlacesGiven b progresses segments raws answer s segments₂ raws₂ answer₂
        → (r ≡ s) × (segments₁ ≡ segments₂) × (raws₁ ≡ raws₂) × (answer₁ ≡ answer₂)
    places-given-unique r s segments₁ segments₂ raws₁ raws₂ answer₁ answer₂ p q = (
      p.reported.code ∙ sym q.reported.code,
      p.segments_after ∙ sym q.segments_after,
      p.raws_after ∙ sym q.raws_after,
      p.reported.places ∙ sym q.reported.places,
    )

  module _ (segments : List ℕ) (raws out : List Float) where
    pub no-flights : length answer < 8 → FlightsGiven b progresses segments raws out answer 255 segments raws out answer
    no-flights h =
        let s = lt-ltb (length answer) 8 h in
        record { reported = record { code = rw s; places = rw s }; segments_after = rw s; raws_after = rw s; out_after = rw s }

    pub flights-reported :
        {segments' : List ℕ} {raws' out' : List Float} {answer' : List ℕ} {returned : ℕ} (batch : Result ℕ Refusal)
        → 8 ≤ length answer
        → Flights b progresses segments raws out batch segments' raws' out'
        → Given (count_given batch) answer returned answer'
        → FlightsGiven b progresses segments raws out answer returned segments' raws' out' answer'
    flights-reported batch h p g =
        let s = le-ltb (length answer) 8 h in
        record { reported = given-same _ _ (count-as batch_answer (λ count. refl) (λ refusal. refl) batch ∙ ap batch_answer p.answer) g; segments_after = rw s p.segments_after; raws_after = rw s p.raws_after; out_after = rw s p.out_after }

    pub flights-given-unique :
        (r s : ℕ) (segments₁ segments₂ : List ℕ) (raws₁ raws₂ out₁ out₂ : List Float) (answer₁ answer₂ : List ℕ)
        → FlightsGiven b progresses segments raws out answer r segments₁ raws₁ out₁ answer₁
        → FlightsGiven b progresses segments raws out answer s segments₂ raws₂ out₂ answer₂
        → (r ≡ s) × (segments₁ ≡ segments₂) × (raws₁ ≡ raws₂) × (out₁ ≡ out₂) × (answer₁ ≡ answer₂)
    flights-given-unique r s segments₁ segments₂ raws₁ raws₂ out₁ out₂ answer₁ answer₂ p q = (
      p.reported.code ∙ sym q.reported.code,
      p.segments_after ∙ sym q.segments_after,
      p.raws_after ∙ sym q.raws_after,
      p.out_after ∙ sym q.out_after,
      p.reported.places ∙ sym q.reported.places,
    )
