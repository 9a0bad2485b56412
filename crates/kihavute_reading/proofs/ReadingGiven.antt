-- What the permissive reader and the check of a list give, by the cases of their answers and of the lent answer's length. Assumes nothing.
use Prim.Native.Nat.{ℕ, ◌≤◌, ◌<◌}
use mathlib.Core.Path.{◌≡◌, sym, ◌∙◌}
use mathlib.Core.List.{List}
use borrow.Author.Tests.{lt-ltb, le-ltb}
use lib.ListN.{length}
use Rattle.answers.specs.declared.refusals.Refusal.{Refusal}
use Rattle.std.specs.Prelude.{Result}
use Rattle.svg.specs.Lists.{CommandList}
use Rattle.svg.specs.declared.passes.Counts.{Counts}
use Rattle.svg.specs.Readings.{ReadPath, answer_of}
use Rattle.c_answer.specs.Given.{Given}
use Rattle.c_answer.proofs.Giving.{given-same}
use Rattle.kihavute_reading.specs.Reading.{PathRead}

module _ (text : List ℕ) (before : CommandList) (answer : List ℕ) where
  -- an answer that is too short: nothing is read
  pub not-read : length answer < 8 → PathRead text before answer 255 before answer
  not-read h =
      let s = lt-ltb (length answer) 8 h in
      record { reported = record { code = rw s; places = rw s }; memory = rw s }

  -- else the reader's own promise, reported
  pub read-reported :
      {after : CommandList} {answer' : List ℕ} {returned : ℕ} (reading : Result Counts Refusal)
      → 8 ≤ length answer
      → ReadPath text before reading after
      → Given (answer_of reading) answer returned answer'
      → PathRead text before answer returned after answer'
  read-reported reading h p g =
      let s = le-ltb (length answer) 8 h in
      record { reported = given-same _ _ p.answer g; memory = rw s p.memory }

  -- any two allowed results are equal, be they of one of the two entries or one of each
  pub path-read-unique :
      (r s : ℕ) (l₁ l₂ : CommandList) (answer₁ answer₂ : List ℕ)
      → PathRead text before answer r l₁ answer₁
      → PathRead text before answer s l₂ answer₂
      → (r ≡ s) × (l₁ ≡ l₂) × (answer₁ ≡ answer₂)
  path-read-unique r s l₁ l₂ answer₁ answer₂ p q =
      (p.reported.code ∙ sym q.reported.code, p.memory ∙ sym q.memory, p.reported.places ∙ sym q.reported.places)
