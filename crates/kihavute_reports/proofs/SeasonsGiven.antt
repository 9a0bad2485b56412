-- What a season gives, by the length of the answer. Assumes nothing.
use Prim.Native.Nat.{ℕ, ◌≤◌, ◌<◌}
use mathlib.Core.Path.{◌≡◌, refl, sym, ap, ◌∙◌}
use mathlib.Core.List.{List}
use borrow.Author.Tests.{lt-ltb, le-ltb}
use lib.ListN.{length}
use Rattle.std.specs.Prelude.{Result}
use Rattle.answers.specs.declared.refusals.Refusal.{Refusal}
use Rattle.season_feed.specs.Telling.{told_of, Told, sheet_answer}
use Rattle.c_answer.specs.Counts.{count_given}
use Rattle.c_answer.specs.Given.{Given}
use Rattle.c_answer.proofs.Giving.{given-same, given-short, count-as}
use Rattle.kihavute_reports.specs.Seasons.{SeasonGiven}

module _ (input output answer : List ℕ) where
  -- an answer that is too short: nothing is read
  pub no-season : length answer < 8 → SeasonGiven input output answer 255 output answer
  no-season h = record { given = given-short (sheet_answer (told_of input (length output))) answer h; bytes = rw (lt-ltb (length answer) 8 h) }

  pub season-reported :
      {output' answer' : List ℕ} {returned : ℕ} (sheet : Result ℕ Refusal)
      → 8 ≤ length answer
      → Told input output sheet output'
      → Given (count_given sheet) answer returned answer'
      → SeasonGiven input output answer returned output' answer'
  season-reported sheet h p g = record { given = given-same _ _ (count-as sheet_answer (λ count. refl) (λ refusal. refl) sheet ∙ ap sheet_answer p.answer) g; bytes = rw (le-ltb (length answer) 8 h) p.bytes }

  -- any two allowed results are equal
  pub season-given-unique : (r s : ℕ) (output₁ output₂ answer₁ answer₂ : List ℕ) → SeasonGiven input output answer r output₁ answer₁
      → SeasonGiven input output answer s output₂ answer₂ → (r ≡ s) × (output₁ ≡ output₂) × (answer₁ ≡ answer₂)
  season-given-unique r s output₁ output₂ answer₁ answer₂ p q = (p.given.code ∙ sym q.given.code, p.bytes ∙ sym q.bytes, p.given.places ∙ sym q.given.places)
