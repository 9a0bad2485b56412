-- The answer of strict reading (document 01, "Strict reading" and "The answers"; document 02, L10). Definitions only.
use Rattle.std.specs.Prelude.{ℕ, ◌≤◌, ◌<◌, ◌≡◌, Bool, true, false, List, [], ◌∷◌, length, Result, Ok, Err}
use Rattle.answers.specs.Answers.{Answer, refused, accepted}
use Rattle.answers.specs.declared.refusals.Refusal.{Refusal}
use Rattle.answers.specs.declared.refusals.Refusal.TheVariants.{TooLong, Range}
use Rattle.strict_grammar.specs.Grammar.{Matches}
use Rattle.strict_grammar.specs.declared.Edition.{Edition}
use Rattle.strict_grammar.specs.declared.Edition.TheVariants.{Svg11, Svg2}

-- "text above 65,536 bytes"
abbrev pub most_bytes : ℕ
most_bytes = 65536

-- "A yes or no": 1 and 0
abbrev pub answer_of : Result Bool Refusal → Answer
answer_of (Ok true) = accepted (1 ∷ [])
answer_of (Ok false) = accepted (0 ∷ [])
answer_of (Err refusal) = refused refusal

-- "A yes or no: the text matches the 1.1 grammar", or SVG 2's; "Strict reading: 1 only.", which carries "its length". A yes holds a derivation and a no its refutation,
-- so that two allowed verdicts are equal without deciding the grammar.
pub data Judged (edition : Edition) (text : List ℕ) : Answer → Type 0 where
  yes : {answer : Answer} → length text ≤ most_bytes → Matches edition text → answer ≡ accepted (1 ∷ []) → Judged edition text answer
  no : {answer : Answer} → length text ≤ most_bytes → (Matches edition text → ⊥) → answer ≡ accepted (0 ∷ []) → Judged edition text answer
  too_long : {answer : Answer} → most_bytes < length text → answer ≡ refused (TooLong (length text)) → Judged edition text answer

-- "either edition, named by the caller": by a number
abbrev pub number_of : Edition → ℕ
number_of Svg11 = 1
number_of Svg2 = 2

-- "Refusals: Range for an unknown edition, before TooLong.", which carries "the number"
pub data JudgedBy (number : ℕ) (text : List ℕ) : Answer → Type 0 where
  known : {answer : Answer} (edition : Edition) → number ≡ number_of edition → Judged edition text answer → JudgedBy number text answer
  unknown : {answer : Answer} → ((edition : Edition) → number ≡ number_of edition → ⊥) → answer ≡ refused (Range number) → JudgedBy number text answer
