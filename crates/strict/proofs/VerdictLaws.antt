-- Any two verdicts that strict reading may give are equal, and a yes is given exactly where a derivation of the whole text exists. Assumes nothing.
use Prim.Native.Nat.{ℕ, ◌≤◌, ◌<◌}
use mathlib.Core.Path.{◌≡◌, refl, sym, ap, subst, ◌∙◌}
use mathlib.Core.List.{List, [], ◌∷◌}
use native.Mathlib.Omega.{arith}
use mathlib.Core.Bool.{Bool, true, false}
use lib.Dec.{lit<}
use Rattle.std.specs.Prelude.{Result, Ok, Err}
use lib.ListN.{length, get_or}
use Rattle.answers.specs.Answers.{Answer, refused, accepted}
use Rattle.answers.specs.Answers
use Rattle.answers.specs.declared.refusals.Refusal.{Refusal}
use Rattle.answers.specs.declared.refusals.Refusal.TheVariants.{TooLong, UnexpectedEnd, ExpectedNumber, InvalidNumber, ExpectedFlag, UnsupportedCommand, MissingMoveTo, NoRoom, BadList, RotationRange, NotFinite, BadPath, Range}
use Rattle.answers.proofs.Settled.{refusal-settled}
use Rattle.scan.proofs.ByteLaws.{clash}
use Rattle.strict_grammar.specs.Grammar.{Matches}
use Rattle.strict_grammar.specs.declared.Edition.{Edition}
use Rattle.strict_grammar.specs.declared.Edition.TheVariants.{Svg11, Svg2}
use Rattle.strict.specs.Verdicts.{Judged, yes, no, too_long, JudgedBy, known, unknown, number_of, answer_of, most_bytes}

judged-settled : (edition : Edition) (text : List ℕ) (a b : Answer) → Judged edition text a → Judged edition text b → a ≡ b
judged-settled edition text a b (yes _ _ e) (yes _ _ f) = e ∙ sym f
judged-settled edition text a b (yes _ m e) (no _ n f) = absurd (n m)
judged-settled edition text a b (yes h _ e) (too_long g f) = absurd (omega arith)
judged-settled edition text a b (no _ n e) (yes _ m f) = absurd (n m)
judged-settled edition text a b (no _ _ e) (no _ _ f) = e ∙ sym f
judged-settled edition text a b (no h _ e) (too_long g f) = absurd (omega arith)
judged-settled edition text a b (too_long g e) (yes h _ f) = absurd (omega arith)
judged-settled edition text a b (too_long g e) (no h _ f) = absurd (omega arith)
judged-settled edition text a b (too_long _ e) (too_long _ f) = e ∙ sym f

-- the editions have numbers of their own
number-tells : (a b : Edition) (n : ℕ) → n ≡ number_of a → n ≡ number_of b → a ≡ b
number-tells Svg11 Svg11 n e f = refl
number-tells Svg11 Svg2 n e f = absurd (omega arith)
number-tells Svg2 Svg11 n e f = absurd (omega arith)
number-tells Svg2 Svg2 n e f = refl

pub unnumbered : (n : ℕ) → (n ≡ 1 → ⊥) → (n ≡ 2 → ⊥) → (edition : Edition) → n ≡ number_of edition → ⊥
unnumbered n a b Svg11 e = a e
unnumbered n a b Svg2 e = b e

pub answer-settled : (number : ℕ) (text : List ℕ) (a b : Answer) → JudgedBy number text a → JudgedBy number text b → a ≡ b
answer-settled number text a b (known x e p) (known y f q) =
    judged-settled x text a b p (subst (λ (edition : Edition). Judged edition text b) (sym (number-tells x y number e f)) q)
answer-settled number text a b (known x e p) (unknown n f) = absurd (n x e)
answer-settled number text a b (unknown n e) (known y f q) = absurd (n y f)
answer-settled number text a b (unknown n e) (unknown m f) = e ∙ sym f

-- ---- from answers to verdicts

-- every refusal has a number of its own, and none is that of an accepted call
numbered : (r : Refusal) → 0 < Answers.number_of r
numbered (TooLong size) = lit< tt
numbered (UnexpectedEnd at) = lit< tt
numbered (ExpectedNumber at) = lit< tt
numbered (InvalidNumber at) = lit< tt
numbered (ExpectedFlag at) = lit< tt
numbered (UnsupportedCommand letter at) = lit< tt
numbered (MissingMoveTo at) = lit< tt
numbered (NoRoom needs) = lit< tt
numbered (BadList command) = lit< tt
numbered (RotationRange segment) = lit< tt
numbered (NotFinite place) = lit< tt
numbered BadPath = lit< tt
numbered (Range found) = lit< tt

refused-apart : (r : Refusal) (values : List ℕ) → refused r ≡ accepted values → ⊥
refused-apart r values e = let n : Answers.number_of r ≡ 0 = ap (λ (a : Answer). a.number) e in let h = numbered r in omega arith

first : Answer → ℕ
first a = get_or a.values 0 0

yes-apart : accepted (1 ∷ []) ≡ accepted (0 ∷ []) → ⊥
unfolding first
yes-apart e = let n : ◌≡◌ {A = ℕ} 1 0 = ap first e in omega arith

-- an answer by a test of the grammar is a judgement
pub judged-by-test : (edition : Edition) (text : List ℕ) (b : Bool) → length text ≤ most_bytes → (b ≡ true → Matches edition text) × (Matches edition text → b ≡ true)
    → Judged edition text (answer_of (Ok b))
judged-by-test edition text true short m = yes short (m.0 refl) refl
judged-by-test edition text false short m = no short (λ d. clash (m.1 d) refl) refl

-- a verdict is settled by its answer
pub answer-tells : (r s : Result Bool Refusal) → answer_of r ≡ answer_of s → r ≡ s
answer-tells (Ok true) (Ok true) e = refl
answer-tells (Ok true) (Ok false) e = absurd (yes-apart e)
answer-tells (Ok true) (Err s) e = absurd (refused-apart s _ (sym e))
answer-tells (Ok false) (Ok true) e = absurd (yes-apart (sym e))
answer-tells (Ok false) (Ok false) e = refl
answer-tells (Ok false) (Err s) e = absurd (refused-apart s _ (sym e))
answer-tells (Err r) (Ok true) e = absurd (refused-apart r _ e)
answer-tells (Err r) (Ok false) e = absurd (refused-apart r _ e)
answer-tells (Err r) (Err s) e =
    ap Err (refusal-settled r s (ap (λ (a : Answer). a.number) e) (ap (λ (a : Answer). a.values) e))

-- any two verdicts that the contract allows are equal
pub verdict-settled : (number : ℕ) (text : List ℕ) (r s : Result Bool Refusal) → JudgedBy number text (answer_of r) → JudgedBy number text (answer_of s) → r ≡ s
verdict-settled number text r s p q = answer-tells r s (answer-settled number text (answer_of r) (answer_of s) p q)

-- under a known edition the verdict on a text that is not too long is yes exactly where a derivation of the whole text exists
module _ (edition : Edition) (text : List ℕ) (r : Result Bool Refusal) (short : length text ≤ most_bytes) (judged : JudgedBy (number_of edition) text (answer_of r)) where
  pub yes-derives : r ≡ Ok true → Matches edition text
  yes-derives e = go judged
    where
      go : JudgedBy (number_of edition) text (answer_of r) → Matches edition text
      go (unknown n _) = absurd (n edition refl)
      go (known x n p) = subst (λ (y : Edition). Matches y text) (number-tells x edition (number_of edition) n refl) (matched p)
        where
          matched : Judged x text (answer_of r) → Matches x text
          matched (yes _ m _) = m
          matched (no _ _ f) = absurd (yes-apart (sym (ap answer_of e) ∙ f))
          matched (too_long h _) = absurd (omega arith)

  pub derives-yes : Matches edition text → r ≡ Ok true
  derives-yes m = verdict-settled (number_of edition) text r (Ok true) judged (known edition refl (yes short m refl))
