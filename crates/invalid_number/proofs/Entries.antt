-- What the entries answer: where it is 4 with k, an exponent without a digit has its e at k. And at the number the other way: such an exponent is 4.
-- Assumes nothing.
use Prim.Native.Nat.{ℕ, ◌≤◌}
use mathlib.Core.Path.{◌≡◌, refl, sym, ap, ◌∙◌}
use mathlib.Core.Bool.{Bool, true, false, cond, ◌||◌}
use mathlib.Core.List.{List, [], ◌∷◌}
use native.Mathlib.Omega.{arith}
use lib.Dec.{ltb}
use lib.ListN.{length, get_or}
use Rattle.answers.specs.Answers.{Answer, refused, accepted, number_of, carried_of, listed}
use Rattle.answers.specs.Report.{short, written}
use Rattle.std.specs.Prelude.{Result, Ok, Err}
use Rattle.answers.specs.declared.refusals.Refusal.{Refusal}
use Rattle.answers.specs.declared.refusals.Refusal.TheVariants.{TooLong, UnexpectedEnd, ExpectedNumber, InvalidNumber, ExpectedFlag, UnsupportedCommand, MissingMoveTo, NoRoom, BadList, RotationRange, NotFinite, BadPath, Range}
use Rattle.decimal.specs.Decimal.{number_of as read_number}
use Rattle.decimal.specs.declared.numbers.Read.{Read}
use Rattle.decimal_text.specs.Converts.{BareExponent}
use Rattle.decimal_text.proofs.Bare.{number-bare, bare-number}
use Rattle.commands.specs.Stored.{letters_of, numbers_of}
use Rattle.svg.specs.Texts.{Outcome, commands, refusal, commands_of, offsets_of, list_of}
use Rattle.svg.specs.Lists.{CommandList, counts_of}
use Rattle.svg.specs.Readings.{answer_of, roomed, read_path_of, read_into, answered, ReadPath}
use Rattle.svg.specs.declared.passes.Counts.{Counts}
use Rattle.c_answer.specs.Given.{Given}
use Rattle.kihavute.specs.Decimals.{read_given, number_given}
use Rattle.kihavute.proofs.NumberGiven.{text-fits}
use Rattle.kihavute_reading.specs.Reading.{PathRead}
use Rattle.invalid_number.specs.Cause.{Bare, Caused}
use Rattle.invalid_number.proofs.Steps.{OutcomeCaused, text-caused}

pub cond_either : {A : Type 0} (P : A → Type 0) (b : Bool) (x y : A) → P x → P y → P (cond b x y)
cond_either P true x y f g = f
cond_either P false x y f g = g

-- ---- an answer that is 4

-- only one refusal has this number
four_is : (x : Refusal) → number_of x ≡ 4 → (k : ℕ) × (x ≡ InvalidNumber k)
four_is (InvalidNumber k) e = (k, refl)
four_is (TooLong n) e = absurd (omega arith)
four_is (UnexpectedEnd n) e = absurd (omega arith)
four_is (ExpectedNumber n) e = absurd (omega arith)
four_is (ExpectedFlag n) e = absurd (omega arith)
four_is (UnsupportedCommand l n) e = absurd (omega arith)
four_is (MissingMoveTo n) e = absurd (omega arith)
four_is (NoRoom v) e = absurd (omega arith)
four_is (BadList n) e = absurd (omega arith)
four_is (RotationRange n) e = absurd (omega arith)
four_is (NotFinite n) e = absurd (omega arith)
four_is BadPath e = absurd (omega arith)
four_is (Range n) e = absurd (omega arith)

module _ (text : List ℕ) where
  -- an answer whose 4 carries the place of such an e, and nothing else
  abbrev pub AnswerCaused : Answer → Type 0
  AnswerCaused a = a.number ≡ 4 → (k : ℕ) × (a.values ≡ k ∷ []) × Bare text k

  pub refused-caused : (x : Refusal) → Caused text x → AnswerCaused (refused x)
  refused-caused x c e =
      let f = four_is x e in
      (f.0, ap (λ (y : Refusal). listed (carried_of y)) f.1, c f.0 f.1)

  pub accepted-caused : (values : List ℕ) → AnswerCaused (accepted values)
  accepted-caused values e = absurd (omega arith)

  -- ---- reading a text

  roomed-caused :
      (letters numbers offsets : ℕ) (marks : List ℕ) (outcome : Outcome) → OutcomeCaused text outcome → OutcomeCaused text (roomed letters numbers offsets marks outcome)
  roomed-caused letters numbers offsets marks (commands list) h =
      cond_either (OutcomeCaused text) (ltb letters (length (letters_of list)) || (ltb numbers (length (numbers_of list)) || ltb offsets (length marks))) _ _
      (λ k e. let z : ◌≡◌ {A = ℕ} 0 1 = cc in absurd (omega arith)) tt
  roomed-caused letters numbers offsets marks (refusal x) h = h

  pub long-caused : (n : ℕ) → Caused text (TooLong n)
  long-caused n k e = let z : ◌≡◌ {A = ℕ} 0 1 = cc in absurd (omega arith)

  path-caused : (before : CommandList) → OutcomeCaused text (read_into text before)
  unfolding read_path_of
  path-caused before =
      let letters = length before.letters in
      let numbers = length before.numbers in
      let offsets = length before.offsets in
      cond_either (OutcomeCaused text) (ltb 65536 (length text)) (refusal (TooLong (length text))) (roomed letters numbers offsets (offsets_of text) (commands_of text))
      (long-caused (length text)) (roomed-caused letters numbers offsets (offsets_of text) (commands_of text) (text-caused text))

  answered-caused : (outcome : Outcome) → OutcomeCaused text outcome → AnswerCaused (answered text outcome)
  answered-caused (commands list) h = accepted-caused (counts_of (list_of text list))
  answered-caused (refusal x) h = refused-caused x h

  -- any result that the contract of `svg::read_path` allows
  pub read-path-bare :
      {before after : CommandList} (r : Result Counts Refusal) → ReadPath text before r after → (answer_of r).number ≡ 4 → (k : ℕ) × ((answer_of r).values ≡ k ∷ []) × Bare text k
  read-path-bare {before} {after} r p e =
      let b = answered-caused (read_into text before) (path-caused before) (sym (ap (λ (a : Answer). a.number) p.answer) ∙ e) in
      (b.0, ap (λ (a : Answer). a.values) p.answer ∙ b.1, b.2)

  -- ---- through C

  -- a reported 4: the first place of the answer has the offset
  pub reported : (a : Answer) (before : List ℕ) (returned : ℕ) (after : List ℕ) → AnswerCaused a → Given a before returned after → returned ≡ 4 → (k : ℕ) × (get_or after 0 0 ≡ k) × Bare text k
  reported a before returned after c g e = go (short before) refl
    where
      go : (b : Bool) → short before ≡ b → (k : ℕ) × (get_or after 0 0 ≡ k) × Bare text k
      go true s = absurd (let z : returned ≡ 255 = g.code ∙ ap (λ (b : Bool). cond b 255 a.number) s in omega arith)
      go false s =
          let z : returned ≡ a.number = g.code ∙ ap (λ (b : Bool). cond b 255 a.number) s in
          let f = c (sym z ∙ e) in (
            f.0,
            ap (λ (l : List ℕ). get_or l 0 0) (g.places ∙ ap (λ (b : Bool). cond b before (written a.values before)) s ∙ ap (λ (v : List ℕ). written v before) f.1),
            f.2,
          )

  -- any result that the contract of `kihavute_read` allows
  pub kihavute-read-bare :
      {before after : CommandList} {answer answer' : List ℕ} (returned : ℕ) → PathRead text before answer returned after answer' → returned ≡ 4
      → (k : ℕ) × (get_or answer' 0 0 ≡ k) × Bare text k
  kihavute-read-bare {before} {after} {answer} {answer'} returned p e =
      reported (answered text (read_into text before)) answer returned answer' (answered-caused (read_into text before) (path-caused before)) p.reported e

  number-caused : AnswerCaused (number_given text)
  number-caused = cond_either AnswerCaused (ltb 65536 (length text)) (refused (TooLong (length text))) (read_given (read_number text 0)) (refused-caused (TooLong (length text)) (long-caused (length text))) (go (read_number text 0) refl)
    where
      go : (n : Result Read Refusal) → read_number text 0 ≡ n → AnswerCaused (read_given n)
      go (Ok v) q = accepted-caused _
      go (Err x) q = refused-caused x (λ k e. (0, number-bare text 0 k (q ∙ ap Err e)))

  -- and of `kihavute_number`
  pub kihavute-number-bare :
      {answer answer' : List ℕ} (returned : ℕ) → Given (number_given text) answer returned answer' → returned ≡ 4 → (k : ℕ) × (get_or answer' 0 0 ≡ k) × Bare text k
  kihavute-number-bare {answer} {answer'} returned g e = reported (number_given text) answer returned answer' number-caused g e

  -- the other way: an exponent without a digit in the number that a text starts with is 4 at its e
  pub bare-number-given : (k : ℕ) → length text ≤ 65536 → BareExponent text 0 k → number_given text ≡ refused (InvalidNumber k)
  bare-number-given k fits b = sym (text-fits text fits) ∙ ap read_given (bare-number text 0 k b)
