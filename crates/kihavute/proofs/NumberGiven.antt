-- What a decimal number gives, by the cases of what was read and of the text's length. Assumes nothing.
use Prim.Native.Nat.{ℕ, ◌≤◌, ◌<◌}
use mathlib.Core.Path.{◌≡◌, refl, sym, ap, subst}
use mathlib.Core.Bool.{Bool, true, false, cond}
use mathlib.Core.List.{List}
use borrow.Author.Tests.{lt-ltb, le-ltb}
use lib.Dec.{ltb}
use lib.ListN.{length, get_or}
use Rattle.answers.specs.declared.refusals.Refusal.{Refusal}
use Rattle.answers.specs.declared.refusals.Refusal.TheVariants.{TooLong}
use Rattle.answers.specs.Answers.{refused}
use Rattle.decimal.specs.declared.numbers.Read.{Read}
use Rattle.std.specs.Prelude.{Result, Ok, Err}
use Rattle.decimal.specs.Decimal.{number_of}
use Rattle.decimal_nearest.specs.Nearest.{ValueAt}
use Rattle.decimal_nearest.proofs.Texts.{number-nearest}
use Rattle.decimal_nearest.proofs.Parts.{value-exact}
use Rattle.c_answer.specs.Given.{Given}
use Rattle.c_answer.proofs.Giving.{given-whole, given-accepted}
use Rattle.kihavute.specs.Decimals.{read_given, number_given, NumberKept, NumberKeptBy}

pub text-long : (text : List ℕ) → 65536 < length text → refused (TooLong (length text)) ≡ number_given text
text-long text long = rw (lt-ltb 65536 (length text) long)

pub text-fits : (text : List ℕ) → length text ≤ 65536 → read_given (number_of text 0) ≡ number_given text
text-fits text fits = rw (le-ltb 65536 (length text) fits)

-- what a call that returns 0 leaves in its answer is the nearest value's
pub number-kept : {before after : List ℕ} {returned : ℕ} (text : List ℕ) → Given (number_given text) before returned after → NumberKeptBy text returned after
number-kept {before} {after} {returned} text given zero = by_length (ltb 65536 (length text)) given
  where
    by_read : (read : Result Read Refusal) → number_of text 0 ≡ read → Given (read_given read) before returned after → NumberKept text after
    by_read (Ok read) e g =
        let stands = (given-whole (read_given (Ok read)) g zero).1 in
        let own : ValueAt text 0 read.value (get_or after 1 0) = subst (ValueAt text 0 read.value) (sym (ap (λ (l : List ℕ). get_or l 1 0) stands)) (number-nearest text 0 read.value read.end e) in
        record { value = read.value; bits = ap (λ (l : List ℕ). get_or l 0 0) stands; nearest = own; exact = value-exact own }
    by_read (Err refusal) e g = absurd (given-accepted refusal g zero)

    by_length : (long : Bool) → Given (cond long (refused (TooLong (length text))) (read_given (number_of text 0))) before returned after → NumberKept text after
    by_length true g = absurd (given-accepted (TooLong (length text)) g zero)
    by_length false g = by_read (number_of text 0) refl g
