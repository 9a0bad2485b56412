-- The answer of `check_commands` is settled: what answers alike is alike. Assumes nothing.
use mathlib.Core.Path.{◌≡◌, refl, sym, ap, ◌∙◌}
use mathlib.Core.List.{[]}
use Rattle.std.specs.Prelude.{Result, Ok, Err}
use Rattle.answers.specs.Answers.{Answer}
use Rattle.answers.specs.declared.refusals.Refusal.{Refusal}
use Rattle.answers.proofs.Settled.{refused-settled, refused-not-accepted}
use Rattle.commands.specs.Checked.{answer_of}

alike : (r s : Result Unit Refusal) → answer_of r ≡ answer_of s → r ≡ s
alike (Ok x) (Ok y) e = refl
alike (Ok x) (Err y) e = absurd (refused-not-accepted y [] (sym e))
alike (Err x) (Ok y) e = absurd (refused-not-accepted x [] e)
alike (Err x) (Err y) e = ap Err (refused-settled x y e)

pub check-commands-unique : (r s : Result Unit Refusal) (answer : Answer) → answer_of r ≡ answer → answer_of s ≡ answer → r ≡ s
check-commands-unique r s answer p q = alike r s (p ∙ sym q)
