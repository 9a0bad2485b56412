-- The one cause of 4 (document 01, "The answers"; change request L6). Definitions only.
use Rattle.std.specs.Prelude.{ℕ, ◌≡◌, List}
use Rattle.answers.specs.declared.refusals.Refusal.{Refusal}
use Rattle.answers.specs.declared.refusals.Refusal.TheVariants.{InvalidNumber}
use Rattle.decimal_text.specs.Converts.{BareExponent}

-- "exponent without digit (offset of the e)": somewhere in the text a number's digits end right before the e at k, and no digit follows
abbrev pub Bare : List ℕ → ℕ → Type 0
Bare text k = (at : ℕ) × BareExponent text at k

-- a refusal of a text: where it is 4, it carries the place of such an e
abbrev pub Caused : List ℕ → Refusal → Type 0
Caused text reason = (k : ℕ) → reason ≡ InvalidNumber k → Bare text k
