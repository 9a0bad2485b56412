-- What a grammar is made of, over the places of one text. A production is a `Span`: `P i j` says that the bytes of the text from place i up to
-- place j are a word of P. The combinators are those of the published grammars: a byte, one after the other, or, ?, *, +. Definitions only.
use Rattle.std.specs.Prelude.{ℕ, ◌+◌, ◌≤◌, ◌≡◌, true, List, ◌⊎◌}
use Rattle.scan.specs.Runs.{stands}
use Rattle.strict_grammar.specs.declared.Edition.{Edition}
use Rattle.strict_grammar.specs.declared.Edition.TheVariants.{Svg11, Svg2}

abbrev pub Span : Type 1
Span = ℕ → ℕ → Type 0

-- one byte of the text, of a class
pub record Byte (text class : List ℕ) (i j : ℕ) : Type 0 where
  pub there : stands text i class ≡ true
  pub next : j ≡ i + 1

infixr 4 ◌∥◌
infixr 5 ◌·◌
-- P Q: one, and then the other
abbrev pub ◌·◌ : Span → Span → Span
◌·◌ P Q i j = (k : ℕ) × P i k × Q k j

-- P | Q
abbrev pub ◌∥◌ : Span → Span → Span
◌∥◌ P Q i j = P i j ⊎ Q i j

-- P?
abbrev pub opt : Span → Span
opt P i j = P i j ⊎ (i ≡ j)

-- P*
pub data star (P : Span) : ℕ → ℕ → Type 0 where
  none : {i j : ℕ} → i ≡ j → star P i j
  more : {i k j : ℕ} → P i k → star P k j → star P i j

-- P+, which the grammar also writes as `Ps: P | P Ps`
abbrev pub plus : Span → Span
plus P = P · star P

-- `Ps: P | P S Ps`, the form of every sequence of the grammar, with S between its members
pub data sequence (P S : Span) : ℕ → ℕ → Type 0 where
  last : {i j : ℕ} → P i j → sequence P S i j
  then : {i k m j : ℕ} → P i k → S k m → sequence P S m j → sequence P S i j

-- "each number taking the longest text": of P's words from a place the one that no other outruns
abbrev pub longest : Span → Span
longest P i j = P i j × ((k : ℕ) → P i k → k ≤ j)

-- the word of no bytes
abbrev pub empty : Span
empty i j = i ≡ j

-- no word at all
abbrev pub never : Span
never i j = ⊥

-- P in SVG 1.1, Q in SVG 2: where the two grammars part
abbrev pub editions : Edition → Span → Span → Span
editions Svg11 P Q = P
editions Svg2 P Q = Q
