-- `metres::pattern` meets its contract: three ways that twice the rest compares with 1,000 (`pattern-of`). Assumes nothing.
use borrow.Author.Rules.{rules}
use native.Mathlib.Omega.{arith}
use Prim.Native.Nat.{ℕ, ◌+◌, ◌*◌, ◌/◌, ◌%◌}
use mathlib.Core.Path.{◌≡◌, refl, sym, ap, ◌∙◌}
use native.Mathlib.Numerals.{add-one}
use lib.Arith.{lt_of_le-ne}
use lib.Ieee.{binary32, of_bits, nearest}
use Rattle.decimal_rounding.proofs.Compares.{compare-lt, compare-eq, compare-gt}
use Rattle.metres.proofs.Quotients.{pattern-of}
use Rattle.metres.proofs.pattern.Goals as goal

past : (a q x : ℕ) → a + q + x ≡ a + (q + x)
past a q x = omega arith

pub returns-then-twice-lt1000 : goal.returns-then-twice-lt1000
returns-then-twice-lt1000 c =
    (λ n same. pattern-of n c.args.scaled c.args.k c.requires.0 c.requires.1 c.requires.2 same (c.args.scaled / 1000) (sym (ap (nearest _) (compare-lt _ _ c.if-twice-lt1000.true))) (omega arith) (omega arith), omega arith)

pub returns-then-twice-eq1000 : goal.returns-then-twice-eq1000
returns-then-twice-eq1000 c =
    let q = c.args.scaled / 1000 in
    let even = sym (ap (nearest _) (compare-eq _ _ c.if-twice-eq1000.true)) in
    (λ n same. ap (of_bits binary32) (past (c.args.k * 8388608) q (q % 2)) ∙ pattern-of n c.args.scaled c.args.k c.requires.0 c.requires.1 c.requires.2 same (q + q % 2) even (omega arith) (omega arith), omega arith)

pub returns : goal.returns
returns c =
    let q = c.args.scaled / 1000 in
    let above = compare-gt _ _ (lt_of_le-ne c.if-twice-lt1000.false (λ e. c.if-twice-eq1000.false (sym e))) in (
      λ n same. ap (of_bits binary32) (past (c.args.k * 8388608) q 1)
          ∙ pattern-of n c.args.scaled c.args.k c.requires.0 c.requires.1 c.requires.2 same (q + 1) (add-one q ∙ sym (ap (nearest _) above)) (omega arith) (omega arith),
      omega arith,
    )
