-- A sequence is a first word and a star of separators and words; a turn of the loop over it, and its end. Assumes nothing.
use Prim.Native.Nat.{ℕ, ◌≤◌, ◌<◌}
use mathlib.Core.Path.{◌≡◌, refl, sym, subst, ◌∙◌}
use mathlib.Core.List.{List}
use mathlib.Core.Logic.{◌⊎◌, inl, inr}
use native.Mathlib.Omega.{arith}
use lib.ListN.{length}
use Rattle.scan.specs.Bytes.{number_starts}
use Rattle.scan.proofs.RunLaws.{stands-within}
use Rattle.strict_grammar.specs.Spans.{Span, ◌·◌, opt, star, none, more, sequence, last, then}
use Rattle.strict_grammar.specs.Grammar.{comma-wsp}
use Rattle.strict_grammar.specs.Words.{Only, Lacks, Goes, past_separator_of}
use Rattle.strict_grammar.specs.declared.Edition.{Edition}
use Rattle.strict_grammar.proofs.SpanLaws.{snoc}
use Rattle.strict_grammar.proofs.Separators.{separator-past, separator-forced, separator-le}
use Rattle.std.specs.Prelude.{Option, Some, None}
use Rattle.strict_argument.specs.Reading.{Reads, argument_of}
use Rattle.strict_argument.specs.declared.groups.Kind.{Kind}
use Rattle.strict_argument.proofs.Starts.{argument-starts, argument-grows}
use Rattle.strict.specs.Commands.{Item, Further}

-- ---- a sequence as a star

module _ {P S : Span} where
  pub to-star : {i j : ℕ} → sequence P S i j → (P · star (S · P)) i j
  to-star {i} {j} (last p) = (j, p, none refl)
  to-star (then {k = k} {m = m} p c w) = let r = to-star w in (k, p, more (m, c, r.1) r.2)

  pub of-star : {i k j : ℕ} → P i k → star (S · P) k j → sequence P S i j
  of-star {i} {k} {j} p (none z) = last (subst (λ (y : ℕ). P i y) z p)
  of-star {i = i} p (more x w) = then p x.1 (of-star {i = x.0} x.2 w)

-- ---- one more argument

module _ (edition : Edition) (text : List ℕ) (kind : Kind) where
  -- the argument after the separator that was found
  pub item : (i k : ℕ) (r : Option ℕ) → k ≡ past_separator_of edition text i → Reads (argument_of edition text kind) k r → Reads (Item edition text kind) i r
  item i k r s reads = go r reads
    where
      to-k : (n : ℕ) → Item edition text kind i n → argument_of edition text kind k n
      to-k n (y, c, d) = subst (λ (z : ℕ). argument_of edition text kind z n) (separator-forced edition text i y c (argument-starts edition text kind y n d) ∙ sym s) d

      go : (r : Option ℕ) → Reads (argument_of edition text kind) k r → Reads (Item edition text kind) i r
      go (Some end) h =
          ((k, subst (λ (z : ℕ). opt (comma-wsp edition text) i z) (sym s) (separator-past edition text i).0, h.0), λ n w. h.1 n (to-k n w))
      go None h = λ n w. h n (to-k n w)

  pub item-goes : (i n : ℕ) → Item edition text kind i n → Goes edition text i
  item-goes i n (k, o, q) = (k, o, argument-starts edition text kind k n q)

  pub item-ahead : (i n : ℕ) → Item edition text kind i n → (i < n) × (i < length text)
  item-ahead i n (k, o, q) =
      let x = separator-le edition text i k o in
      let y = argument-grows edition text kind k n q in
      let z = stands-within number_starts text k (argument-starts edition text kind k n q) in
      (omega arith, omega arith)

  pub items-le : (i n : ℕ) → star (Item edition text kind) i n → i ≤ n
  items-le i n (none z) = omega arith
  items-le i n (more {k = k} x w) = let a = item-ahead i k x in let b = items-le k n w in omega arith

-- ---- the loop over further arguments: what is left of other items from the start are items from here, or they ended where a sequence could go on

module _ (edition : Edition) (text : List ℕ) (kind : Kind) (at : ℕ) where
  -- the loop's invariant
  pub record Going (end : ℕ) : Type 0 where
    pub passed : star (Item edition text kind) at end
    pub others : (q : ℕ) → star (Item edition text kind) at q → Goes edition text q ⊎ star (Item edition text kind) end q

  pub set_out : Going at
  set_out = record { passed = none refl; others = λ q w. inr w }

  module _ (end : ℕ) (g : Going end) where
    -- one argument more
    pub go_on : (next : ℕ) → Only (Item edition text kind) end next → Going next
    go_on next one = record { passed = snoc g.passed one.0; others = λ q w. turn (g.others q w) }
      where
        turn : {q : ℕ} → Goes edition text q ⊎ star (Item edition text kind) end q → Goes edition text q ⊎ star (Item edition text kind) next q
        turn (inl c) = inl c
        turn (inr (none z)) = inl (subst (Goes edition text) z (item-goes edition text kind end next one.0))
        turn {q} (inr (more {k = k} x w)) = inr (subst (λ (y : ℕ). star (Item edition text kind) y q) (one.1 k x) w)

    -- no argument more
    pub come-to-end : Lacks (Item edition text kind) end → Further edition text kind at end
    come-to-end none_left = (g.passed, λ q w. stop (g.others q w))
      where
        stop : {q : ℕ} → Goes edition text q ⊎ star (Item edition text kind) end q → (q ≡ end) ⊎ Goes edition text q
        stop (inl c) = inr c
        stop (inr (none z)) = inl (sym z)
        stop (inr (more {k = k} x w)) = absurd (none_left k x)
