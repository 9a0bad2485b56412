-- Where the scan finds a number, its text is the longest that converts; where it finds no digit, no text converts. Assumes nothing.
use Prim.Native.Nat.{ℕ}
use mathlib.Core.Path.{◌≡◌, sym, ap, subst, ◌∙◌}
use mathlib.Core.List.{List}
use Rattle.scan.specs.Numbers.{end_of, places_of, scan_number_of}
use Rattle.scan.specs.declared.numbers.Places.{Places}
use Rattle.std.specs.Prelude.{Ok}
use Rattle.scan.proofs.NumberLaws.{scanned-flags, scanned-places, scanned-start, scanned-number}
use Rattle.strict_grammar.specs.Spans.{longest}
use Rattle.strict_grammar.specs.Grammar.{number}
use Rattle.strict_grammar.specs.declared.Edition.TheVariants.{Svg11}
use Rattle.strict_grammar.proofs.Numbers.{number-only, ends-whole}
use Rattle.decimal.specs.Decimal.{read_of, number_of}
use Rattle.decimal_text.specs.Converts.{Converts, Converted}
use Rattle.decimal_text.proofs.Grammars.{number-converts}

module _ (text : List ℕ) (at : ℕ) where
  end_is : (p : Places) → scan_number_of text at ≡ Ok p → p.end ≡ end_of text at
  unfolding places_of
  end_is p e = ap (λ (q : Places). q.end) (scanned-places text at p e)

  answered : (p : Places) → scan_number_of text at ≡ Ok p → number_of text at ≡ read_of text (Ok p)
  unfolding number_of
  answered p e = ap (read_of text) e

  -- for any bytes and any place: what is scanned converts, and nothing longer does
  pub scanned-converts : (p : Places) → scan_number_of text at ≡ Ok p → Converted text at p
  scanned-converts p e =
      let f = scanned-flags text at p e in
      let ends = ends-whole text at f.1 ∙ sym (end_is p e) in
      let l : longest (Converts text) at p.end = number-converts text at p.end (subst (λ (z : ℕ). number Svg11 text at z) ends (number-only Svg11 text at f.0).0) in
      record {
        starts = scanned-start text at p e;
        within = (scanned-number text at p e).end-within;
        converts = l.0;
        longest = l.1;
        value = answered p e;
      }
