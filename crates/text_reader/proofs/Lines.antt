-- The first line of a plan, way by way. Assumes nothing.
use Prim.Native.Nat.{ℕ, ◌+◌, ◌-◌, ◌^◌, ◌≤◌, ◌<◌}
use mathlib.Core.Path.{◌≡◌, sym, ap, ◌∙◌}
use mathlib.Core.List.{List}
use mathlib.Core.Logic.{⊎_elim}
use native.Mathlib.Nat.{pow-le-pow_right}
use native.Mathlib.Omega.{arith}
use borrow.Author.Tests.{le-leb, lt-leb, eq-eqb, ne_eqb, ltb-true, ltb-false}
use lib.Dec.{ltb}
use lib.ListN.{length, get_or, take, drop, get_or-eq_default}
use Rattle.std.specs.Prelude.{Result, Err}
use Rattle.answers.specs.declared.refusals.Refusal.{Refusal}
use Rattle.answers.specs.declared.refusals.Refusal.TheVariants.{Range}
use Rattle.scan.specs.Bytes.{digits}
use Rattle.scan.specs.Runs.{past_digits_of}
use Rattle.scan.proofs.ByteLaws.{either_way}
use Rattle.scan.proofs.RunLaws.{all-within, all_end, all-passed}
use Rattle.decimal_digits.specs.Digits.{digits_in, val}
use Rattle.decimal_digits.specs.Exponent.{capped, exponent_of}
use Rattle.decimal_digits.specs.declared.gathering.Power.{Power}
use Rattle.decimal_digits.proofs.Capping.{capped_small}
use Rattle.decimal_digits.proofs.Places.{run_in}
use Rattle.decimal_digits.proofs.Values.{val-lt}
use Rattle.text_reader.specs.Plans.{judged, first_line_of}
use Rattle.text_reader.specs.declared.line.FirstLine.{FirstLine}

-- ---- the form

-- past the text there is no LF
pub feed-inside : (text : List ℕ) (i : ℕ) → get_or text i 0 ≡ 10 → i < length text
feed-inside text i e =
    ⊎_elim (λ h. ltb-true i (length text) h)
    (λ h. let z : get_or text i 0 ≡ 0 = get_or-eq_default text 0 (ltb-false i (length text) h) in absurd (omega arith))
    (either_way (ltb i (length text)))

module _ (text : List ℕ) (at : ℕ) where
  -- a number of at most 9 digits is small
  module _ (some : at < past_digits_of text at) (few : past_digits_of text at - at ≤ 9) where
    inside : at < length text
    inside =
        ⊎_elim (λ h. ltb-true at (length text) h)
        (λ h. let e = all_end digits text at (ltb-false at (length text) h) in absurd (omega arith))
        (either_way (ltb at (length text)))

    many : length (digits_in text at (past_digits_of text at)) ≡ past_digits_of text at - at
    many = run_in text at (past_digits_of text at) (omega arith) (all-within digits text at (let i = inside in omega arith)) (all-passed digits text at)

    small : val (digits_in text at (past_digits_of text at)) < 10 ^ 9
    small =
        let v : val (digits_in text at (past_digits_of text at)) < 10 ^ length (digits_in text at (past_digits_of text at)) = val-lt (take (past_digits_of text at - at) (drop at text)) in
        let m : length (digits_in text at (past_digits_of text at)) ≤ 9 = omega (arith, many) in
        let p : 10 ^ length (digits_in text at (past_digits_of text at)) ≤ 10 ^ 9 = pow-le-pow_right {n = 10} (omega arith) m in
        omega arith

    pub small_count : capped (val (digits_in text at (past_digits_of text at))) ≡ val (digits_in text at (past_digits_of text at))
    small_count = capped_small (val (digits_in text at (past_digits_of text at))) (let s = small in omega arith)

  module _ (run : Power) (e : run ≡ exponent_of text at) where
    ends : run.at ≡ past_digits_of text at
    unfolding exponent_of
    ends = ap (λ (p : Power). p.at) e

    sizes : run.size ≡ capped (val (digits_in text at (past_digits_of text at)))
    unfolding exponent_of
    sizes = ap (λ (p : Power). p.size) e

    pub line-none : run.at ≤ at → Err (Range 0) ≡ first_line_of text at
    unfolding first_line_of
    line-none h =
        let z : past_digits_of text at - at ≡ 0 = omega (arith, ends) in
        rw z

    module _ (some : at < run.at) where
      pub line-long : 9 < run.at - at → Err (Range 0) ≡ first_line_of text at
      unfolding first_line_of
      line-long h =
          let n = ends in
          rw (lt-leb (past_digits_of text at - at) 9 (omega arith), le-leb 1 (past_digits_of text at - at) (omega arith))

      module _ (few : run.at - at ≤ 9) where
        pub line_other : (get_or text run.at 0 ≡ 10 → ⊥) → Err (Range 0) ≡ first_line_of text at
        unfolding first_line_of
        line_other h =
            let n = ends in
            let g : get_or text (past_digits_of text at) 0 ≡ 10 → ⊥ = λ t. h (ap (λ i. get_or text i 0) n ∙ t) in
            rw (le-leb (past_digits_of text at - at) 9 (omega arith), le-leb 1 (past_digits_of text at - at) (omega arith), ne_eqb (get_or text (past_digits_of text at) 0) 10 g)

        pub line-judged : (r : Result FirstLine Refusal) → get_or text run.at 0 ≡ 10 → r ≡ judged run.size (run.at + 1) → r ≡ first_line_of text at
        unfolding first_line_of
        line-judged r h j =
            let n = ends in
            let s : run.size ≡ val (digits_in text at (past_digits_of text at)) = sizes ∙ small_count (omega arith) (omega arith) in
            let g : get_or text (past_digits_of text at) 0 ≡ 10 = ap (λ i. get_or text i 0) (sym n) ∙ h in
            rw (le-leb (past_digits_of text at - at) 9 (omega arith), le-leb 1 (past_digits_of text at - at) (omega arith), eq-eqb (get_or text (past_digits_of text at) 0) 10 g)
            (j ∙ ap (λ k. judged k (run.at + 1)) s ∙ ap (λ k. judged (val (digits_in text at (past_digits_of text at))) (k + 1)) n)
