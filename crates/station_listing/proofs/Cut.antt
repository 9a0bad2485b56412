-- The first 4,107 bytes of a plan settle its listing: a first line of at most 10 bytes, and 4,097 of the text. Assumes nothing.
use Prim.Native.Nat.{ℕ, zero, suc, ◌+◌, ◌-◌, ◌≤◌, ◌<◌}
use mathlib.Core.Path.{◌≡◌, refl, sym, ap, ◌∙◌}
use mathlib.Core.Bool.{Bool, true, false, ◌&&◌, cond}
use mathlib.Core.List.{List, [], ◌∷◌}
use native.Mathlib.Nat.{zero-add}
use native.Mathlib.Omega.{arith}
use borrow.Author.Tests.{ltb-true, ltb-false, lt-ltb, le-leb, lt-leb}
use lib.Dec.{ltb, leb, eqb}
use lib.ListN.{length, get_or, take, drop}
use lib.Seq.{take_all, take-take, get_or-take, length-take-le}
use Rattle.answers.specs.Report.{written}
use Rattle.std.specs.Prelude.{Result, Ok, Err}
use Rattle.answers.specs.declared.refusals.Refusal.{Refusal}
use Rattle.answers.specs.declared.refusals.Refusal.TheVariants.{Range}
use Rattle.scan.specs.Bytes.{among, digits}
use Rattle.scan.specs.Runs.{past_all, past_digits_of}
use Rattle.scan.specs.Scan.{leading, scan}
use Rattle.decimal_digits.specs.Digits.{digits_among, digits_in, val}
use Rattle.text_reader.specs.Plans.{stations, judged, first_line_of}
use Rattle.text_reader.specs.declared.line.FirstLine.{FirstLine}
use Rattle.station_listing.specs.Stations.{plan_of, judged_of, stations_of, ReadListed}
use Rattle.station_listing.specs.Stations as Tool

-- ---- a run at the start of a list

module _ (test : ℕ → Bool) where
  leading-cut : (n : ℕ) (l : List ℕ) → leading test l < n → leading test (take n l) ≡ leading test l
  unfolding leading
  leading-cut zero l h = absurd (omega arith)
  leading-cut (suc n) [] h = refl
  leading-cut (suc n) (x ∷ xs) h = by-test (leading-cut n xs) (test x) h
    where
      by-test :
          (leading test xs < n → leading test (take n xs) ≡ leading test xs) → (t : Bool) → cond t (suc (leading test xs)) 0 < suc n
          → cond t (suc (leading test (take n xs))) 0 ≡ cond t (suc (leading test xs)) 0
      by-test smaller true h = ap suc (smaller (omega arith))
      by-test smaller false h = refl

  leading-whole : (n : ℕ) (l : List ℕ) → n ≤ leading test l → leading test (take n l) ≡ n
  unfolding leading
  leading-whole zero l h = refl
  leading-whole (suc n) [] h = absurd (omega arith)
  leading-whole (suc n) (x ∷ xs) h = by-test (leading-whole n xs) (test x) h
    where
      by-test :
          (n ≤ leading test xs → leading test (take n xs) ≡ n) → (t : Bool) → suc n ≤ cond t (suc (leading test xs)) 0
          → cond t (suc (leading test (take n xs))) 0 ≡ suc n
      by-test smaller true h = ap suc (smaller (omega arith))
      by-test smaller false h = absurd (omega arith)

abbrev run : List ℕ → ℕ
run text = leading (λ byte. among byte digits) text

end_is : (text : List ℕ) → past_digits_of text 0 ≡ run text
unfolding past_all scan
end_is text = zero-add (run text)

-- ---- the text

plan-cut : (count n : ℕ) (text : List ℕ) → 4097 ≤ n → plan_of count (take n text) ≡ plan_of count text
unfolding plan_of
plan-cut count n text h = by_length (ltb n (length text)) refl
  where
    by_length : (b : Bool) → ltb n (length text) ≡ b → plan_of count (take n text) ≡ plan_of count text
    by_length true e =
        let g = ltb-true n (length text) e in
        let l : length (take n text) ≡ n = length-take-le n text (omega arith) in
        rw (lt-ltb 4096 (length (take n text)) (omega arith), lt-ltb 4096 (length text) (omega arith)) refl
    by_length false e = ap (plan_of count) (take_all n text (ltb-false n (length text) e))

drop-cut : (p n : ℕ) (l : List ℕ) → drop p (take n l) ≡ take (n - p) (drop p l)
drop-cut zero n l = let z : n ≡ n - 0 = omega arith in ap (λ (k : ℕ). take k l) z
drop-cut (suc p) zero l = let z : 0 ≡ 0 - suc p = omega arith in ap (λ (k : ℕ). take k (drop (suc p) l)) z
drop-cut (suc p) (suc n) [] = sym (take_all (suc n - suc p) [] (omega arith))
drop-cut (suc p) (suc n) (x ∷ xs) = let z : n - p ≡ suc n - suc p = omega arith in drop-cut p n xs ∙ ap (λ (k : ℕ). take k (drop p xs)) z

-- ---- the first line

-- from the place past the digits, the digits and the byte that follows
abbrev line_by : ℕ → List ℕ → ℕ → Result FirstLine Refusal
line_by end digits byte = cond (leb 1 (end - 0) && leb (end - 0) 9 && eqb byte 10) (judged (val digits) (end + 1)) (Err (Range 0))

line-is : (text : List ℕ) → first_line_of text 0 ≡ line_by (past_digits_of text 0) (digits_in text 0 (past_digits_of text 0)) (get_or text (past_digits_of text 0) 0)
unfolding first_line_of
line-is text = refl

refused-line : (end : ℕ) (digits : List ℕ) (byte : ℕ) → 9 < end → line_by end digits byte ≡ Err (Range 0)
refused-line end digits byte h = rw (le-leb 1 (end - 0) (omega arith), lt-leb (end - 0) 9 (omega arith)) refl

long-line : (text : List ℕ) → 9 < run text → first_line_of text 0 ≡ Err (Range 0)
long-line text h =
    line-is text ∙ refused-line (past_digits_of text 0) (digits_in text 0 (past_digits_of text 0)) (get_or text (past_digits_of text 0) 0) (omega (arith, end_is text))

module _ (input : List ℕ) (n : ℕ) (enough : 4107 ≤ n) where
  judged-cut : (count next : ℕ) → next ≤ 10 → judged_of (take n input) (judged count next) ≡ judged_of input (judged count next)
  unfolding judged
  judged-cut count next h = by_count (leb 2 count && leb count 1000)
    where
      by_count :
          (b : Bool)
          → judged_of (take n input) (cond b (Ok (stations count next)) (Err (Range count))) ≡ judged_of input (cond b (Ok (stations count next)) (Err (Range count)))
      by_count true = ap (plan_of count) (drop-cut next n input) ∙ plan-cut count (n - next) (drop next input) (omega arith)
      by_count false = refl

  line-cut : (end : ℕ) (digits : List ℕ) (byte : ℕ) → end ≤ 9 → judged_of (take n input) (line_by end digits byte) ≡ judged_of input (line_by end digits byte)
  line-cut end digits byte h = by_form (leb 1 (end - 0) && leb (end - 0) 9 && eqb byte 10)
    where
      by_form :
          (b : Bool)
          → judged_of (take n input) (cond b (judged (val digits) (end + 1)) (Err (Range 0))) ≡ judged_of input (cond b (judged (val digits) (end + 1)) (Err (Range 0)))
      by_form true = judged-cut (val digits) (end + 1) (omega arith)
      by_form false = refl

  long-run : 9 < run input → 9 < run (take n input)
  long-run h = by-run (ltb (run input) n) refl
    where
      by-run : (b : Bool) → ltb (run input) n ≡ b → 9 < run (take n input)
      by-run true e = omega (arith, leading-cut (λ byte. among byte digits) n input (ltb-true (run input) n e))
      by-run false e = omega (arith, leading-whole (λ byte. among byte digits) n input (ltb-false (run input) n e))

  abbrev end : ℕ
  end = past_digits_of input 0

  same_end : run input ≤ 9 → past_digits_of (take n input) 0 ≡ end
  same_end h = end_is (take n input) ∙ leading-cut (λ byte. among byte digits) n input (omega arith) ∙ sym (end_is input)

  same_line : run input ≤ 9 → first_line_of (take n input) 0 ≡ line_by end (digits_in input 0 end) (get_or input end 0)
  same_line h =
      let e = end_is input in
      line-is (take n input)
      ∙ ap (λ (k : ℕ). line_by k (digits_in (take n input) 0 k) (get_or (take n input) k 0)) (same_end h)
      ∙ ap (λ (l : List ℕ). line_by end (digits_among l) (get_or (take n input) end 0)) (take-take (end - 0) n input (omega arith))
      ∙ ap (λ (b : ℕ). line_by end (digits_in input 0 end) b) (get_or-take n input end 0 (omega arith))

  by-run : (b : Bool) → ltb 9 (run input) ≡ b → judged_of (take n input) (first_line_of (take n input) 0) ≡ judged_of input (first_line_of input 0)
  by-run true e =
      let h = ltb-true 9 (run input) e in
      ap (judged_of (take n input)) (long-line (take n input) (long-run h)) ∙ sym (ap (judged_of input) (long-line input h))
  by-run false e =
      let h = ltb-false 9 (run input) e in
      ap (judged_of (take n input)) (same_line h)
      ∙ line-cut end (digits_in input 0 end) (get_or input end 0) (omega (arith, end_is input))
      ∙ sym (ap (judged_of input) (line-is input))

  -- bytes past the first 4,107 change nothing
  pub bytes_cut : stations_of (take n input) ≡ stations_of input
  unfolding stations_of
  bytes_cut = by-run (ltb 9 (run input)) refl

-- so does a lent array of 4,107 places or more, filled from the start of any input
pub read-listed : (plan : List ℕ) (size : ℕ) (before : List ℕ) (r : ℕ) (after : List ℕ) → 4107 ≤ length plan → Tool.Stations (take size plan) before r after → ReadListed plan size before r after
read-listed plan size before r after enough given input begins =
    let same : stations_of (take size plan) ≡ stations_of input = ap stations_of (sym begins) ∙ bytes_cut input (length plan) enough in
    record {
      takes = record { count = given.takes.count ∙ ap length same; most = given.takes.most };
      bytes = given.bytes ∙ ap (λ (listing : List ℕ). cond (ltb (length before) (length listing)) before (written listing before)) same;
    }
