-- What the first line asks: 2 to 1,000 stations, and a path that starts within the plan. Assumes nothing.
use Prim.Native.Nat.{ℕ, ◌+◌, ◌-◌, ◌≤◌}
use mathlib.Core.Path.{◌≡◌, refl, ap}
use mathlib.Core.Bool.{Bool, true, false, ◌&&◌, cond}
use mathlib.Core.List.{List}
use native.Mathlib.Omega.{arith}
use borrow.Author.Tests.{leb-true, eqb-true}
use lib.Dec.{leb, eqb}
use lib.ListN.{length, get_or}
use Rattle.std.specs.Prelude.{Result, Ok, Err}
use Rattle.answers.specs.declared.refusals.Refusal.{Refusal}
use Rattle.answers.specs.declared.refusals.Refusal.TheVariants.{Range}
use Rattle.scan.specs.Runs.{past_digits_of}
use Rattle.decimal_digits.specs.Digits.{digits_in, val}
use Rattle.text_reader.specs.Plans.{stations, judged, first_line_of}
use Rattle.text_reader.specs.declared.line.FirstLine.{FirstLine}
use Rattle.text_reader.proofs.Lines.{feed-inside}

both : (a b : Bool) → a && b ≡ true → (a ≡ true) × (b ≡ true)
both true true e = (refl, refl)
both true false e = let z : ◌≡◌ {A = Bool} false true = e in absurd (let y : ◌≡◌ {A = ℕ} 0 1 = cc in omega arith)
both false b e = absurd (let z : ◌≡◌ {A = Bool} false true = e in let y : ◌≡◌ {A = ℕ} 0 1 = cc in omega arith)

last_of : (a b c : Bool) → a && b && c ≡ true → c ≡ true
last_of true true true e = refl
last_of true true false e = e
last_of true false c e = absurd (let z : ◌≡◌ {A = Bool} false true = e in let y : ◌≡◌ {A = ℕ} 0 1 = cc in omega arith)
last_of false b c e = absurd (let z : ◌≡◌ {A = Bool} false true = e in let y : ◌≡◌ {A = ℕ} 0 1 = cc in omega arith)

pub record Asked (input : List ℕ) (count next : ℕ) : Type 0 where
  pub least : 2 ≤ count
  pub most : count ≤ 1000
  pub inside : next ≤ length input

abbrev count_in : Result FirstLine Refusal → ℕ
count_in (Ok line) = line.count
count_in (Err reason) = 0

abbrev next_in : Result FirstLine Refusal → ℕ
next_in (Ok line) = line.next
next_in (Err reason) = 0

module _ (text : List ℕ) (line : FirstLine) where
  by_count : (v p : ℕ) (b : Bool) → (leb 2 v && leb v 1000) ≡ b → cond b (Ok (stations v p)) (Err (Range v)) ≡ Ok line → p ≤ length text → Asked text line.count line.next
  by_count v p true t e h =
      let x : v ≡ line.count = ap count_in e in
      let y : p ≡ line.next = ap next_in e in
      let w = both (leb 2 v) (leb v 1000) t in
      record { least = omega (arith, leb-true 2 v w.0); most = omega (arith, leb-true v 1000 w.1); inside = omega arith }
  by_count v p false t e h = cc

  judged-asked : (v p : ℕ) → judged v p ≡ Ok line → p ≤ length text → Asked text line.count line.next
  unfolding judged
  judged-asked v p e h = by_count v p (leb 2 v && leb v 1000) refl e h

  module _ (at : ℕ) where
    by_form :
        (b : Bool) → (leb 1 (past_digits_of text at - at) && leb (past_digits_of text at - at) 9 && eqb (get_or text (past_digits_of text at) 0) 10) ≡ b
        → cond b (judged (val (digits_in text at (past_digits_of text at))) (past_digits_of text at + 1)) (Err (Range 0)) ≡ Ok line
        → Asked text line.count line.next
    by_form true t e =
        let f = last_of (leb 1 (past_digits_of text at - at)) (leb (past_digits_of text at - at) 9) (eqb (get_or text (past_digits_of text at) 0) 10) t in
        let i = feed-inside text (past_digits_of text at) (eqb-true (get_or text (past_digits_of text at) 0) 10 f) in
        judged-asked (val (digits_in text at (past_digits_of text at))) (past_digits_of text at + 1) e (omega arith)
    by_form false t e = cc

    pub asked : first_line_of text at ≡ Ok line → Asked text line.count line.next
    unfolding first_line_of
    asked e =
        by_form (leb 1 (past_digits_of text at - at) && leb (past_digits_of text at - at) 9 && eqb (get_or text (past_digits_of text at) 0) 10) refl e
