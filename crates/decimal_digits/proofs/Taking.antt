-- Digits taken into a number: one, those that eight bytes begin with, and more after them. Assumes nothing.
use Rattle.std.proofs.Common.{◌≡◌, ℕ, suc, ◌+◌, ◌-◌, ◌*◌, ◌^◌, ◌<◌, ◌≤◌, Bool, true, false, cond, ltb, List, [], ◌∷◌, length, get_or, sym, refl, ap, ◌∙◌, subst, le_trans, le_refl, lt_of_lt_of_le, le_of_lt, mul_assoc, mul_comm, add-mul, mul-le-mul_left, pow-suc, mul-one, arith, pow-add, ltb-false, ltb-true}
use lib.Arith.{digits_lt}
use Rattle.scan.specs.Bytes.{among, digits}
use Rattle.scan.specs.Runs.{past_digits_of}
use Rattle.scan.proofs.RunLaws.{all_pass, all-stop, all_end, all-onward, all-within, all-passed}
use Rattle.decimal_digits.specs.Digits.{digits_in, val}
use Rattle.decimal_digits.specs.Leading.{Leads, Takes, Gathers}
use Rattle.decimal_digits.specs.Words.{eight_of, begun}
use Rattle.decimal_digits.specs.declared.gathering.Leading.{Leading}
use Rattle.decimal_digits.proofs.Values.{ten-pos, digit_lt}
use Rattle.decimal_digits.proofs.Holding.{leads-digit, leads-run}

pub ten-mono : (i j : ℕ) → i ≤ j → 10 ^ i ≤ 10 ^ j
ten-mono i j h =
    let e : i + (j - i) ≡ j = omega arith in
    subst (λ (z : ℕ). 10 ^ i ≤ z) (sym (pow-add 10 i (j - i)) ∙ ap (λ (k : ℕ). 10 ^ k) e) (subst (λ (z : ℕ). z ≤ 10 ^ i * 10 ^ (j - i)) (mul-one (10 ^ i)) (mul-le-mul_left (10 ^ i) (ten-pos (j - i))))

module _ (text : List ℕ) where
  pub takes_none : (at w : ℕ) → Takes text at w at w
  takes_none at w = record { onward = le_refl at; grows = le_refl w; same-run = refl; leads = λ start dropped h k. k }

  -- digits after digits
  pub takes-on : (a w b v c u : ℕ) → Takes text a w b v → Takes text b v c u → Takes text a w c u
  takes-on a w b v c u s t =
      record {
        onward = le_trans s.onward t.onward;
        grows = le_trans s.grows t.grows;
        same-run = t.same-run ∙ s.same-run;
        leads = λ start dropped h k. t.leads start dropped (le_trans h s.onward) (s.leads start dropped h k);
      }

  pub takes-digit : (at w : ℕ) → at < length text → among (get_or text at 0) digits ≡ true → w < 10 ^ 18 → Takes text at w (at + 1) (w * 10 + (get_or text at 0 - 48))
  takes-digit at w h e l =
      record {
        onward = omega arith;
        grows = omega arith;
        same-run = all_pass digits text at h e;
        leads = λ start dropped from k. leads-digit text start at w dropped from k h e l;
      }

  -- ---- bytes that stand from a place on

  abbrev Standing : ℕ → List ℕ → Type 0
  Standing at [] = Unit
  Standing at (b ∷ bs) = (get_or text at 0 ≡ b) × Standing (at + 1) bs

  -- nothing is taken where the first byte is no digit
  takes-nothing : (at w : ℕ) → Takes text at w (at + 0) (w * 1 + 0)
  takes-nothing at w =
      let e : at + 0 ≡ at = omega arith in
      let f : w * 1 + 0 ≡ w = omega arith in
      rw (e, f) (takes_none at w)

  takes-begun : (bs : List ℕ) (at w : ℕ) → Standing at bs → at + length bs ≤ length text → length bs ≤ 19 → w < 10 ^ (19 - length bs)
      → Takes text at w (at + length (begun bs)) (w * 10 ^ length (begun bs) + val (begun bs))
  unfolding begun val
  takes-begun [] at w s h n l = takes-nothing at w
  takes-begun (b ∷ bs) at w s h n l = go (among b digits) refl (λ v m. takes-begun bs (at + 1) v s.1 (omega arith) (omega arith) m)
    where
      go : (t : Bool) → among b digits ≡ t
          → ((v : ℕ) → v < 10 ^ (19 - length bs) → Takes text (at + 1) v (at + 1 + length (begun bs)) (v * 10 ^ length (begun bs) + val (begun bs)))
          → Takes text at w (at + length (cond t ((b - 48) ∷ begun bs) [])) (w * 10 ^ length (cond t ((b - 48) ∷ begun bs) []) + val (cond t ((b - 48) ∷ begun bs) []))
      go true e rest =
          let i = length (begun bs) in
          let d = b - 48 in
          let power : 10 ^ (19 - suc (length bs)) * 10 ≡ 10 ^ (19 - length bs) = let f : suc (19 - suc (length bs)) ≡ 19 - length bs = omega arith in sym (pow-suc 10 (19 - suc (length bs))) ∙ ap (λ (k : ℕ). 10 ^ k) f in
          let more : w * 10 + d < 10 ^ (19 - length bs) = subst (λ (z : ℕ). w * 10 + d < z) power (digits_lt l (digit_lt b e)) in
          let few : w < 10 ^ 18 = lt_of_lt_of_le l (ten-mono (19 - suc (length bs)) 18 (omega arith)) in
          let one : Takes text at w (at + 1) (w * 10 + d) = subst (λ (z : ℕ). Takes text at w (at + 1) (w * 10 + (z - 48))) s.0 (takes-digit at w (omega arith) (ap (λ (z : ℕ). among z digits) s.0 ∙ e) few) in
          let place : at + 1 + i ≡ at + suc i = omega arith in
          let number : (w * 10 + d) * 10 ^ i + val (begun bs) ≡ w * 10 ^ suc i + (d * 10 ^ i + val (begun bs)) =
          omega (arith, add-mul (w * 10) d (10 ^ i), mul_assoc w 10 (10 ^ i), ap (λ (z : ℕ). w * z) (pow-suc 10 i ∙ mul_comm (10 ^ i) 10)) in
          subst (λ (z : ℕ). Takes text at w z (w * 10 ^ suc i + (d * 10 ^ i + val (begun bs)))) place
          (subst (λ (z : ℕ). Takes text at w (at + 1 + i) z) number (takes-on at w (at + 1) (w * 10 + d) (at + 1 + i) ((w * 10 + d) * 10 ^ i + val (begun bs)) one (rest (w * 10 + d) more)))
      go false e rest = takes-nothing at w

  -- fewer digits than bytes: the run ends with them
  ends-begun : (bs : List ℕ) (at : ℕ) → Standing at bs → at + length bs ≤ length text → length (begun bs) < length bs → past_digits_of text (at + length (begun bs)) ≡ at + length (begun bs)
  unfolding begun
  ends-begun [] at s h l = absurd (omega arith)
  ends-begun (b ∷ bs) at s h l = go (among b digits) refl l (λ m. ends-begun bs (at + 1) s.1 (omega arith) m)
    where
      go : (t : Bool) → among b digits ≡ t → length (cond t ((b - 48) ∷ begun bs) []) < length (b ∷ bs)
          → (length (begun bs) < length bs → past_digits_of text (at + 1 + length (begun bs)) ≡ at + 1 + length (begun bs))
          → past_digits_of text (at + length (cond t ((b - 48) ∷ begun bs) [])) ≡ at + length (cond t ((b - 48) ∷ begun bs) [])
      go true e m rest = let place : at + 1 + length (begun bs) ≡ at + suc (length (begun bs)) = omega arith in subst (λ (z : ℕ). past_digits_of text z ≡ z) place (rest (omega arith))
      go false e m rest = let place : at ≡ at + 0 = omega arith in subst (λ (z : ℕ). past_digits_of text z ≡ z) place (all-stop digits text at (omega arith) (ap (λ (z : ℕ). among z digits) s.0 ∙ e))

  eight-stand : (at : ℕ) → Standing at (eight_of text at)
  eight-stand at = (refl, (refl, (far 2 (omega arith), (far 3 (omega arith), (far 4 (omega arith), (far 5 (omega arith), (far 6 (omega arith), (far 7 (omega arith), tt))))))))
    where
      far : {i : ℕ} (j : ℕ) → i ≡ at + j → get_or text i 0 ≡ get_or text (at + j) 0
      far j e = ap (λ (i : ℕ). get_or text i 0) e

  -- the digits that eight bytes begin with
  module _ (at : ℕ) (inside : at + 8 ≤ length text) (n : ℕ) (count : n ≡ length (begun (eight_of text at))) where
    pub takes_run : (w v : ℕ) → w < 10 ^ 11 → v ≡ val (begun (eight_of text at)) → Takes text at w (at + n) (w * 10 ^ n + v)
    takes_run w v l value = rw (count, value) (takes-begun (eight_of text at) at w (eight-stand at) inside (omega arith) l)

    pub run-ended : n < 8 → past_digits_of text (at + n) ≡ at + n
    run-ended l = rw count (ends-begun (eight_of text at) at (eight-stand at) inside (subst (λ (z : ℕ). z < 8) count l))

    pub run-same : past_digits_of text (at + n) ≡ past_digits_of text at
    run-same = (takes_run 0 _ (omega arith) refl).same-run

  -- ---- all the digits from a place on

  pub gathers-on : (from w at held dropped : ℕ) (r : Leading) → Takes text from w at held → Gathers text at held dropped r → Gathers text from w dropped r
  gathers-on from w at held dropped r t g =
      record {
        passed = g.passed ∙ t.same-run;
        held = λ start h k. g.held start (le_trans h t.onward) (t.leads start dropped h k);
        few = g.few;
      }

  -- no digit stands at the place
  pub gathers-none : (at w dropped : ℕ) → past_digits_of text at ≡ at → dropped ≤ at → Gathers text at w dropped (record { at = at; w = w; dropped = dropped })
  gathers-none at w dropped e h = record { passed = sym e; held = λ start from k. k; few = h }

  -- the number is full, and the rest is dropped
  pub gathers-rest : (at w dropped : ℕ) → 10 ^ 18 ≤ w → dropped ≤ at
      → Gathers text at w dropped (record { at = past_digits_of text at; w = w; dropped = dropped + (past_digits_of text at - at) })
  gathers-rest at w dropped g h =
      let on = all-onward digits text at in
      record {
        passed = refl;
        held = λ start from k. go start from k (ltb at (length text)) refl;
        few = omega arith;
      }
    where
      go : (start : ℕ) → start ≤ at → Leads (digits_in text start at) w dropped → (t : Bool) → ltb at (length text) ≡ t
          → Leads (digits_in text start (past_digits_of text at)) w (dropped + (past_digits_of text at - at))
      go start from k true e =
          leads-run text start at w dropped from k (past_digits_of text at) (all-onward digits text at) (all-within digits text at (le_of_lt (ltb-true at (length text) e)))
          (λ i after upto. all-passed digits text at i after upto) g
      go start from k false e =
          let end : past_digits_of text at ≡ at = all_end digits text at (ltb-false at (length text) e) in
          let none : dropped + (at - at) ≡ dropped = omega arith in
          rw (end, none) k

-- ---- how large the number of a run is

begun-le : (bs : List ℕ) → length (begun bs) ≤ length bs
unfolding begun
begun-le [] = omega arith
begun-le (b ∷ bs) = go (among b digits) (begun-le bs)
  where
    go : (t : Bool) → length (begun bs) ≤ length bs → length (cond t ((b - 48) ∷ begun bs) []) ≤ suc (length bs)
    go true h = omega arith
    go false h = omega arith

begun-lt : (bs : List ℕ) → val (begun bs) < 10 ^ length (begun bs)
unfolding begun val
begun-lt [] = omega arith
begun-lt (b ∷ bs) = go (among b digits) refl (begun-lt bs)
  where
    go : (t : Bool) → among b digits ≡ t → val (begun bs) < 10 ^ length (begun bs) → val (cond t ((b - 48) ∷ begun bs) []) < 10 ^ length (cond t ((b - 48) ∷ begun bs) [])
    go true e h = subst (λ (z : ℕ). (b - 48) * 10 ^ length (begun bs) + val (begun bs) < z) (mul_comm 10 (10 ^ length (begun bs)) ∙ sym (pow-suc 10 (length (begun bs)))) (digits_lt (digit_lt b e) h)
    go false e h = omega arith

pub record Bounds (w n p v : ℕ) : Type 0 where
  pub few : n ≤ 8
  pub product : w * p ≤ w * 100000000
  pub value : v < 100000000

-- what a run of eight bytes is, and what it makes of a number
pub run-bounds : (text : List ℕ) (at w n p v : ℕ) → n ≡ length (begun (eight_of text at)) → v ≡ val (begun (eight_of text at)) → p ≡ 10 ^ n → Bounds w n p v
run-bounds text at w n p v count value power =
    let bs = eight_of text at in
    let few : n ≤ 8 = subst (λ (z : ℕ). z ≤ 8) (sym count) (begun-le bs) in
    let most : p ≤ 10 ^ 8 = subst (λ (z : ℕ). z ≤ 10 ^ 8) (sym power) (ten-mono n 8 few) in
    let small : v < p = subst (λ (z : ℕ). v < z) (sym (power ∙ ap (λ (z : ℕ). 10 ^ z) count)) (subst (λ (z : ℕ). z < 10 ^ length (begun bs)) (sym value) (begun-lt bs)) in
    record { few = few; product = mul-le-mul_left w most; value = lt_of_lt_of_le small most }
