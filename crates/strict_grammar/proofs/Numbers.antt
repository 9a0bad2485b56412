-- The grammar's number and the one that crate `scan` finds are the same: where its places hold a digit, the number ends at `number_end` and nowhere
-- else; where they hold none, there is no number. No digit stands where a number ends, and a nonnegative-number is a number at whose place no sign
-- stands. Assumes nothing.
use Prim.Native.Nat.{ℕ, zero, suc, ◌+◌, ◌≤◌, ◌<◌}
use mathlib.Core.Path.{◌≡◌, refl, sym, subst, ◌∙◌, ap}
use mathlib.Core.Bool.{Bool, true, false, ◌&&◌, cond}
use mathlib.Core.List.{List, [], ◌∷◌}
use mathlib.Core.Logic.{◌⊎◌, inl, inr, ⊎_elim}
use native.Mathlib.Omega.{arith}
use lib.Dec.{T, ltb, eqb}
use borrow.Author.Tests.{eqb-true, ltb-true, ltb-false, le-ltb}
use Rattle.scan.specs.Bytes.{among, digits, signs, points, exponent_marks, number_starts}
use Rattle.scan.specs.Runs.{stands, past_one, past_all, past_digits_of, past_mark_of}
use Rattle.scan.specs.Numbers.{whole_of, point_of, fraction_of, mark_of, exponent_of, end_of, no_digit, no_exponent_digit}
use Rattle.scan.proofs.ByteLaws.{apartb, clash, either_way}
use Rattle.scan.proofs.RunLaws.{one-step, all-stopped}
use Rattle.scan.proofs.NumberLaws.{whole-onward, point-onward, fraction-onward, mark-onward, exponent-onward, end-onward, digit-in-all, digit-in-none, exponent-in-all, exponent-in-none}
use Rattle.strict_grammar.specs.Spans.{Span, Byte, ◌·◌, ◌∥◌, opt, star, none, more, plus, longest, never, editions}
use Rattle.strict_grammar.specs.Grammar.{digit-sequence, exponent, fractional-constant, floating-point-constant, integer-constant, nonnegative-number, number}
use Rattle.strict_grammar.specs.Words.{Only, Lacks, number_end}
use Rattle.strict_grammar.specs.declared.Edition.{Edition}
use Rattle.strict_grammar.specs.declared.Edition.TheVariants.{Svg11, Svg2}
use Rattle.strict_grammar.proofs.SpanLaws.{standing, not_byte, not-both, other, wider, longest-same, star-le, star-stops, plus-lt, plus-star, star-plus, star-or, run-same, run-found}

-- ---- the parts that the productions share

-- what a number without its sign starts with: a digit or the point
abbrev unsigned_starts : List ℕ
unsigned_starts = 46 ∷ digits

abbrev Digit : List ℕ → Span
Digit text = Byte text digits

abbrev Sign : List ℕ → Span
Sign text = Byte text signs

-- ---- what SVG 1.1 alone has

abbrev In11 : Edition → Type 0
In11 Svg11 = Unit
In11 Svg2 = ⊥

in-11 : (edition : Edition) (P : Span) (i j : ℕ) → editions edition P never i j → In11 edition
in-11 Svg11 P i j p = tt
in-11 Svg2 P i j p = p

pub of-11 : (edition : Edition) (P : Span) (i j : ℕ) → editions edition P never i j → P i j
of-11 Svg11 P i j p = p
of-11 Svg2 P i j p = absurd p

module _ (edition : Edition) (text : List ℕ) where
  -- a number before its exponent
  abbrev Mantissa : Span
  Mantissa = digit-sequence edition text ∥ fractional-constant edition text

  abbrev Trailing : Span
  Trailing = digit-sequence edition text · Byte text points

  -- a number without its sign
  abbrev pub Unsigned : Span
  Unsigned = integer-constant edition text ∥ floating-point-constant edition text

  -- a number, not yet the longest
  abbrev Signed : Span
  Signed = opt (Sign text) · integer-constant edition text ∥ opt (Sign text) · floating-point-constant edition text

  mantissa-of : (i k : ℕ) → Unsigned i k → (m : ℕ) × Mantissa i m × ((m ≡ k) ⊎ exponent edition text m k)
  unfolding floating-point-constant
  mantissa-of i k (inl d) = (k, inl d, inl refl)
  mantissa-of i k (inr (inl (m, f, inl x))) = (m, inr f, inr (of-11 edition (exponent edition text) m k x))
  mantissa-of i k (inr (inl (m, f, inr z))) = (m, inr f, inl z)
  mantissa-of i k (inr (inr (m, d, x))) = (m, inl d, inr (of-11 edition (exponent edition text) m k x))

  mantissa-starts : (i k : ℕ) → Mantissa i k → stands text i unsigned_starts ≡ true
  unfolding fractional-constant digit-sequence among
  mantissa-starts i k (inl d) = (wider {l = digits} {m = unsigned_starts} tt d.1).there
  mantissa-starts i k (inr (inl (p, inl d, x))) = (wider {l = digits} {m = unsigned_starts} tt d.1).there
  mantissa-starts i k (inr (inl (p, inr z, x))) =
      subst (λ (y : ℕ). stands text y unsigned_starts ≡ true) (sym z) (wider {l = points} {m = unsigned_starts} tt x.1).there
  mantissa-starts i k (inr (inr t)) = (wider {l = digits} {m = unsigned_starts} tt (of-11 edition Trailing i k t).1.1).there

  unsigned-starts : (i k : ℕ) → Unsigned i k → stands text i unsigned_starts ≡ true
  unsigned-starts i k u = let p = mantissa-of i k u in mantissa-starts i p.0 p.1

  -- every number starts with a digit, a sign or a point
  pub number-starts : (i k : ℕ) → number edition text i k → stands text i number_starts ≡ true
  unfolding number among
  number-starts i k (inl (q, inl b, u), _) = (wider {l = signs} {m = number_starts} tt b).there
  number-starts i k (inr (q, inl b, u), _) = (wider {l = signs} {m = number_starts} tt b).there
  number-starts i k (inl (q, inr z, u), _) =
      subst (λ (y : ℕ). stands text y number_starts ≡ true) (sym z) (wider {l = unsigned_starts} {m = number_starts} tt (standing unsigned_starts q (unsigned-starts q k (inl u)))).there
  number-starts i k (inr (q, inr z, u), _) =
      subst (λ (y : ℕ). stands text y number_starts ≡ true) (sym z) (wider {l = unsigned_starts} {m = number_starts} tt (standing unsigned_starts q (unsigned-starts q k (inr u)))).there

  -- every number has a byte
  digits-grow : (i j : ℕ) → digit-sequence edition text i j → i < j
  unfolding digit-sequence
  digits-grow i j d = plus-lt d

  mantissa-grows : (i j : ℕ) → Mantissa i j → i < j
  unfolding fractional-constant
  mantissa-grows i j (inl d) = digits-grow i j d
  mantissa-grows i j (inr (inl (k, inl d, (m, b, c)))) = let x = digits-grow i k d in let y = b.next in let z = digits-grow m j c in omega arith
  mantissa-grows i j (inr (inl (k, inr e, (m, b, c)))) = let y = b.next in let z = digits-grow m j c in omega arith
  mantissa-grows i j (inr (inr t)) = let (k, d, b) = of-11 edition Trailing i j t in let x = digits-grow i k d in let y = b.next in omega arith

  exponent-grows : (i j : ℕ) → exponent edition text i j → i < j
  unfolding exponent
  exponent-grows i j (k, b, (m, inl c, d)) = let x = b.next in let y = c.next in let z = digits-grow m j d in omega arith
  exponent-grows i j (k, b, (m, inr e, d)) = let x = b.next in let z = digits-grow m j d in omega arith

  unsigned-grows : (i j : ℕ) → Unsigned i j → i < j
  unsigned-grows i j u = go (mantissa-of i j u)
    where
      go : (m : ℕ) × Mantissa i m × ((m ≡ j) ⊎ exponent edition text m j) → i < j
      go (m, w, inl e) = let x = mantissa-grows i m w in omega arith
      go (m, w, inr y) = let x = mantissa-grows i m w in let z = exponent-grows m j y in omega arith

  pub number-grows : (i j : ℕ) → number edition text i j → i < j
  unfolding number
  number-grows i j (inl (k, inl b, u), _) = let x = b.next in let y = unsigned-grows k j (inl u) in omega arith
  number-grows i j (inr (k, inl b, u), _) = let x = b.next in let y = unsigned-grows k j (inr u) in omega arith
  number-grows i j (inl (k, inr e, u), _) = let y = unsigned-grows k j (inl u) in omega arith
  number-grows i j (inr (k, inr e, u), _) = let y = unsigned-grows k j (inr u) in omega arith

-- ---- a mantissa, from the place past the sign

-- its three shapes, where the digits from a end at b
data Shape (edition : Edition) (text : List ℕ) (a b k : ℕ) : Type 0 where
  whole : plus (Digit text) a k → Shape edition text a b k
  fraction : stands text b points ≡ true → plus (Digit text) (b + 1) k → Shape edition text a b k
  trailing : In11 edition → stands text b points ≡ true → a < b → k ≡ b + 1 → Shape edition text a b k

module _ (edition : Edition) (text : List ℕ) (a b : ℕ) (r : longest (star (Digit text)) a b) where
  point_at : {p q : ℕ} → star (Digit text) a p → Byte text points p q → p ≡ b
  unfolding among
  point_at d x = run-same r d (other {l = points} digits tt x)

  fraction-shape : {p q k : ℕ} → star (Digit text) a p → Byte text points p q → plus (Digit text) q k → Shape edition text a b k
  fraction-shape {p} {q} {k} d x t =
      let h = point_at d x in
      fraction (subst (λ (y : ℕ). stands text y points ≡ true) h x.there)
      (subst (λ (y : ℕ). plus (Digit text) y k) (x.next ∙ ap (λ (y : ℕ). y + 1) h) t)

  shape : {k : ℕ} → Mantissa edition text a k → Shape edition text a b k
  unfolding fractional-constant digit-sequence
  shape {k} (inl d) = whole d
  shape {k} (inr (inl (p, inl d, (q, x, t)))) = fraction-shape (plus-star d) x t
  shape {k} (inr (inl (p, inr z, (q, x, t)))) = fraction-shape (none z) x t
  shape {k} (inr (inr t)) =
      let (p, d, x) = of-11 edition (Trailing edition text) a k t in
      let h = point_at (plus-star d) x in
      trailing (in-11 edition (Trailing edition text) a k t) (subst (λ (y : ℕ). stands text y points ≡ true) h x.there) (let g = plus-lt d in omega arith) (x.next ∙ ap (λ (y : ℕ). y + 1) h)

-- an e stands at the end of no digits but the last, and not where a point stands
exp-ends : {text : List ℕ} {x y k : ℕ} → longest (star (Digit text)) x y → star (Digit text) x k → stands text k exponent_marks ≡ true → k ≡ y
unfolding among
exp-ends {k = k} q d h = run-same q d (other {l = exponent_marks} digits tt (standing exponent_marks k h))

exp-point : (text : List ℕ) (k : ℕ) → stands text k exponent_marks ≡ true → stands text k points ≡ true → ⊥
unfolding among
exp-point text k h g = not-both {l = exponent_marks} {m = points} tt (standing exponent_marks k h) (standing points k g)

digits-stop : (text : List ℕ) (at : ℕ) → stands text (point_of text at) digits ≡ false
unfolding point_of
digits-stop text at = all-stopped digits text (whole_of text at)

module _ (text : List ℕ) (at : ℕ) where
  whole_run : longest (star (Digit text)) (whole_of text at) (point_of text at)
  unfolding point_of
  whole_run = run-found digits text (whole_of text at)

  fraction-run : longest (star (Digit text)) (fraction_of text at) (mark_of text at)
  unfolding mark_of
  fraction-run = run-found digits text (fraction_of text at)

  exponent-run : longest (star (Digit text)) (exponent_of text at) (end_of text at)
  unfolding end_of
  exponent-run = run-found digits text (exponent_of text at)

  -- the mantissa that `scan` found is the longest, and the only one that an e follows
  abbrev TheMantissa : Type 0
  TheMantissa = ((k : ℕ) → Mantissa Svg11 text (whole_of text at) k → k ≤ mark_of text at)
      × ((k : ℕ) → Mantissa Svg11 text (whole_of text at) k → stands text k exponent_marks ≡ true → k ≡ mark_of text at)

  module _ (h : stands text (point_of text at) points ≡ true) where
    after-point : fraction_of text at ≡ point_of text at + 1
    unfolding fraction_of
    after-point = (one-step points text (point_of text at)).0 h

    past-point : longest (star (Digit text)) (point_of text at + 1) (mark_of text at)
    past-point = subst (λ (y : ℕ). longest (star (Digit text)) y (mark_of text at)) after-point fraction-run

    pointed : TheMantissa
    pointed = (λ k m. most k (shape Svg11 text _ _ whole_run m), λ k m x. only k x (shape Svg11 text _ _ whole_run m))
      where
        most : (k : ℕ) → Shape Svg11 text (whole_of text at) (point_of text at) k → k ≤ mark_of text at
        most k (whole p) = let z = whole_run.1 k (plus-star p) in let y = mark-onward text at in omega (arith, after-point)
        most k (fraction _ p) = past-point.1 k (plus-star p)
        most k (trailing _ _ _ z) = let y = mark-onward text at in omega (arith, after-point)

        only : (k : ℕ) → stands text k exponent_marks ≡ true → Shape Svg11 text (whole_of text at) (point_of text at) k → k ≡ mark_of text at
        only k x (whole p) =
            absurd (exp-point text k x (subst (λ (y : ℕ). stands text y points ≡ true) (sym (exp-ends whole_run (plus-star p) x)) h))
        only k x (fraction _ p) = exp-ends past-point (plus-star p) x
        only k x (trailing _ _ _ z) = exp-ends past-point (none (sym z)) x

    pointed-there : no_digit text at ≡ false → Mantissa Svg11 text (whole_of text at) (mark_of text at)
    unfolding fractional-constant digit-sequence
    pointed-there some = ⊎_elim with-fraction without (lt-or (point_of text at + 1) (mark_of text at) (let y = mark-onward text at in omega (arith, after-point)))
      where
        lt-or : (m n : ℕ) → m ≤ n → (m < n) ⊎ (n ≡ m)
        lt-or m n le = ⊎_elim (λ e. inl (ltb-true m n e)) (λ e. inr (omega (arith, ltb-false m n e))) (either_way (ltb m n))

        the-point : Byte text points (point_of text at) (point_of text at + 1)
        the-point = standing points (point_of text at) h

        optional : (i j : ℕ) → star (Digit text) i j → opt (plus (Digit text)) i j
        optional i j s = ⊎_elim inr inl (star-or s)

        with-fraction : point_of text at + 1 < mark_of text at → Mantissa Svg11 text (whole_of text at) (mark_of text at)
        with-fraction lt = inr (inl (point_of text at, optional _ _ whole_run.0, (point_of text at + 1, the-point, star-plus past-point.0 lt)))

        without : mark_of text at ≡ point_of text at + 1 → Mantissa Svg11 text (whole_of text at) (mark_of text at)
        without e =
            let d : whole_of text at < point_of text at = omega (arith, digit-in-all text at some, after-point) in
            inr (inr (point_of text at, star-plus whole_run.0 d, subst (λ (y : ℕ). Byte text points (point_of text at) y) (sym e) the-point))

  module _ (h : stands text (point_of text at) points ≡ false) where
    no-point : fraction_of text at ≡ point_of text at
    unfolding fraction_of
    no-point = (one-step points text (point_of text at)).1 h

    no_fraction : mark_of text at ≡ point_of text at
    no_fraction =
        sym (star-stops stopped (subst (λ (y : ℕ). star (Digit text) y (mark_of text at)) no-point fraction-run.0))
      where
        stopped : stands text (point_of text at) digits ≡ false
        stopped = digits-stop text at

    unpointed : TheMantissa
    unpointed = (λ k m. most k (shape Svg11 text _ _ whole_run m), λ k m x. only k x (shape Svg11 text _ _ whole_run m))
      where
        most : (k : ℕ) → Shape Svg11 text (whole_of text at) (point_of text at) k → k ≤ mark_of text at
        most k (whole p) = let z = whole_run.1 k (plus-star p) in omega (arith, no_fraction)
        most k (fraction z p) = absurd (clash z h)
        most k (trailing _ z _ _) = absurd (clash z h)

        only : (k : ℕ) → stands text k exponent_marks ≡ true → Shape Svg11 text (whole_of text at) (point_of text at) k → k ≡ mark_of text at
        only k x (whole p) = exp-ends whole_run (plus-star p) x ∙ sym no_fraction
        only k x (fraction z p) = absurd (clash z h)
        only k x (trailing _ z _ _) = absurd (clash z h)

    unpointed-there : no_digit text at ≡ false → Mantissa Svg11 text (whole_of text at) (mark_of text at)
    unfolding digit-sequence
    unpointed-there some =
        let d : whole_of text at < point_of text at = omega (arith, digit-in-all text at some, no-point, no_fraction) in
        inl (subst (λ (y : ℕ). plus (Digit text) (whole_of text at) y) (sym no_fraction) (star-plus whole_run.0 d))

  the-mantissa : TheMantissa
  the-mantissa = ⊎_elim pointed unpointed (either_way (stands text (point_of text at) points))

  mantissa-there : no_digit text at ≡ false → Mantissa Svg11 text (whole_of text at) (mark_of text at)
  mantissa-there some = ⊎_elim (λ h. pointed-there h some) (λ h. unpointed-there h some) (either_way (stands text (point_of text at) points))

-- ---- its exponent

-- what starts with no sign, after an optional sign: the sign is the one that `scan` passed
sign_same : (text l : List ℕ) (i t : ℕ) → T (apartb signs l) → opt (Sign text) i t → stands text t l ≡ true → t ≡ past_one signs text i
sign_same text l i t a o g = ⊎_elim taken left (either_way (stands text i signs))
  where
    no_sign : stands text i signs ≡ true → i ≡ t → ⊥
    no_sign h e = not-both a (standing signs t (subst (λ (y : ℕ). stands text y signs ≡ true) e h)) (standing l t g)

    taken : stands text i signs ≡ true → t ≡ past_one signs text i
    taken h = ⊎_elim (λ b. b.next ∙ sym ((one-step signs text i).0 h)) (λ e. absurd (no_sign h e)) o

    left : stands text i signs ≡ false → t ≡ past_one signs text i
    left h = ⊎_elim (λ b. absurd (not_byte h b)) (λ e. sym e ∙ sym ((one-step signs text i).1 h)) o

signed-digits : (text : List ℕ) (i t k : ℕ) → opt (Sign text) i t → plus (Digit text) t k → t ≡ past_one signs text i
unfolding among
signed-digits text i t k o d = sign_same text digits i t tt o d.1.there

sign-before : (edition : Edition) (text : List ℕ) (i t k : ℕ) → opt (Sign text) i t → Unsigned edition text t k → t ≡ past_one signs text i
unfolding among
sign-before edition text i t k o u = sign_same text unsigned_starts i t tt o (unsigned-starts edition text t k u)

module _ (text : List ℕ) (at : ℕ) where
  mark-step :
      (stands text (mark_of text at) exponent_marks ≡ true → exponent_of text at ≡ past_one signs text (mark_of text at + 1))
      × (stands text (mark_of text at) exponent_marks ≡ false → exponent_of text at ≡ mark_of text at)
  unfolding exponent_of past_mark_of
  mark-step = (ap (λ t. cond t (past_one signs text (mark_of text at + 1)) (mark_of text at)), ap (λ t. cond t (past_one signs text (mark_of text at + 1)) (mark_of text at)))

  -- an exponent's digits are among those that `scan` found
  exponent-end : (k : ℕ) → exponent Svg11 text (mark_of text at) k → (exponent_of text at < k) × (k ≤ end_of text at)
  unfolding exponent digit-sequence
  exponent-end k (q, b, (t, o, d)) =
      let o' = subst (λ (y : ℕ). opt (Sign text) y t) b.next o in
      let e = signed-digits text (mark_of text at + 1) t k o' d ∙ sym (mark-step.0 b.there) in
      let d' = subst (λ (y : ℕ). plus (Digit text) y k) e d in
      (plus-lt d', (exponent-run text at).1 k (plus-star d'))

  -- the sign that `scan` passed
  sign-passed : (i : ℕ) → opt (Sign text) i (past_one signs text i)
  sign-passed i =
      ⊎_elim (λ h. inl (record { there = h; next = (one-step signs text i).0 h })) (λ h. inr (sym ((one-step signs text i).1 h))) (either_way (stands text i signs))

  -- an e with digits after it
  exponent-there : mark_of text at < exponent_of text at → exponent_of text at < end_of text at → exponent Svg11 text (mark_of text at) (end_of text at)
  unfolding exponent digit-sequence
  exponent-there m d = ⊎_elim marked (λ h. absurd (omega (arith, mark-step.1 h))) (either_way (stands text (mark_of text at) exponent_marks))
    where
      marked : stands text (mark_of text at) exponent_marks ≡ true → exponent Svg11 text (mark_of text at) (end_of text at)
      marked h = (
        mark_of text at + 1,
        standing exponent_marks (mark_of text at) h,
        (exponent_of text at, subst (λ (y : ℕ). opt (Sign text) (mark_of text at + 1) y) (sym (mark-step.0 h)) (sign-passed (mark_of text at + 1)), star-plus (exponent-run text at).0 d),
      )

  pub ends-bare : no_exponent_digit text at ≡ true → number_end Svg11 text at ≡ mark_of text at
  unfolding number_end
  ends-bare h = ap (λ t. cond t (mark_of text at) (end_of text at)) h

  pub ends-whole : no_exponent_digit text at ≡ false → number_end Svg11 text at ≡ end_of text at
  unfolding number_end
  ends-whole h = ap (λ t. cond t (mark_of text at) (end_of text at)) h

  -- the longest exponent from where the e would stand
  the-exponent : longest (opt (exponent Svg11 text)) (mark_of text at) (number_end Svg11 text at)
  the-exponent = ⊎_elim without with-one (either_way (no_exponent_digit text at))
    where
      without : no_exponent_digit text at ≡ true → longest (opt (exponent Svg11 text)) (mark_of text at) (number_end Svg11 text at)
      without h =
          let b = ends-bare h in
          let n = (exponent-in-none text at h).1 in
          (inr (sym b), λ k o. ⊎_elim (λ x. let z = exponent-end k x in absurd (omega arith)) (λ e. omega arith) o)

      with-one : no_exponent_digit text at ≡ false → longest (opt (exponent Svg11 text)) (mark_of text at) (number_end Svg11 text at)
      with-one h = ⊎_elim digits-after no-mark (exponent-in-all text at h)
        where
          digits-after : (mark_of text at < exponent_of text at) × (exponent_of text at < end_of text at) → longest (opt (exponent Svg11 text)) (mark_of text at) (number_end Svg11 text at)
          digits-after g = (
            inl (subst (λ (y : ℕ). exponent Svg11 text (mark_of text at) y) (sym (ends-whole h)) (exponent-there g.0 g.1)),
            λ k o. ⊎_elim (λ x. let z = exponent-end k x in let e = ends-whole h in omega arith) (λ e. let n = ends-whole h in omega arith) o,
          )

          no-mark : mark_of text at ≡ end_of text at → longest (opt (exponent Svg11 text)) (mark_of text at) (number_end Svg11 text at)
          no-mark e = (
            inr (e ∙ sym (ends-whole h)),
            λ k o. ⊎_elim (λ x. let z = exponent-end k x in let g = exponent-onward text at in absurd (omega arith)) (λ z. let n = ends-whole h in omega arith) o,
          )

  -- ---- the number, without its sign and with it

  abbrev TheUnsigned : Edition → Type 0
  TheUnsigned edition = longest (Unsigned edition text) (whole_of text at) (number_end edition text at)

  exp-stands : (m k : ℕ) → exponent Svg11 text m k → stands text m exponent_marks ≡ true
  unfolding exponent
  exp-stands m k x = x.1.there

  of-mantissa : (i m j : ℕ) → Mantissa Svg11 text i m → opt (exponent Svg11 text) m j → Unsigned Svg11 text i j
  unfolding floating-point-constant
  of-mantissa i m j (inl d) (inl x) = inr (inr (m, d, x))
  of-mantissa i m j (inl d) (inr z) = inl (subst (λ (y : ℕ). digit-sequence Svg11 text i y) z d)
  of-mantissa i m j (inr f) o = inr (inl (m, f, o))

  unsigned-11 : no_digit text at ≡ false → TheUnsigned Svg11
  unsigned-11 some = (of-mantissa _ (mark_of text at) _ (mantissa-there text at some) the-exponent.0, λ k u. most k (mantissa-of Svg11 text _ k u))
    where
      most : (k : ℕ) → (n : ℕ) × Mantissa Svg11 text (whole_of text at) n × ((n ≡ k) ⊎ exponent Svg11 text n k) → k ≤ number_end Svg11 text at
      most k (n, d, inl z) = let y = (the-mantissa text at).0 n d in let w = the-exponent.1 (mark_of text at) (inr refl) in omega arith
      most k (n, d, inr z) =
          let g = (the-mantissa text at).1 n d (exp-stands n k z) in
          the-exponent.1 k (inl (subst (λ (y : ℕ). exponent Svg11 text y k) g z))

  -- SVG 2: digits, or a point with digits after it, and no exponent
  mantissa-2 : (i k : ℕ) → Unsigned Svg2 text i k → Mantissa Svg2 text i k
  unfolding floating-point-constant
  mantissa-2 i k (inl d) = inl d
  mantissa-2 i k (inr (inl (m, f, inl x))) = absurd x
  mantissa-2 i k (inr (inl (m, f, inr z))) = inr (subst (λ (y : ℕ). fractional-constant Svg2 text i y) z f)
  mantissa-2 i k (inr (inr (m, d, x))) = absurd x

  shape-2 : (k : ℕ) → Unsigned Svg2 text (whole_of text at) k → Shape Svg2 text (whole_of text at) (point_of text at) k
  shape-2 k u = shape Svg2 text _ _ (whole_run text at) (mantissa-2 _ k u)

  -- digits after a point, which then stands
  module _ (after : ltb (fraction_of text at) (mark_of text at) ≡ true) where
    pub ends-fraction : number_end Svg2 text at ≡ mark_of text at
    unfolding number_end
    ends-fraction = ap (λ t. cond t (mark_of text at) (point_of text at)) after

    point-stands : stands text (point_of text at) points ≡ true
    point-stands = ⊎_elim (λ h. h) (λ h. absurd (omega (arith, ltb-true (fraction_of text at) (mark_of text at) after, no-point text at h, no_fraction text at h))) (either_way (stands text (point_of text at) points))

    behind : plus (Digit text) (point_of text at + 1) (mark_of text at)
    behind =
        star-plus (past-point text at point-stands).0 (omega (arith, ltb-true (fraction_of text at) (mark_of text at) after, after-point text at point-stands))

    fraction-word : fractional-constant Svg2 text (whole_of text at) (mark_of text at)
    unfolding fractional-constant digit-sequence
    fraction-word =
        inl (point_of text at, ⊎_elim inr inl (star-or (whole_run text at).0), (point_of text at + 1, standing points (point_of text at) point-stands, behind))

    fraction-2 : TheUnsigned Svg2
    unfolding floating-point-constant
    fraction-2 = (
      subst (λ (y : ℕ). Unsigned Svg2 text (whole_of text at) y) (sym ends-fraction) (inr (inl (mark_of text at, fraction-word, inr refl))),
      λ k u. most k (shape-2 k u),
    )
      where
        most : (k : ℕ) → Shape Svg2 text (whole_of text at) (point_of text at) k → k ≤ number_end Svg2 text at
        most k (whole p) = let z = (whole_run text at).1 k (plus-star p) in let y = ltb-true (fraction_of text at) (mark_of text at) after in omega (arith, after-point text at point-stands, ends-fraction)
        most k (fraction _ p) = let z = (past-point text at point-stands).1 k (plus-star p) in omega (arith, ends-fraction)
        most k (trailing t _ _ _) = absurd t

  -- none: the digits before it, and a point is left
  module _ (after : ltb (fraction_of text at) (mark_of text at) ≡ false) where
    pub ends-point : number_end Svg2 text at ≡ point_of text at
    unfolding number_end
    ends-point = ap (λ t. cond t (mark_of text at) (point_of text at)) after

    whole-2 : no_digit text at ≡ false → TheUnsigned Svg2
    unfolding digit-sequence
    whole-2 some =
        let d : whole_of text at < point_of text at = omega (arith, digit-in-all text at some, ltb-false (fraction_of text at) (mark_of text at) after) in (
          inl (subst (λ (y : ℕ). plus (Digit text) (whole_of text at) y) (sym ends-point) (star-plus (whole_run text at).0 d)),
          λ k u. most k (shape-2 k u),
        )
      where
        most : (k : ℕ) → Shape Svg2 text (whole_of text at) (point_of text at) k → k ≤ number_end Svg2 text at
        most k (whole p) = let z = (whole_run text at).1 k (plus-star p) in omega (arith, ends-point)
        most k (fraction h p) =
            let z = (past-point text at h).1 k (plus-star p) in
            let y = plus-lt p in
            absurd (omega (arith, after-point text at h, ltb-false (fraction_of text at) (mark_of text at) after))
        most k (trailing t _ _ _) = absurd t

  the-unsigned : (edition : Edition) → no_digit text at ≡ false → TheUnsigned edition
  the-unsigned Svg11 some = unsigned-11 some
  the-unsigned Svg2 some =
      ⊎_elim (λ h. fraction-2 h) (λ h. whole-2 h some) (either_way (ltb (fraction_of text at) (mark_of text at)))

module _ (edition : Edition) (text : List ℕ) (at : ℕ) where
  -- an optional sign before a number without one is the sign that `scan` passed
  after-sign : (t k : ℕ) → opt (Sign text) at t → Unsigned edition text t k → Unsigned edition text (whole_of text at) k
  unfolding whole_of
  after-sign t k o u = subst (λ (y : ℕ). Unsigned edition text y k) (sign-before edition text at t k o u) u

  unsigned_of : (k : ℕ) → Signed edition text at k → Unsigned edition text (whole_of text at) k
  unsigned_of k (inl (t, o, u)) = after-sign t k o (inl u)
  unsigned_of k (inr (t, o, u)) = after-sign t k o (inr u)

  whole-passed : opt (Sign text) at (whole_of text at)
  unfolding whole_of
  whole-passed = sign-passed text at at

  signed_of : (k : ℕ) → Unsigned edition text (whole_of text at) k → Signed edition text at k
  signed_of k (inl u) = inl (whole_of text at, whole-passed, u)
  signed_of k (inr u) = inr (whole_of text at, whole-passed, u)

  -- where there is a digit, the number ends at `number_end` and nowhere else
  pub number-only : no_digit text at ≡ false → Only (number edition text) at (number_end edition text at)
  unfolding number
  number-only some =
      let u = the-unsigned text at edition some in
      let l : longest (Signed edition text) at (number_end edition text at) = (signed_of _ u.0, λ k n. u.1 k (unsigned_of k n)) in
      (l, λ q n. longest-same (Signed edition text) n l)

  -- a sign or none, and the longest number without one: the longest number
  pub longest-signed : (k : ℕ) → (opt (Sign text) · longest (Unsigned edition text)) at k → number edition text at k
  unfolding number whole_of
  longest-signed k (t, o, l) = (signed_of k (after-sign t k o l.0), λ j n. l.1 j (subst (λ (y : ℕ). Unsigned edition text y j) (sym (passed t k o l.0)) (unsigned_of j n)))
    where
      passed : (t k : ℕ) → opt (Sign text) at t → Unsigned edition text t k → t ≡ whole_of text at
      passed t k o u = sign-before edition text at t k o u

  -- where there is none, there is no number
  pub number-lacks : no_digit text at ≡ true → Lacks (number edition text) at
  unfolding number
  number-lacks h q n = let p = mantissa-of edition text _ q (unsigned_of q n.0) in none_of p.0 (shape edition text _ _ (whole_run text at) p.1)
    where
      none_of : (k : ℕ) → Shape edition text (whole_of text at) (point_of text at) k → ⊥
      none_of k (whole p) = let z = (whole_run text at).1 k (plus-star p) in let y = plus-lt p in omega (arith, (digit-in-none text at h).0)
      none_of k (fraction g p) =
          let z = (past-point text at g).1 k (plus-star p) in
          let y = plus-lt p in
          omega (arith, (digit-in-none text at h).1, after-point text at g)
      none_of k (trailing _ g y z) = omega (arith, (digit-in-none text at h).0)

  pub signed-longest : (k : ℕ) → number edition text at k → (opt (Sign text) · longest (Unsigned edition text)) at k
  signed-longest k n = ⊎_elim (λ h. absurd (number-lacks h k n)) found (either_way (no_digit text at))
    where
      found : no_digit text at ≡ false → (opt (Sign text) · longest (Unsigned edition text)) at k
      found some =
          (whole_of text at, whole-passed, subst (longest (Unsigned edition text) (whole_of text at)) (sym ((number-only some).1 k n)) (the-unsigned text at edition some))

  -- ---- what stands where a number ends

  end-stops : stands text (number_end edition text at) digits ≡ false
  unfolding point_of mark_of end_of
  end-stops = stops edition
    where
      stopped : (end from : ℕ) → end ≡ past_digits_of text from → stands text end digits ≡ false
      stopped end from e = subst (λ (y : ℕ). stands text y digits ≡ false) (sym e) (all-stopped digits text from)

      stops : (edition : Edition) → stands text (number_end edition text at) digits ≡ false
      stops Svg11 =
          ⊎_elim (λ h. stopped _ (fraction_of text at) (ends-bare text at h)) (λ h. stopped _ (exponent_of text at) (ends-whole text at h)) (either_way (no_exponent_digit text at))
      stops Svg2 =
          ⊎_elim (λ h. stopped _ (fraction_of text at) (ends-fraction text at h)) (λ h. stopped _ (whole_of text at) (ends-point text at h)) (either_way (ltb (fraction_of text at) (mark_of text at)))

  -- the longest number leaves no digit behind it
  pub number-stops : (j : ℕ) → number edition text at j → stands text j digits ≡ false
  number-stops j n = ⊎_elim (λ h. absurd (number-lacks h j n)) found (either_way (no_digit text at))
    where
      found : no_digit text at ≡ false → stands text j digits ≡ false
      found some = subst (λ (y : ℕ). stands text y digits ≡ false) (sym ((number-only some).1 j n)) end-stops

  -- ---- a number without a sign

  -- where no sign stands, the sign that a number may have is left out
  signless : (k : ℕ) → stands text at signs ≡ false → Signed edition text at k → Unsigned edition text at k
  signless k h (inl (t, inl b, u)) = absurd (not_byte h b)
  signless k h (inl (t, inr z, u)) = inl (subst (λ (y : ℕ). integer-constant edition text y k) (sym z) u)
  signless k h (inr (t, inl b, u)) = absurd (not_byte h b)
  signless k h (inr (t, inr z, u)) = inr (subst (λ (y : ℕ). floating-point-constant edition text y k) (sym z) u)

  with-sign : (k : ℕ) → Unsigned edition text at k → Signed edition text at k
  with-sign k (inl u) = inl (at, inr refl, u)
  with-sign k (inr u) = inr (at, inr refl, u)

  -- no sign stands where a nonnegative-number does
  pub nonnegative-no-sign : (j : ℕ) → nonnegative-number edition text at j → stands text at signs ≡ false
  unfolding nonnegative-number among
  nonnegative-no-sign j n = other {l = unsigned_starts} signs tt (standing unsigned_starts at (unsigned-starts edition text at j n.0))

  -- it is a number there, also the longest
  pub nonnegative-is : (j : ℕ) → nonnegative-number edition text at j → number edition text at j
  unfolding nonnegative-number number
  nonnegative-is j n = (with-sign j n.0, λ k s. n.1 k (signless k (nonnegative-no-sign j n) s))

  -- and a number at whose place no sign stands is a nonnegative-number
  pub nonnegative-of : (j : ℕ) → stands text at signs ≡ false → number edition text at j → nonnegative-number edition text at j
  unfolding nonnegative-number number
  nonnegative-of j h n = (signless j h n.0, λ k u. n.1 k (with-sign k u))
