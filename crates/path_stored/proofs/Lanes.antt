-- The kinds of a few segments in one number: what is left of it when its first lanes are shifted out, a binary digit of every lane at once, and the sum of the lanes. Assumes nothing.
use Prim.Native.Nat.{ℕ, zero, suc, ◌+◌, ◌-◌, ◌*◌, ◌/◌, ◌%◌, ◌^◌, ◌≤◌, ◌<◌}
use mathlib.Core.Path.{◌≡◌, refl, sym, ap, ap₂, ◌∙◌}
use mathlib.Core.Bool.{Bool, true, false}
use mathlib.Core.List.{List}
use native.Mathlib.Nat.{add_comm, le_trans, mul-add, mul_assoc}
use native.Mathlib.Omega.{arith}
use borrow.Author.Tests.{ltb-true, ltb-false}
use lib.Bits.{bit_and, and_block, and_mask, and_zero_r}
use lib.Dec.{ltb, lit<}
use lib.ListN.{length, get_or}
use lib.Pow.{shr-shr, high}
use Rattle.path_segment.specs.Segments.{width_of, tables_of}
use Rattle.path_segment.proofs.Widths.{tables-most}
use Rattle.path_stored.specs.Stored.{before}
use Rattle.path_stored.specs.Counts.{Adds}
use Rattle.path_stored.specs.Near.{laid, itself, more_fields, Known, Eight, Near}
use Rattle.path_stored.proofs.Counting.{before-zero, sum_more}

-- ---- one kind

-- a lane: 3 * kind + 5 and 4 and 5 more than the kind have the binary digit of 8 where they are told to
table-digit : (kind : ℕ) → kind < 5 → (3 * kind + 5) / 8 % 2 ≡ tables_of kind
unfolding tables_of
table-digit zero known = refl
table-digit (suc zero) known = refl
table-digit (suc (suc zero)) known = refl
table-digit (suc (suc (suc zero))) known = refl
table-digit (suc (suc (suc (suc zero)))) known = refl
table-digit (suc (suc (suc (suc (suc kind))))) known = absurd (omega arith)

-- a kind's fields, and that they are not fewer than 4
fields-digits : (kind : ℕ) → kind < 5
    → (2 * kind + (1 * kind + 5) / 8 % 2 ≡ more_fields kind + 2 * ((1 * kind + 4) / 8 % 2)) × (width_of kind ≡ 4 + more_fields kind) × (more_fields kind ≤ 7)
unfolding width_of
fields-digits zero known = (refl, refl, omega arith)
fields-digits (suc zero) known = (refl, refl, omega arith)
fields-digits (suc (suc zero)) known = (refl, refl, omega arith)
fields-digits (suc (suc (suc zero))) known = (refl, refl, omega arith)
fields-digits (suc (suc (suc (suc zero)))) known = (refl, refl, omega arith)
fields-digits (suc (suc (suc (suc (suc kind))))) known = absurd (omega arith)

-- ---- numbers of lanes

over : (a b c : ℕ) → a * (b * 256 + c) ≡ a * b * 256 + a * c
over a b c = mul-add a (b * 256) c ∙ ap (λ (x : ℕ). x + a * c) (sym (mul_assoc a b 256))

-- 1 in each of so many lanes
unfoldable pub ones : ℕ → ℕ
ones zero = 0
ones (suc n) = ones n * 256 + 1

-- the last segments of a part, eight or all, and those before them, of the eight before: where both start and end
record Parts (from to last first second : ℕ) : Type 0 where
  end : to - last + last ≡ to
  within : to - 8 - (to - from - last) + (to - from - last) ≤ to
  short : last + (to - from - last) ≤ 16
  starts : first ≡ from
  ends : to - 8 - (to - from - last) + (to - from - last) ≡ second

few-parts : (from to last : ℕ) → from ≤ to → 16 ≤ to → last ≡ to - from → to - from < 8 → Parts from to last (to - last) (to - 8 - (to - from - last))
few-parts from to last order enough all less =
    let none : to - from - last ≡ 0 = omega arith in
    record { end = omega arith; within = omega arith; short = omega arith; starts = omega arith; ends = omega arith }

many-parts : (from to last : ℕ) → from ≤ to → to ≤ from + 16 → 16 ≤ to → last ≡ 8 → 8 ≤ to - from → Parts from to last (to - 8 - (to - from - last)) (to - last)
many-parts from to last order short enough eight more = record { end = omega arith; within = omega arith; short = omega arith; starts = omega arith; ends = omega arith }

-- what is left of two sums by 255, where they are small
left-of : (a b c d m n : ℕ) → a ≡ c + 255 * m → b ≡ d + 255 * n → c + d < 255 → (a + b) % 255 ≡ c + d
left-of a b c d m n p q small = omega arith

-- eight kinds, read one by one
pub word-is : (kinds : List ℕ) (at : ℕ)
    → get_or kinds at 0 + get_or kinds (at + 1) 0 * 256 + get_or kinds (at + 2) 0 * 65536 + get_or kinds (at + 3) 0 * 16777216 + get_or kinds (at + 4) 0 * 4294967296
    + get_or kinds (at + 5) 0 * 1099511627776 + get_or kinds (at + 6) 0 * 281474976710656 + get_or kinds (at + 7) 0 * 72057594037927936
    ≡ laid itself kinds at 8
unfolding laid
word-is kinds at =
    let one : at + 1 ≡ suc at = omega arith in
    let two : at + 2 ≡ suc (suc at) = omega arith in
    let three : at + 3 ≡ suc (suc (suc at)) = omega arith in
    let four : at + 4 ≡ suc (suc (suc (suc at))) = omega arith in
    let five : at + 5 ≡ suc (suc (suc (suc (suc at)))) = omega arith in
    let six : at + 6 ≡ suc (suc (suc (suc (suc (suc at))))) = omega arith in
    let seven : at + 7 ≡ suc (suc (suc (suc (suc (suc (suc at)))))) = omega arith in
    rw (one, two, three, four, five, six, seven) (omega arith)

module _ (kinds : List ℕ) (known : Known kinds) where
  -- ---- the first lanes shifted out

  drop-lanes : (m n at : ℕ) → m ≤ n → at + n ≤ length kinds → laid itself kinds at n / 2 ^ (8 * m) ≡ laid itself kinds (at + m) (n - m)
  unfolding laid
  drop-lanes zero n at order inside =
      let e : at + 0 ≡ at = omega arith in
      let f : n - 0 ≡ n = omega arith in
      let whole : laid itself kinds at n / 1 ≡ laid itself kinds at n = omega arith in
      whole ∙ sym (ap₂ (λ (i : ℕ) (k : ℕ). laid itself kinds i k) e f)
  drop-lanes (suc m) zero at order inside = absurd (omega arith)
  drop-lanes (suc m) (suc n) at order inside =
      let L = laid itself kinds (suc at) n in
      let kind = get_or kinds at 0 in
      let byte : kind < 2 ^ 8 = omega (arith, known at (omega arith)) in
      let split : 8 * suc m ≡ 8 + 8 * m = omega arith in
      let e : suc at + m ≡ at + suc m = omega arith in
      let f : n - m ≡ suc n - suc m = omega arith in
      ap (λ (i : ℕ). (L * 256 + kind) / 2 ^ i) split
      ∙ sym (shr-shr (L * 256 + kind) 8 (8 * m))
      ∙ ap (λ (x : ℕ). x / 2 ^ (8 * m)) (high L 8 byte)
      ∙ drop-lanes m n (suc at) (omega arith) (omega arith)
      ∙ ap₂ (λ (i : ℕ) (k : ℕ). laid itself kinds i k) e f

  -- the last few of eight, by two shifts
  pub last-lanes : (end few down word : ℕ) → 8 ≤ end → end ≤ length kinds → few ≤ 8 → down ≡ 4 * (8 - few) → word ≡ laid itself kinds (end - 8) 8
      → word / 2 ^ down / 2 ^ down ≡ laid itself kinds (end - few) few
  last-lanes end few down word enough inside short is e =
      let twice : down + down ≡ 8 * (8 - few) = omega arith in
      let at : end - 8 + (8 - few) ≡ end - few = omega arith in
      let size : 8 - (8 - few) ≡ few = omega arith in
      shr-shr word down down
      ∙ ap₂ (λ (x : ℕ) (i : ℕ). x / 2 ^ i) e twice
      ∙ drop-lanes (8 - few) 8 (end - 8) (omega arith) (omega arith)
      ∙ ap₂ (λ (i : ℕ) (k : ℕ). laid itself kinds i k) at size

  -- ---- a binary digit of every lane

  digit-lane : (X v M : ℕ) → v < 256 → bit_and ((X * 256 + v) / 8) (M * 256 + 1) ≡ bit_and (X / 8) M * 256 + v / 8 % 2
  digit-lane X v M small =
      let rest = X % 8 * 32 + v / 8 in
      let parts : (X * 256 + v) / 8 ≡ X / 8 * 256 + rest = omega arith in
      let one : rest % 2 ≡ v / 8 % 2 = omega arith in
      ap (λ (x : ℕ). bit_and x (M * 256 + 1)) parts
      ∙ and_block 8 (X / 8) M rest 1 (omega arith) (lit< tt)
      ∙ ap (λ (x : ℕ). bit_and (X / 8) M * 256 + x) (and_mask rest 1 ∙ one)

  -- 8's digit of factor * kind + more, where `more` itself has none: of so many kinds, in lanes of which others are left
  module _ (factor more : ℕ) (small : (kind : ℕ) → kind < 5 → factor * kind + more < 256) (none : more < 8) where
    abbrev digit : ℕ → ℕ
    digit kind = (factor * kind + more) / 8 % 2

    no-digits : (lanes : ℕ) → bit_and (more * ones lanes / 8) (ones lanes) ≡ 0
    unfolding ones
    no-digits zero = and_zero_r (more * 0 / 8)
    no-digits (suc lanes) =
        let O = ones lanes in
        let sum : more * (O * 256 + 1) ≡ more * O * 256 + more = omega (arith, over more O 1) in
        let e = no-digits lanes in
        ap (λ (x : ℕ). bit_and (x / 8) (O * 256 + 1)) sum ∙ digit-lane (more * O) more O (omega arith) ∙ omega (arith, e)

    digits : (lanes n at : ℕ) → n ≤ lanes → at + n ≤ length kinds → bit_and ((factor * laid itself kinds at n + more * ones lanes) / 8) (ones lanes) ≡ laid digit kinds at n
    unfolding laid ones
    digits lanes zero at order inside =
        let sum : factor * 0 + more * ones lanes ≡ more * ones lanes = omega arith in
        ap (λ (x : ℕ). bit_and (x / 8) (ones lanes)) sum ∙ no-digits lanes
    digits zero (suc n) at order inside = absurd (omega arith)
    digits (suc lanes) (suc n) at order inside =
        let L = laid itself kinds (suc at) n in
        let kind = get_or kinds at 0 in
        let O = ones lanes in
        let sum : factor * (L * 256 + kind) + more * (O * 256 + 1) ≡ (factor * L + more * O) * 256 + (factor * kind + more) = omega (arith, over factor L kind, over more O 1) in
        ap (λ (x : ℕ). bit_and (x / 8) (O * 256 + 1)) sum
        ∙ digit-lane (factor * L + more * O) (factor * kind + more) O (small kind (known at (omega arith)))
        ∙ ap (λ (x : ℕ). x * 256 + digit kind) (digits lanes n (suc at) (omega arith) (omega arith))

  -- ---- lane by lane

  module _ (f : ℕ → ℕ) (few : (kind : ℕ) → kind < 5 → f kind ≤ 7) where
    pub laid-most : (lanes n at : ℕ) → n ≤ lanes → at + n ≤ length kinds → laid f kinds at n ≤ 7 * ones lanes
    unfolding laid ones
    laid-most lanes zero at order inside = omega arith
    laid-most zero (suc n) at order inside = absurd (omega arith)
    laid-most (suc lanes) (suc n) at order inside = omega (arith, laid-most lanes n (suc at) (omega arith) (omega arith), few (get_or kinds at 0) (known at (omega arith)))

    -- what a number of lanes adds up to: what is left of it by 255, as each lane further on is worth 256 times as much
    record Summed (at n : ℕ) : Type 0 where
      sum : ℕ
      many : ℕ
      is : laid f kinds at n ≡ sum + 255 * many
      adds : Adds f kinds at (at + n) sum
      most : sum ≤ 7 * n

    summed : (n at : ℕ) → at + n ≤ length kinds → Summed at n
    unfolding laid
    summed zero at inside = let h = ap (before f kinds) (nothing-more at) in record { sum = 0; many = 0; is = refl; adds = omega (arith, h); most = omega arith }
      where
        nothing-more : (at : ℕ) → at + 0 ≡ at
        nothing-more at = omega arith
    summed (suc n) at inside =
        let s = summed n (suc at) (omega arith) in
        let kind = get_or kinds at 0 in
        let first : before f kinds at + f kind ≡ before f kinds (at + 1) = sum_more f kinds at (omega arith) refl refl in
        let next : at + 1 ≡ suc at = omega arith in
        let end : suc at + n ≡ at + suc n = omega arith in
        record {
          sum = s.sum + f kind;
          many = s.many * 256 + s.sum;
          is = omega (arith, s.is);
          adds = omega (arith, first, ap (before f kinds) next, s.adds, ap (before f kinds) end);
          most = omega (arith, s.most, few kind (known at (omega arith)));
        }

    -- a part's lanes, n from `at` on, and those of another, whose segments are those before it, or none
    two-parts : (from at to start n m high low : ℕ) → at + n ≡ to → to ≤ length kinds → start + m ≤ length kinds → n + m ≤ 16 → high ≡ laid f kinds at n → low ≡ laid f kinds start m
        → before f kinds from + before f kinds (start + m) ≡ before f kinds at + before f kinds start → Adds f kinds from to ((high + low) % 255)
    two-parts from at to start n m high low end inside within short p q e =
        let h = summed n at (omega arith) in
        let l = summed m start within in
        let left : (high + low) % 255 ≡ h.sum + l.sum = left-of high low h.sum l.sum h.many l.many (p ∙ h.is) (q ∙ l.is) (small n m h.sum l.sum short h.most l.most) in
        sums (before f kinds from) (before f kinds at) (before f kinds to) (before f kinds start) (before f kinds (start + m)) (before f kinds (at + n)) h.sum l.sum _
        left e (ap (before f kinds) end) h.adds l.adds
      where
        small : (n m a b : ℕ) → n + m ≤ 16 → a ≤ 7 * n → b ≤ 7 * m → a + b < 255
        small n m a b h p q = omega arith

        sums : (a b c d e g x y r : ℕ) → r ≡ x + y → a + e ≡ b + d → g ≡ c → b + x ≡ g → d + y ≡ e → a + r ≡ c
        sums a b c d e g x y r p q s t u = omega arith

    -- the eight last of at most 16, or all, and those before them
    pub joined : (from to last high low : ℕ) → Near kinds from to → Eight (to - from) last → high ≡ laid f kinds (to - last) last
        → low ≡ laid f kinds (to - 8 - (to - from - last)) (to - from - last) → Adds f kinds from to ((high + low) % 255)
    joined from to last high low near eight p q = go (ltb (to - from) 8) refl
      where
        go : (b : Bool) → ltb (to - from) 8 ≡ b → Adds f kinds from to ((high + low) % 255)
        go true e =
            let i = few-parts from to last near.order near.enough (eight.all (ltb-true (to - from) 8 e)) (ltb-true (to - from) 8 e) in
            two-parts from (to - last) to (to - 8 - (to - from - last)) last (to - from - last) high low i.end near.inside (le_trans i.within near.inside) i.short p q
            (ap₂ (λ (x : ℕ) (y : ℕ). before f kinds x + before f kinds y) (sym i.starts) i.ends)
        go false e =
            let i = many-parts from to last near.order near.short near.enough (eight.many (ltb-false (to - from) 8 e)) (ltb-false (to - from) 8 e) in
            two-parts from (to - last) to (to - 8 - (to - from - last)) last (to - from - last) high low i.end near.inside (le_trans i.within near.inside) i.short p q
            (ap₂ (λ (x : ℕ) (y : ℕ). before f kinds x + before f kinds y) (sym i.starts) i.ends ∙ add_comm _ _)

  laid_same : (f g : ℕ → ℕ) → ((kind : ℕ) → kind < 5 → f kind ≡ g kind) → (n at : ℕ) → at + n ≤ length kinds → laid f kinds at n ≡ laid g kinds at n
  unfolding laid
  laid_same f g same zero at inside = refl
  laid_same f g same (suc n) at inside = ap₂ (λ (x : ℕ) (y : ℕ). x * 256 + y) (laid_same f g same n (suc at) (omega arith)) (same (get_or kinds at 0) (known at (omega arith)))

  fields_laid : (n at : ℕ) → at + n ≤ length kinds → 2 * laid itself kinds at n + laid (λ (kind : ℕ). (1 * kind + 5) / 8 % 2) kinds at n
      ≡ laid more_fields kinds at n + 2 * laid (λ (kind : ℕ). (1 * kind + 4) / 8 % 2) kinds at n
  unfolding laid
  fields_laid zero at inside = refl
  fields_laid (suc n) at inside = omega (arith, fields_laid n (suc at) (omega arith), (fields-digits (get_or kinds at 0) (known at (omega arith))).0)

  -- ---- the tables and the fields of up to eight kinds

  module _ (at n word : ℕ) (short : n ≤ 8) (inside : at + n ≤ length kinds) (is : word ≡ laid itself kinds at n) where
    pub table-lanes : bit_and ((3 * word + 361700864190383365) / 8) 72340172838076673 ≡ laid tables_of kinds at n
    unfolding ones
    table-lanes =
        ap (λ (x : ℕ). bit_and ((3 * x + 361700864190383365) / 8) 72340172838076673) is
        ∙ digits 3 5 (λ kind known. omega arith) (lit< tt) 8 n at short inside
        ∙ laid_same (λ (kind : ℕ). (3 * kind + 5) / 8 % 2) tables_of table-digit n at inside

    -- 8's digit of the kind and so much more
    with-more : (more : ℕ) → more < 8 → bit_and ((word + more * 72340172838076673) / 8) 72340172838076673 ≡ laid (λ (kind : ℕ). (1 * kind + more) / 8 % 2) kinds at n
    unfolding ones
    with-more more none =
        let e : word + more * 72340172838076673 ≡ 1 * laid itself kinds at n + more * 72340172838076673 = omega (arith, is) in
        ap (λ (x : ℕ). bit_and (x / 8) 72340172838076673) e ∙ digits 1 more (λ kind known. omega arith) none 8 n at short inside

    pub field-lanes : 2 * word + bit_and ((word + 361700864190383365) / 8) 72340172838076673 ≡ laid more_fields kinds at n + 2 * bit_and ((word + 289360691352306692) / 8) 72340172838076673
    field-lanes = omega (arith, is, with-more 5 (lit< tt), with-more 4 (lit< tt), fields_laid n at inside)

  -- ---- 4 fields each, and those above

  fields-above : (i : ℕ) → i ≤ length kinds → before width_of kinds i ≡ 4 * i + before more_fields kinds i
  fields-above zero inside = omega (arith, before-zero width_of kinds, before-zero more_fields kinds)
  fields-above (suc i) inside =
      let next : i + 1 ≡ suc i = omega arith in
      let h : i < length kinds = omega arith in
      let w = sum_more width_of kinds i h refl refl in
      let m = sum_more more_fields kinds i h refl refl in
      omega (arith, fields-above i (omega arith), w, m, ap (before width_of kinds) next, ap (before more_fields kinds) next, (fields-digits (get_or kinds i 0) (known i h)).1)

  pub all-fields : (from to more : ℕ) → from ≤ to → to ≤ length kinds → Adds more_fields kinds from to more → Adds width_of kinds from to (4 * (to - from) + more)
  all-fields from to more order inside a = omega (arith, fields-above from (omega arith), fields-above to inside)

pub more-few : (kind : ℕ) → kind < 5 → more_fields kind ≤ 7
more-few kind known = (fields-digits kind known).2

pub tables-few : (kind : ℕ) → kind < 5 → tables_of kind ≤ 7
tables-few kind known = omega (arith, tables-most kind)

-- at most eight, and at most eight more
pub record Halves (few last : ℕ) : Type 0 where
  pub short : last ≤ 8
  pub within : last ≤ few
  pub rest : few - last ≤ 8

pub halves : (few last : ℕ) → Eight few last → few ≤ 16 → Halves few last
halves few last eight h = go (ltb few 8) refl
  where
    go : (b : Bool) → ltb few 8 ≡ b → Halves few last
    go true e = let all = eight.all (ltb-true few 8 e) in let less = ltb-true few 8 e in record { short = omega arith; within = omega arith; rest = omega arith }
    go false e = let all = eight.many (ltb-false few 8 e) in let more = ltb-false few 8 e in record { short = omega arith; within = omega arith; rest = omega arith }

-- no number of eight lanes is above this
pub lanes-most : (f : ℕ → ℕ) → ((kind : ℕ) → kind < 5 → f kind ≤ 7) → (kinds : List ℕ) → Known kinds → (n at word : ℕ) → n ≤ 8 → at + n ≤ length kinds → word ≡ laid f kinds at n
    → word ≤ 506381209866536711
unfolding ones
lanes-most f few kinds known n at word short inside is = omega (arith, is, laid-most kinds known f few 8 n at short inside)
