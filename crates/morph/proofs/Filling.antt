-- The loop that puts the shape between into an output, one number before the middle and one past it at a time. Assumes nothing.
use Prim.Native.Nat.{ℕ, zero, suc, ◌+◌, ◌-◌, ◌*◌, ◌≤◌, ◌<◌}
use native.Mathlib.Nat.{add-zero, add-suc}
use native.Mathlib.Numerals.{add-one}
use native.Mathlib.Omega.{arith}
use mathlib.Core.Path.{◌≡◌, refl, sym, ap, ◌∙◌}
use mathlib.Core.Bool.{Bool, true, false, ◌||◌, or-false, or_assoc}
use borrow.Author.Tests.{ltb-true, ltb-false}
use lib.Dec.{ltb}
use mathlib.Core.List.{List, [], ◌∷◌, ◌++◌, append_assoc, append-nil}
use borrow.Author.Count.{below_more}
use lib.ListN.{length, set, drop, length-append, length-set, get_or-append}
use lib.Seq.{get_or-append_seam, get_or-append-add, get_or-drop, get_or-set_same, get_or-set_other, ext_get_or}
use lib.Ieee.{Float, ne, nan}
use Rattle.answers.specs.Report.{written}
use Rattle.answers.proofs.Writing.{length-written}
use Rattle.math.specs.Math.{lerp_of, lerp_point_of}
use Rattle.table.specs.Lookup.{at}
use Rattle.polyline.specs.Points.{point_at, two_of, rows_of}
use Rattle.morph.specs.Shapes.{shared_of, between_at, numbers_between, any_nan}

-- ---- the numbers of the points

-- the first k numbers of a list whose number j is `number j`
unfoldable pub numbers_of : (ℕ → Float) → ℕ → List Float
numbers_of number zero = []
numbers_of number (suc k) = numbers_of number k ++ number k ∷ []

numbers-length : (number : ℕ → Float) (k : ℕ) → length (numbers_of number k) ≡ k
unfolding numbers_of
numbers-length number zero = refl
numbers-length number (suc k) = length-append (numbers_of number k) (number k ∷ []) ∙ (let e = numbers-length number k in omega arith)

numbers-at : (number : ℕ → Float) (k i : ℕ) → i < k → at (numbers_of number k) i ≡ number i
unfolding numbers_of
numbers-at number zero i inside = absurd (omega arith)
numbers-at number (suc k) i inside =
    below_more (λ i. at (numbers_of number (suc k)) i ≡ number i) k
    (λ i below. get_or-append (numbers_of number k) (number k ∷ []) nan i (let n = numbers-length number k in omega arith) ∙ numbers-at number k i below)
    (ap (at (numbers_of number (suc k))) (sym (numbers-length number k)) ∙ get_or-append_seam (numbers_of number k) (number k) [] nan)
    i (let e = add-one k in omega arith)

-- the first j + k numbers are the first j, and then k from there on
numbers-join : (number : ℕ → Float) (j k : ℕ) → numbers_of number (j + k) ≡ numbers_of number j ++ numbers_of (λ i. number (j + i)) k
unfolding numbers_of
numbers-join number j zero = ap (numbers_of number) (add-zero j) ∙ sym (append-nil (numbers_of number j))
numbers-join number j (suc k) =
    ap (numbers_of number) (add-suc j k) ∙ ap (λ (l : List Float). l ++ number (j + k) ∷ []) (numbers-join number j k)
    ∙ append_assoc (numbers_of number j) (numbers_of (λ i. number (j + i)) k) (number (j + k) ∷ [])

-- the number j of the shape between
abbrev number_at : List Float → List Float → Float → ℕ → Float
number_at from to along j = lerp_of (at from j) (at to j) along

-- the numbers of k points are the first 2 k numbers
rows-numbers : (from to : List Float) (along : Float) (k : ℕ) → rows_of (between_at from to along) k ≡ numbers_of (number_at from to along) (2 * k)
unfolding rows_of between_at point_at lerp_point_of numbers_of
rows-numbers from to along zero = refl
rows-numbers from to along (suc k) =
    let number = number_at from to along in
    let before = numbers_of number (2 * k) in
    ap (λ (l : List Float). l ++ two_of (between_at from to along k)) (rows-numbers from to along k)
    ∙ sym (append_assoc before (number (2 * k) ∷ []) (number (2 * k + 1) ∷ []))
    ∙ ap (λ (i : ℕ). (before ++ number (2 * k) ∷ []) ++ number i ∷ []) (add-one (2 * k))
    ∙ ap (numbers_of number) (let e : suc (suc (2 * k)) ≡ 2 * suc k = omega arith in e)

-- one of two lists has a NaN
any-join : (xs ys : List Float) → any_nan (xs ++ ys) ≡ (any_nan xs || any_nan ys)
unfolding any_nan
any-join [] ys = refl
any-join (x ∷ xs) ys = ap (λ (b : Bool). ne x x || b) (any-join xs ys) ∙ sym (or_assoc (ne x x) (any_nan xs) (any_nan ys))

-- one more number may be a NaN
any-more : (xs : List Float) (x : Float) → any_nan (xs ++ x ∷ []) ≡ (any_nan xs || ne x x)
unfolding any_nan
any-more xs x = any-join xs (x ∷ []) ∙ ap (λ (b : Bool). any_nan xs || b) (or-false (ne x x))

or-each : (a b p q : Bool) → ((a || b || p) || q) ≡ ((a || p) || (b || q))
or-each true b p q = refl
or-each false true true q = refl
or-each false true false q = refl
or-each false false p q = refl

-- ---- the loop: the first j numbers are written, and j past the middle, and whether one of them is a NaN is known
pub record Filling (from to : List Float) (along : Float) (before : List Float) (half : ℕ) (now : List Float) (any : Bool) (j : ℕ) : Type 0 where
  pub all : half ≡ shared_of from to
  pub room : 2 * half ≤ length before
  pub size : length now ≡ length before
  pub low : (i : ℕ) → i < j → at now i ≡ number_at from to along i
  pub high : (i : ℕ) → i < j → at now (half + i) ≡ number_at from to along (half + i)
  pub past : (i : ℕ) → 2 * half ≤ i → at now i ≡ at before i
  pub seen : any ≡ (any_nan (numbers_of (number_at from to along) j) || any_nan (numbers_of (λ i. number_at from to along (half + i)) j))

module _ {from to : List Float} {along : Float} {before : List Float} {half : ℕ} where
  pub filling-start : half ≡ shared_of from to → 2 * shared_of from to ≤ length before → Filling from to along before half before false 0
  unfolding numbers_of any_nan
  filling-start e h =
      record {
        all = e;
        room = omega arith;
        size = refl;
        low = λ i none. absurd (omega arith);
        high = λ i none. absurd (omega arith);
        past = λ i beyond. refl;
        seen = refl;
      }

  module _ {now : List Float} {any : Bool} {j : ℕ} (f : Filling from to along before half now any j) where
    module _ (more : j < half) where
      -- the number past the middle stands in the output
      pub filling-room : half + j < length now
      filling-room = omega (arith, f.size, f.room)

      -- the two stores
      module _ (v w : Float) where
        abbrev stored : List Float
        stored = set (set now j v) (half + j) w

        stored_low : at stored j ≡ v
        stored_low = get_or-set_other (set now j v) (half + j) j w nan (λ e. omega arith) ∙ get_or-set_same now j v nan (omega (arith, filling-room))

        stored-high : at stored (half + j) ≡ w
        stored-high = get_or-set_same (set now j v) (half + j) w nan (omega (arith, filling-room, length-set now j v))

        stored_other : (i : ℕ) → (i ≡ j → ⊥) → (i ≡ half + j → ⊥) → at stored i ≡ at now i
        stored_other i a b = get_or-set_other (set now j v) (half + j) i w nan b ∙ get_or-set_other now j i v nan a

      pub filling-more :
          {v w : Float} → v ≡ number_at from to along j → w ≡ number_at from to along (half + j)
          → Filling from to along before half (set (set now j v) (half + j) w) (any || ne v v || ne w w) (j + 1)
      unfolding numbers_of
      filling-more {v} {w} e g =
          let number = number_at from to along in
          let second : ℕ → Float = λ i. number (half + i) in
          record {
            all = f.all;
            room = f.room;
            size = length-set (set now j v) (half + j) w ∙ length-set now j v ∙ f.size;
            low = below_more (λ i. at (stored v w) i ≡ number i) j (λ i below. stored_other v w i (λ e. omega arith) (λ e. omega arith) ∙ f.low i below) (stored_low v w ∙ e);
            high =
                below_more (λ i. at (stored v w) (half + i) ≡ number (half + i)) j
                (λ i below. stored_other v w (half + i) (λ e. omega arith) (λ e. omega arith) ∙ f.high i below) (stored-high v w ∙ g);
            past = λ i beyond. stored_other v w i (λ e. omega arith) (λ e. omega arith) ∙ f.past i beyond;
            seen =
                ap (λ (b : Bool). b || ne v v || ne w w) f.seen ∙ or-each (any_nan (numbers_of number j)) (any_nan (numbers_of second j)) (ne v v) (ne w w)
                ∙ ap (λ (x : Float). (any_nan (numbers_of number j) || ne x x) || (any_nan (numbers_of second j) || ne w w)) e
                ∙ ap (λ (x : Float). (any_nan (numbers_of number j) || ne (number j) (number j)) || (any_nan (numbers_of second j) || ne x x)) g
                ∙ ap (λ (b : Bool). b || (any_nan (numbers_of second j) || ne (second j) (second j))) (sym (any-more (numbers_of number j) (number j)))
                ∙ ap (λ (b : Bool). any_nan (numbers_of number (suc j)) || b) (sym (any-more (numbers_of second j) (second j)))
                ∙ ap (λ (i : ℕ). any_nan (numbers_of number i) || any_nan (numbers_of second i)) (sym (add-one j));
          }

    module _ (upto : j ≤ half) (done : half ≤ j) where
      all-numbers : numbers_of (number_at from to along) (2 * half) ≡ numbers_between from to along
      all-numbers = ap (λ (k : ℕ). numbers_of (number_at from to along) (2 * k)) f.all ∙ sym (rows-numbers from to along (shared_of from to))

      -- each place of the output: before the middle, past it, beyond the numbers
      filled_at : (i : ℕ) → at now i ≡ at (written (numbers_of (number_at from to along) (2 * half)) before) i
      filled_at i = go (ltb i half) refl (ltb i (2 * half)) refl
        where
          number : ℕ → Float
          number = number_at from to along

          numbers : List Float
          numbers = numbers_of number (2 * half)

          inside : i < 2 * half → at now i ≡ number i → at now i ≡ at (written numbers before) i
          inside h e =
              let n = numbers-length number (2 * half) in
              e ∙ sym (numbers-at number (2 * half) i h) ∙ sym (get_or-append numbers (drop (length numbers) before) nan i (omega arith))

          second : half ≤ i → i < 2 * half → at now i ≡ number i
          second a b = let k : half + (i - half) ≡ i = omega arith in ap (at now) (sym k) ∙ f.high (i - half) (omega arith) ∙ ap number k

          beyond : 2 * half ≤ i → at now i ≡ at (written numbers before) i
          beyond h =
              let n = numbers-length number (2 * half) in
              let k : length numbers + (i - length numbers) ≡ i = omega arith in
              f.past i h ∙ sym (ap (at before) k) ∙ sym (get_or-drop (length numbers) before (i - length numbers) nan)
              ∙ sym (get_or-append-add numbers (drop (length numbers) before) (i - length numbers) nan) ∙ ap (at (written numbers before)) k

          go : (a : Bool) → ltb i half ≡ a → (b : Bool) → ltb i (2 * half) ≡ b → at now i ≡ at (written numbers before) i
          go true e b g = let h = ltb-true i half e in inside (omega arith) (f.low i (omega arith))
          go false e true g = inside (ltb-true i (2 * half) g) (second (ltb-false i half e) (ltb-true i (2 * half) g))
          go false e false g = beyond (ltb-false i (2 * half) g)

      pub filling-done : now ≡ written (numbers_between from to along) before
      filling-done =
          ext_get_or nan now (written (numbers_of (number_at from to along) (2 * half)) before)
          (f.size ∙ sym (length-written (numbers_of (number_at from to along) (2 * half)) before (omega (arith, numbers-length (number_at from to along) (2 * half), f.room))))
          (λ i inside. filled_at i)
          ∙ ap (λ (l : List Float). written l before) all-numbers

      pub filling-seen : any ≡ any_nan (numbers_between from to along)
      filling-seen =
          let number = number_at from to along in
          let e : j ≡ half = omega arith in
          f.seen ∙ ap (λ (k : ℕ). any_nan (numbers_of number k) || any_nan (numbers_of (λ i. number (half + i)) k)) e
          ∙ sym (any-join (numbers_of number half) (numbers_of (λ i. number (half + i)) half)) ∙ ap any_nan (sym (numbers-join number half half))
          ∙ ap (λ (k : ℕ). any_nan (numbers_of number k)) (let twice : half + half ≡ 2 * half = omega arith in twice) ∙ ap any_nan all-numbers
