-- Plain lists: where the first letter is an M, every letter one of M, L, Q, C and Z, every number near and none left over or missing, the list is well formed, and the counts of its
-- letters are those of what it builds. Assumes nothing.
use Prim.Native.Nat.{ℕ, zero, suc, ◌+◌, ◌*◌, ◌≤◌, ◌<◌}
use mathlib.Core.Path.{◌≡◌, refl, sym, ap, ◌∙◌}
use mathlib.Core.Bool.{Bool, true, false, ◌&&◌}
use mathlib.Core.List.{List, [], ◌∷◌}
use native.Mathlib.Omega.{arith}
use native.Mathlib.Numerals.{add-one}
use borrow.Author.Tests.{eqb-true}
use lib.Dec.{eqb}
use lib.Ieee.{Float, nan}
use lib.ListN.{length, get_or, drop, length-drop, drop_of_length-le}
use lib.Seq.{drop-cons, get_or-drop}
use Rattle.std.specs.Prelude.{Some, Ok}
use Rattle.math.specs.declared.points.Point.{Point}
use Rattle.commands.specs.Stored.{arguments_of}
use Rattle.commands.specs.Listed.{number_at, point_at, well_formed, prepend}
use Rattle.commands.specs.declared.command.PathCommand.{PathCommand}
use Rattle.commands.specs.declared.command.PathCommand.TheVariants.{MoveTo, LineTo, QuadTo, CubicTo, ClosePath}
use Rattle.commands.proofs.Decoding.{is_move, is-line, is-quad, is-cubic, is-close}
use Rattle.commands.proofs.Listing.{listed_from, from_next, from_end}
use Rattle.arc.specs.Lines.{line_of}
use Rattle.path_segment.specs.Segments.{has_table, tables_of}
use Rattle.path_segment.proofs.Tables.{table_none}
use Rattle.path_segment.specs.declared.segments.PathSegment.TheVariants.{Line}
use Rattle.path_bounds.specs.Calm.{is_near, is_calm}
use Rattle.path_drawing.specs.Drawing.{moved_of, drawn_of, draw_of}
use Rattle.path_drawing.specs.declared.pens.Pen.{Pen}
use Rattle.path_storing.specs.Sites.{start_of}
use Rattle.path_storing.specs.Tallies.{tally_of, stayed_of, grown_of, stroked_of, counted_of, tallied_of}
use Rattle.path_storing.specs.declared.tallies.Tally.{Tally}
use Rattle.path_storing.proofs.Tallying.{line-tallied, quad-tallied, cubic-tallied}
use Rattle.path_build.specs.Answers.{sizes_of, measure_of}
use Rattle.path_build.specs.Lists.{StoredList}
use Rattle.path_build.specs.Paths.{build_list_of}
use Rattle.path_build.specs.Plain.{one_if, count_in, all_near}
use Rattle.path_build.proofs.Lists.{decoded_at, listing_from}
use Rattle.path_build.proofs.Along.{Surveying, surveying-none, surveying-more, surveyed-all}

-- ---- one element further in the two loops

pub count_next : (letters : List ℕ) (letter i : ℕ) → i < length letters
    → count_in letter (drop i letters) ≡ one_if (eqb (get_or letters i 0) letter) + count_in letter (drop (i + 1) letters)
unfolding count_in
count_next letters letter i inside =
    ap (count_in letter) (drop-cons letters i 0 inside) ∙ ap (λ k. one_if (eqb (get_or letters i 0) letter) + count_in letter (drop k letters)) (sym (add-one i))

pub near_next : (numbers : List Float) (i : ℕ) → i < length numbers → all_near (drop i numbers) ≡ (is_near (get_or numbers i nan) && all_near (drop (i + 1) numbers))
unfolding all_near
near_next numbers i inside =
    ap all_near (drop-cons numbers i nan inside) ∙ ap (λ k. is_near (get_or numbers i nan) && all_near (drop k numbers)) (sym (add-one i))

-- no letter is left
pub count-end : (letters : List ℕ) (letter i : ℕ) → length letters ≤ i → count_in letter (drop i letters) ≡ 0
unfolding count_in
count-end letters letter i past = ap (count_in letter) (drop_of_length-le letters past)

pub near-end : (numbers : List Float) (i : ℕ) → length numbers ≤ i → all_near (drop i numbers) ≡ true
unfolding all_near
near-end numbers i past = ap all_near (drop_of_length-le numbers past)

-- what the two loops keep
pub one-most : (so : Bool) → one_if so ≤ 1
one-most true = omega arith
one-most false = omega arith

pub count_most : (letter : ℕ) (letters : List ℕ) → count_in letter letters ≤ length letters
unfolding count_in
count_most letter [] = omega arith
count_most letter (own ∷ letters) = let h = count_most letter letters in omega (arith, h, one-most (eqb own letter))

assoc : (a b c : Bool) → ((a && b) && c) ≡ (a && (b && c))
assoc true b c = refl
assoc false b c = refl

and-true : (a : Bool) → (a && true) ≡ a
and-true true = refl
and-true false = refl

pub near-more : (numbers : List Float) (i : ℕ) (near own : Bool) → i < length numbers → (near && all_near (drop i numbers)) ≡ all_near numbers → own ≡ is_near (get_or numbers i nan)
    → ((near && own) && all_near (drop (i + 1) numbers)) ≡ all_near numbers
near-more numbers i near own inside e f =
    assoc near own (all_near (drop (i + 1) numbers))
    ∙ ap (λ x. near && x) (ap (λ x. x && all_near (drop (i + 1) numbers)) f ∙ sym (near_next numbers i inside))
    ∙ e

pub near-all : (numbers : List Float) (i : ℕ) (near : Bool) → length numbers ≤ i → (near && all_near (drop i numbers)) ≡ all_near numbers → near ≡ all_near numbers
near-all numbers i near past e = sym (and-true near) ∙ ap (λ x. near && x) (sym (near-end numbers i past)) ∙ e

-- ---- every number is near

both_l : (a b : Bool) → (a && b) ≡ true → a ≡ true
both_l true b e = refl
both_l false b e = e

both_r : (a b : Bool) → (a && b) ≡ true → b ≡ true
both_r true b e = e
both_r false b e = cc

near-at : (numbers : List Float) (i : ℕ) → all_near numbers ≡ true → i < length numbers → is_near (get_or numbers i nan) ≡ true
unfolding all_near
near-at [] i e h = absurd (omega arith)
near-at (number ∷ numbers) zero e h = both_l (is_near number) (all_near numbers) e
near-at (number ∷ numbers) (suc i) e h = near-at numbers i (both_r (is_near number) (all_near numbers) e) (omega arith)

module _ (list : StoredList) (near : all_near list.numbers ≡ true) where
  abbrev letters : List ℕ
  letters = list.letters

  abbrev numbers : List Float
  numbers = list.numbers

  near-from : (at i : ℕ) → at + i < length numbers → is_near (number_at (drop at numbers) i) ≡ true
  near-from at i h = ap is_near (get_or-drop at numbers i nan) ∙ near-at numbers (at + i) near h

  calm-from : (at i : ℕ) → at + i + 1 < length numbers → is_calm (point_at (drop at numbers) i) ≡ true
  unfolding is_calm
  calm-from at i h = rw (near-from at i (omega arith), near-from at (i + 1) (omega arith))

  -- ---- the counts from a letter on

  abbrev of : ℕ → ℕ → ℕ
  of letter letter_at = count_in letter (drop letter_at letters)

  -- a letter is one more of its kind
  record Steps (letter_at m l q c z : ℕ) : Type 0 where
    moves : of 77 letter_at ≡ m + of 77 (letter_at + 1)
    lines : of 76 letter_at ≡ l + of 76 (letter_at + 1)
    quads : of 81 letter_at ≡ q + of 81 (letter_at + 1)
    cubics : of 67 letter_at ≡ c + of 67 (letter_at + 1)
    closes : of 90 letter_at ≡ z + of 90 (letter_at + 1)

  steps : (letter_at : ℕ) → letter_at < length letters → (x : ℕ) → get_or letters letter_at 0 ≡ x
      → Steps letter_at (one_if (eqb x 77)) (one_if (eqb x 76)) (one_if (eqb x 81)) (one_if (eqb x 67)) (one_if (eqb x 90))
  steps letter_at inside x e = record { moves = one 77; lines = one 76; quads = one 81; cubics = one 67; closes = one 90 }
    where
      one : (letter : ℕ) → of letter letter_at ≡ one_if (eqb x letter) + of letter (letter_at + 1)
      one letter = count_next letters letter letter_at inside ∙ ap (λ y. one_if (eqb y letter) + of letter (letter_at + 1)) e

  -- the letters that a plain list has
  abbrev plain : ℕ → ℕ
  plain letter_at = of 77 letter_at + of 76 letter_at + of 81 letter_at + of 67 letter_at + of 90 letter_at

  -- what is left from a letter and a number on: known letters only, with all their numbers
  record Left (n letter_at at : ℕ) : Type 0 where
    letters-left : letter_at + n ≡ length letters
    known : plain letter_at ≡ n
    widths : at + (2 * (of 77 letter_at + of 76 letter_at) + 4 * of 81 letter_at + 6 * of 67 letter_at) ≡ length numbers

  -- no more of the five letters than letters
  at_most : (n letter_at : ℕ) → letter_at + n ≡ length letters → plain letter_at ≤ n
  at_most zero letter_at e =
      let past : length letters ≤ letter_at = omega arith in
      omega (arith, count-end letters 77 letter_at past, count-end letters 76 letter_at past, count-end letters 81 letter_at past, count-end letters 67 letter_at past, count-end letters 90 letter_at past)
  at_most (suc n) letter_at e =
      let smaller = at_most n (letter_at + 1) (omega arith) in
      let inside : letter_at < length letters = omega arith in
      by_first (get_or letters letter_at 0) smaller (steps letter_at inside (get_or letters letter_at 0) refl)
    where
      by :
          (x : ℕ) (a b c d f : Bool) → eqb x 77 ≡ a → eqb x 76 ≡ b → eqb x 81 ≡ c → eqb x 67 ≡ d → eqb x 90 ≡ f
          → one_if a + one_if b + one_if c + one_if d + one_if f ≤ 1
      by x true true c d f ea eb ec ed ef = absurd (omega (arith, eqb-true x 77 ea, eqb-true x 76 eb))
      by x true false true d f ea eb ec ed ef = absurd (omega (arith, eqb-true x 77 ea, eqb-true x 81 ec))
      by x true false false true f ea eb ec ed ef = absurd (omega (arith, eqb-true x 77 ea, eqb-true x 67 ed))
      by x true false false false true ea eb ec ed ef = absurd (omega (arith, eqb-true x 77 ea, eqb-true x 90 ef))
      by x true false false false false ea eb ec ed ef = omega arith
      by x false true true d f ea eb ec ed ef = absurd (omega (arith, eqb-true x 76 eb, eqb-true x 81 ec))
      by x false true false true f ea eb ec ed ef = absurd (omega (arith, eqb-true x 76 eb, eqb-true x 67 ed))
      by x false true false false true ea eb ec ed ef = absurd (omega (arith, eqb-true x 76 eb, eqb-true x 90 ef))
      by x false true false false false ea eb ec ed ef = omega arith
      by x false false true true f ea eb ec ed ef = absurd (omega (arith, eqb-true x 81 ec, eqb-true x 67 ed))
      by x false false true false true ea eb ec ed ef = absurd (omega (arith, eqb-true x 81 ec, eqb-true x 90 ef))
      by x false false true false false ea eb ec ed ef = omega arith
      by x false false false true true ea eb ec ed ef = absurd (omega (arith, eqb-true x 67 ed, eqb-true x 90 ef))
      by x false false false true false ea eb ec ed ef = omega arith
      by x false false false false true ea eb ec ed ef = omega arith
      by x false false false false false ea eb ec ed ef = omega arith

      by_first : (x : ℕ) → plain (letter_at + 1) ≤ n → Steps letter_at (one_if (eqb x 77)) (one_if (eqb x 76)) (one_if (eqb x 81)) (one_if (eqb x 67)) (one_if (eqb x 90)) → plain letter_at ≤ suc n
      by_first x h s =
          omega (arith, h, s.moves, s.lines, s.quads, s.cubics, s.closes, by x (eqb x 77) (eqb x 76) (eqb x 81) (eqb x 67) (eqb x 90) refl refl refl refl refl)

  -- ---- one command

  abbrev segs : ℕ → ℕ
  segs letter_at = of 76 letter_at + of 81 letter_at + of 67 letter_at + of 90 letter_at

  abbrev flds : ℕ → ℕ
  flds letter_at = 4 * (of 76 letter_at + of 90 letter_at) + 6 * of 81 letter_at + 8 * of 67 letter_at

  abbrev tbls : ℕ → ℕ
  tbls letter_at = 33 * (of 81 letter_at + of 67 letter_at)

  -- there is a current point
  abbrev Placed : Pen → Type 0
  Placed pen = (point : Point) × (pen.current ≡ Some point)

  -- a tally goes on, and what is counted and what is left to count stay the same together
  record Tells (tally : Tally) (letter_at : ℕ) (command : PathCommand) : Type 0 where
    next : Tally
    is : tallied_of tally command ≡ Some next
    placed : Placed next.pen
    segments : tally.sizes.segments + segs letter_at ≡ next.sizes.segments + segs (letter_at + 1)
    fields : tally.sizes.fields + flds letter_at ≡ next.sizes.fields + flds (letter_at + 1)
    tables : tally.sizes.tables + tbls letter_at ≡ next.sizes.tables + tbls (letter_at + 1)

  record PlainStep (n letter_at at : ℕ) : Type 0 where
    command : PathCommand
    decoded : decoded_at list letter_at at ≡ Some command
    width : ℕ
    wide : width ≡ length (arguments_of command)
    left : Left n (letter_at + 1) (at + width)
    tells : (tally : Tally) → Placed tally.pen → Tells tally letter_at command

  stroked-is : (tally : Tally) (calm : Bool) (end : Point) (own more : ℕ) → calm ≡ true → Placed tally.pen → stroked_of tally calm end own more ≡ Some (grown_of tally (drawn_of tally.pen end) own more)
  unfolding stroked_of
  stroked-is tally calm end own more e p = rw (e, p.1)

  moved-is : (tally : Tally) (point : Point) → is_calm point ≡ true → tallied_of tally (MoveTo point) ≡ Some (stayed_of tally (moved_of point))
  unfolding tallied_of counted_of draw_of
  moved-is tally point e = rw e

  closed_is : (tally : Tally) → Placed tally.pen → tallied_of tally ClosePath ≡ Some (grown_of tally (drawn_of tally.pen tally.pen.start) 4 0)
  unfolding tallied_of counted_of draw_of has_table tables_of
  closed_is tally p = rw (p.1, table_none (Line (line_of p.0 tally.pen.start)) refl)

  module _ (n letter_at at : ℕ) (left : Left (suc n) letter_at at) where
    inside : letter_at < length letters
    inside = omega (arith, left.letters-left)

    enough : (w : ℕ) → at + w ≤ length numbers → w ≤ length (drop at numbers)
    enough w h = omega (arith, length-drop at numbers)

    abbrev p₀ : Point
    p₀ = point_at (drop at numbers) 0

    abbrev p₂ : Point
    p₂ = point_at (drop at numbers) 2

    abbrev p₄ : Point
    p₄ = point_at (drop at numbers) 4

    -- one of its letters, with what it takes and what it draws
    module _ {m l q c z : ℕ} (s : Steps letter_at m l q c z) (one : m + l + q + c + z ≡ 1) where
      fits : {w : ℕ} → w ≡ 2 * (m + l) + 4 * q + 6 * c → at + w ≤ length numbers
      fits e = omega (arith, left.widths, s.moves, s.lines, s.quads, s.cubics)

      left_after : {w : ℕ} → w ≡ 2 * (m + l) + 4 * q + 6 * c → Left n (letter_at + 1) (at + w)
      left_after e =
          record {
            letters-left = omega (arith, left.letters-left);
            known = omega (arith, left.known, s.moves, s.lines, s.quads, s.cubics, s.closes);
            widths = omega (arith, left.widths, s.moves, s.lines, s.quads, s.cubics);
          }

      told :
          {tally next : Tally} {command : PathCommand} → tallied_of tally command ≡ Some next → Placed next.pen → next.sizes.segments ≡ tally.sizes.segments + (l + q + c + z)
          → next.sizes.fields ≡ tally.sizes.fields + (4 * (l + z) + 6 * q + 8 * c) → next.sizes.tables ≡ tally.sizes.tables + 33 * (q + c) → Tells tally letter_at command
      told {next = next} is placed es ef et =
          record {
            next = next;
            is = is;
            placed = placed;
            segments = omega (arith, es, s.lines, s.quads, s.cubics, s.closes);
            fields = omega (arith, ef, s.lines, s.quads, s.cubics, s.closes);
            tables = omega (arith, et, s.quads, s.cubics);
          }

    module _ (e : get_or letters letter_at 0 ≡ 77) where
      move-counts : Steps letter_at 1 0 0 0 0
      move-counts = steps letter_at inside 77 e

      move-tells : (tally : Tally) → Tells tally letter_at (MoveTo p₀)
      move-tells tally =
          told move-counts refl (moved-is tally p₀ (calm-from at 0 (omega (arith, fits move-counts refl {w = 2} refl)))) (p₀, refl) (omega arith) (omega arith) (omega arith)

      move_step : PlainStep n letter_at at
      move_step =
          record {
            command = MoveTo p₀;
            decoded = sym (is_move (get_or letters letter_at 0) (drop at numbers) p₀ refl e (enough 2 (fits move-counts refl refl)));
            width = 2;
            wide = refl;
            left = left_after move-counts refl refl;
            tells = λ tally placed. move-tells tally;
          }

    line_step : get_or letters letter_at 0 ≡ 76 → PlainStep n letter_at at
    line_step e =
        let s : Steps letter_at 0 1 0 0 0 = steps letter_at inside 76 e in
        let f : at + 2 ≤ length numbers = fits s refl refl in
        record {
          command = LineTo p₀;
          decoded = sym (is-line (get_or letters letter_at 0) (drop at numbers) p₀ refl e (enough 2 f));
          width = 2;
          wide = refl;
          left = left_after s refl refl;
          tells = λ tally placed.
              told s refl (sym (line-tallied tally p₀) ∙ stroked-is tally (is_calm p₀) p₀ 4 0 (calm-from at 0 (omega (arith, f))) placed) (p₀, refl) (omega arith) (omega arith) (omega arith);
        }

    quad-step : get_or letters letter_at 0 ≡ 81 → PlainStep n letter_at at
    quad-step e =
        let s : Steps letter_at 0 0 1 0 0 = steps letter_at inside 81 e in
        let f : at + 4 ≤ length numbers = fits s refl refl in
        let calm : (is_calm p₀ && is_calm p₂) ≡ true = rw (calm-from at 0 (omega (arith, f)), calm-from at 2 (omega (arith, f))) in
        record {
          command = QuadTo p₀ p₂;
          decoded = sym (is-quad (get_or letters letter_at 0) (drop at numbers) p₀ p₂ refl refl e (enough 4 f));
          width = 4;
          wide = refl;
          left = left_after s refl refl;
          tells = λ tally placed.
              told s refl (sym (quad-tallied tally p₀ p₂) ∙ stroked-is tally (is_calm p₀ && is_calm p₂) p₂ 6 33 calm placed) (p₂, refl) (omega arith) (omega arith) (omega arith);
        }

    cubic-step : get_or letters letter_at 0 ≡ 67 → PlainStep n letter_at at
    cubic-step e =
        let s : Steps letter_at 0 0 0 1 0 = steps letter_at inside 67 e in
        let f : at + 6 ≤ length numbers = fits s refl refl in
        let calm : ((is_calm p₀ && is_calm p₂) && is_calm p₄) ≡ true =
        rw (calm-from at 0 (omega (arith, f)), calm-from at 2 (omega (arith, f)), calm-from at 4 (omega (arith, f))) in
        record {
          command = CubicTo p₀ p₂ p₄;
          decoded = sym (is-cubic (get_or letters letter_at 0) (drop at numbers) p₀ p₂ p₄ refl refl refl e (enough 6 f));
          width = 6;
          wide = refl;
          left = left_after s refl refl;
          tells = λ tally placed.
              told s refl (sym (cubic-tallied tally p₀ p₂ p₄) ∙ stroked-is tally ((is_calm p₀ && is_calm p₂) && is_calm p₄) p₄ 8 33 calm placed) (p₄, refl) (omega arith) (omega arith) (omega arith);
        }

    close-step : get_or letters letter_at 0 ≡ 90 → PlainStep n letter_at at
    close-step e =
        let s : Steps letter_at 0 0 0 0 1 = steps letter_at inside 90 e in
        record {
          command = ClosePath;
          decoded = sym (is-close (get_or letters letter_at 0) (drop at numbers) e);
          width = 0;
          wide = refl;
          left = left_after s refl refl;
          tells = λ tally placed. told s refl (closed_is tally placed) (tally.pen.start, refl) (omega arith) (omega arith) (omega arith);
        }

    plain_step : PlainStep n letter_at at
    plain_step = let x = get_or letters letter_at 0 in by x refl (eqb x 77) (eqb x 76) (eqb x 81) (eqb x 67) (eqb x 90) refl refl refl refl refl
      where
        by :
            (x : ℕ) → get_or letters letter_at 0 ≡ x
            → (a b c d f : Bool) → eqb x 77 ≡ a → eqb x 76 ≡ b → eqb x 81 ≡ c → eqb x 67 ≡ d → eqb x 90 ≡ f
            → PlainStep n letter_at at
        by x e true b c d f ea eb ec ed ef = move_step (e ∙ eqb-true x 77 ea)
        by x e false true c d f ea eb ec ed ef = line_step (e ∙ eqb-true x 76 eb)
        by x e false false true d f ea eb ec ed ef = quad-step (e ∙ eqb-true x 81 ec)
        by x e false false false true f ea eb ec ed ef = cubic-step (e ∙ eqb-true x 67 ed)
        by x e false false false false true ea eb ec ed ef = close-step (e ∙ eqb-true x 90 ef)
        by x e false false false false false ea eb ec ed ef =
            let s = steps letter_at inside x e in
            let sa : one_if (eqb x 77) ≡ 0 = ap one_if ea in
            let sb : one_if (eqb x 76) ≡ 0 = ap one_if eb in
            let sc : one_if (eqb x 81) ≡ 0 = ap one_if ec in
            let sd : one_if (eqb x 67) ≡ 0 = ap one_if ed in
            let sf : one_if (eqb x 90) ≡ 0 = ap one_if ef in
            absurd
            (omega (arith, at_most n (letter_at + 1) (omega (arith, left.letters-left)), left.known, s.moves, s.lines, s.quads, s.cubics, s.closes, sa, sb, sc, sd, sf))

  -- ---- the whole list

  no_more : (letter_at : ℕ) → length letters ≤ letter_at → (letter : ℕ) → of letter letter_at ≡ 0
  no_more letter_at past letter = count-end letters letter letter_at past

  formed-from : (n letter_at at : ℕ) → Left n letter_at at → (commands : List PathCommand) × (listing_from list letter_at at ≡ well_formed commands)
  formed-from zero letter_at at left =
      let past : length letters ≤ letter_at = omega (arith, left.letters-left) in
      ([], from_end letters numbers letter_at at past (omega (arith, left.widths, no_more letter_at past 77, no_more letter_at past 76, no_more letter_at past 81, no_more letter_at past 67)))
  formed-from (suc n) letter_at at left =
      let s = plain_step n letter_at at left in
      let r = formed-from n (letter_at + 1) (at + s.width) s.left in (
        s.command ∷ r.0,
        from_next letters numbers letter_at at (inside n letter_at at left) s.command s.decoded
            ∙ ap (λ k. prepend s.command (listing_from list (letter_at + 1) (at + k))) (sym s.wide)
            ∙ ap (prepend s.command) r.1,
      )

  counted-from : (n letter_at at : ℕ) (tally : Tally) → Left n letter_at at → Surveying list tally letter_at at → Placed tally.pen
      → Ok (sizes_of (tally.sizes.segments + segs letter_at) (tally.sizes.fields + flds letter_at) (tally.sizes.tables + tbls letter_at)) ≡ measure_of (build_list_of list)
  counted-from zero letter_at at tally left k placed =
      let past : length letters ≤ letter_at = omega (arith, left.letters-left) in
      let l = no_more letter_at past 76 in
      let q = no_more letter_at past 81 in
      let c = no_more letter_at past 67 in
      let z = no_more letter_at past 90 in
      let es : tally.sizes.segments + segs letter_at ≡ tally.sizes.segments = omega (arith, l, q, c, z) in
      let ef : tally.sizes.fields + flds letter_at ≡ tally.sizes.fields = omega (arith, l, q, c, z) in
      let et : tally.sizes.tables + tbls letter_at ≡ tally.sizes.tables = omega (arith, q, c) in
      rw (es, ef, et) (surveyed-all k past)
  counted-from (suc n) letter_at at tally left k placed =
      let s = plain_step n letter_at at left in
      let t = s.tells tally placed in
      let more = surveying-more k (inside n letter_at at left) s.decoded s.wide t.is in
      rw (t.segments, t.fields, t.tables) (counted-from n (letter_at + 1) (at + s.width) t.next s.left more t.placed)

-- a plain list is well formed, and its counts are told
pub plain-told :
    (list : StoredList) {m l q c z : ℕ}
    → m ≡ count_in 77 list.letters → l ≡ count_in 76 list.letters → q ≡ count_in 81 list.letters → c ≡ count_in 67 list.letters → z ≡ count_in 90 list.letters
    → 0 < length list.letters → length list.letters ≤ 65536 → get_or list.letters 0 0 ≡ 77
    → m + l + q + c + z ≡ length list.letters → 2 * (m + l) + 4 * q + 6 * c ≡ length list.numbers → all_near list.numbers ≡ true
    → Ok (sizes_of (l + q + c + z) (4 * (l + z) + 6 * q + 8 * c) (33 * (q + c))) ≡ measure_of (build_list_of list)
unfolding listed_from tally_of start_of move_step
plain-told list {m} {l} {q} {c} {z} em el eq ec ez some few first known widths near =
    by_length (length list.letters) refl
  where
    by_length : (n : ℕ) → length list.letters ≡ n → Ok (sizes_of (l + q + c + z) (4 * (l + z) + 6 * q + 8 * c) (33 * (q + c))) ≡ measure_of (build_list_of list)
    by_length zero e = absurd (omega arith)
    by_length (suc n) e =
        let left : Left list near (suc n) 0 0 =
        record { letters-left = omega arith; known = omega (arith, em, el, eq, ec, ez); widths = omega (arith, em, el, eq, ec, ez) } in
        let f = formed-from list near (suc n) 0 0 left in
        let s = move_step list near n 0 0 left first in
        let t = move-tells list near n 0 0 left first (tally_of start_of) in
        let more = surveying-more (surveying-none (record { few = few; commands = f.0; is = f.1 })) (inside list near n 0 0 left) {command = s.command} s.decoded {width = s.width} s.wide t.is in
        let counted = counted-from list near n (0 + 1) (0 + s.width) t.next s.left more t.placed in
        let es : l + q + c + z ≡ t.next.sizes.segments + segs list near (0 + 1) = omega (arith, t.segments, el, eq, ec, ez) in
        let ef : 4 * (l + z) + 6 * q + 8 * c ≡ t.next.sizes.fields + flds list near (0 + 1) = omega (arith, t.fields, el, eq, ec, ez) in
        let et : 33 * (q + c) ≡ t.next.sizes.tables + tbls list near (0 + 1) = omega (arith, t.tables, eq, ec) in
        rw (es, ef, et) counted
