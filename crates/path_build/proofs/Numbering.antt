-- The numbers of the commands that draw (`drawers_of`), of a list that builds: one for each segment, rising, each below the count of commands, and the command with that number is the one that
-- made the segment. Assumes nothing.
use Prim.Native.Nat.{ℕ, zero, suc, ◌+◌, ◌≤◌, ◌<◌}
use mathlib.Core.Path.{◌≡◌, refl, sym, ap, subst, ◌∙◌}
use mathlib.Core.Bool.{Bool, true, false, cond}
use mathlib.Core.List.{List, [], ◌∷◌}
use native.Mathlib.Omega.{arith}
use lib.Dec.{T, leb, le→leb}
use lib.Ieee.{Float}
use lib.Ieee.Fits.{and_i}
use lib.Ieee.Scale.{finite}
use lib.ListN.{length, get_or, take}
use Rattle.answers.specs.declared.refusals.Refusal.TheVariants.{NotFinite}
use Rattle.std.specs.Prelude.{Option, Some, None}
use Rattle.floats.specs.Floats.{zero_f}
use Rattle.math.specs.declared.points.Point.{Point}
use Rattle.commands.specs.declared.command.PathCommand.{PathCommand}
use Rattle.commands.specs.declared.command.PathCommand.TheVariants.{MoveTo, LineTo}
use Rattle.path_segment.specs.declared.segments.PathSegment.{PathSegment}
use Rattle.path_stored.specs.Stored.{never_fall}
use Rattle.path_drawing.specs.Drawing.{fresh_of, draw_of}
use Rattle.path_drawing.specs.Building.{Built, path, refusal, prepend, length_after, follow, build_from, build_of, named, drawers_from, drawers_of}
use Rattle.path_drawing.specs.declared.pens.Pen.{Pen}
use Rattle.path_drawing.specs.declared.strokes.Drawn.{Drawn}
use Rattle.path_drawing.specs.declared.strokes.Drawn.TheVariants.{Moved, Segment}

-- ---- the numbers rise

rise-from : (commands : List PathCommand) (n : ℕ) (pen : Pen) (from : ℕ) → from ≤ n → T (never_fall from (drawers_from commands n pen))
unfolding never_fall drawers_from
rise-from [] n pen from h = tt
rise-from (command ∷ commands) n pen from h = by-drawn (rise-from commands (suc n)) (draw_of pen command)
  where
    by-drawn : ((pen : Pen) (from : ℕ) → from ≤ suc n → T (never_fall from (drawers_from commands (suc n) pen))) → (drawn : Option Drawn)
        → T (never_fall from (named n drawn (drawers_from commands (suc n))))
    by-drawn smaller (Some (Moved next)) = smaller next from (omega arith)
    by-drawn smaller (Some (Segment segment next)) = and_i (leb from n) (never_fall n (drawers_from commands (suc n) next)) (le→leb from n h) (smaller next n (omega arith))
    by-drawn smaller None = tt

pub drawers-rise : (commands : List PathCommand) → T (never_fall 0 (drawers_of commands))
unfolding drawers_of
drawers-rise commands = rise-from commands 0 fresh_of 0 (omega arith)

-- ---- one for each segment

-- what a list that builds begins with, where its first command is drawn so
record Begun (commands : List PathCommand) (k : ℕ) (before : Float) (segment : PathSegment) (next : Pen) (list : List PathSegment) : Type 0 where
  fine : finite (length_after before segment) ≡ true
  rest : List PathSegment
  is : list ≡ segment ∷ rest
  builds : build_from commands (suc k) (length_after before segment) next ≡ path rest

module _ (commands : List PathCommand) (k : ℕ) (before : Float) (segment : PathSegment) (next : Pen) (list : List PathSegment) where
  begun : follow k before (Some (Segment segment next)) (build_from commands) ≡ path list → Begun commands k before segment next list
  begun = by_length (finite (length_after before segment)) refl
    where
      by-built :
          finite (length_after before segment) ≡ true → (built : Built) → build_from commands (suc k) (length_after before segment) next ≡ built → prepend segment built ≡ path list
          → Begun commands k before segment next list
      by-built f (path rest) g h = let l : list ≡ segment ∷ rest = cc in record { fine = f; rest = rest; is = l; builds = g }
      by-built f (refusal reason) g h = cc

      by_length :
          (b : Bool) → finite (length_after before segment) ≡ b
          → cond b (prepend segment (build_from commands (suc k) (length_after before segment) next)) (refusal (NotFinite k)) ≡ path list
          → Begun commands k before segment next list
      by_length true f g = by-built f (build_from commands (suc k) (length_after before segment) next) refl g
      by_length false f g = cc

count-from : (commands : List PathCommand) (n k : ℕ) (before : Float) (pen : Pen) (list : List PathSegment) → build_from commands k before pen ≡ path list
    → length (drawers_from commands n pen) ≡ length list
unfolding build_from drawers_from
count-from [] n k before pen list e = let f : list ≡ [] = cc in rw f
count-from (command ∷ commands) n k before pen list e = by-drawn (count-from commands (suc n)) (draw_of pen command) e
  where
    Smaller : Type 0
    Smaller = (k : ℕ) (before : Float) (pen : Pen) (list : List PathSegment) → build_from commands k before pen ≡ path list → length (drawers_from commands (suc n) pen) ≡ length list

    by-drawn : Smaller → (drawn : Option Drawn) → follow k before drawn (build_from commands) ≡ path list → length (named n drawn (drawers_from commands (suc n))) ≡ length list
    by-drawn smaller (Some (Moved next)) f = smaller k before next list f
    by-drawn smaller (Some (Segment segment next)) f =
        let b = begun commands k before segment next list f in
        ap suc (smaller (suc k) (length_after before segment) next b.rest b.builds) ∙ sym (ap length b.is)
    by-drawn smaller None f = cc

pub drawers-count : (commands : List PathCommand) (list : List PathSegment) → build_of commands ≡ path list → length (drawers_of commands) ≡ length list
unfolding build_of drawers_of
drawers-count commands list e = count-from commands 0 0 zero_f fresh_of list e

-- ---- the command that made a segment

-- `at` commands on, the first i segments are built, and with the next command there is one more
record Made (commands : List PathCommand) (n k : ℕ) (before : Float) (pen : Pen) (list : List PathSegment) (i : ℕ) : Type 0 where
  at : ℕ
  is : get_or (drawers_from commands n pen) i 0 ≡ n + at
  inside : at < length commands
  lacks : build_from (take at commands) k before pen ≡ path (take i list)
  has : build_from (take (suc at) commands) k before pen ≡ path (take (suc i) list)

made-from : (commands : List PathCommand) (n k : ℕ) (before : Float) (pen : Pen) (list : List PathSegment) (i : ℕ) → build_from commands k before pen ≡ path list → i < length list
    → Made commands n k before pen list i
unfolding build_from drawers_from
made-from [] n k before pen list i e h = let f : list ≡ [] = cc in absurd (omega (arith, ap length f))
made-from (command ∷ commands) n k before pen list i e h = by-drawn (made-from commands (suc n)) (draw_of pen command) refl e
  where
    Smaller : Type 0
    Smaller = (k : ℕ) (before : Float) (pen : Pen) (list : List PathSegment) (i : ℕ) → build_from commands k before pen ≡ path list → i < length list → Made commands (suc n) k before pen list i

    by_index :
        Smaller → (segment : PathSegment) (next : Pen) → draw_of pen command ≡ Some (Segment segment next) → finite (length_after before segment) ≡ true
        → (rest : List PathSegment) → build_from commands (suc k) (length_after before segment) next ≡ path rest → (i : ℕ) → i < suc (length rest)
        → Made (command ∷ commands) n k before pen (segment ∷ rest) i
    by_index smaller segment next d f rest b zero g = record { at = 0; is = rw d (omega arith); inside = omega arith; lacks = refl; has = rw (d, f) }
    by_index smaller segment next d f rest b (suc j) g =
        let m = smaller (suc k) (length_after before segment) next rest j b (omega arith) in
        record {
          at = suc m.at;
          is = rw d (m.is ∙ omega arith);
          inside = omega (arith, m.inside);
          lacks = rw (d, f, m.lacks);
          has = rw (d, f, m.has);
        }

    by-drawn : Smaller → (drawn : Option Drawn) → draw_of pen command ≡ drawn → follow k before drawn (build_from commands) ≡ path list → Made (command ∷ commands) n k before pen list i
    by-drawn smaller (Some (Moved next)) d f =
        let m = smaller k before next list i f h in
        record { at = suc m.at; is = rw d (m.is ∙ omega arith); inside = omega (arith, m.inside); lacks = rw d m.lacks; has = rw d m.has }
    by-drawn smaller (Some (Segment segment next)) d f =
        let b = begun commands k before segment next list f in
        subst (λ l. Made (command ∷ commands) n k before pen l i) (sym b.is) (by_index smaller segment next d b.fine b.rest b.builds i (omega (arith, ap length b.is)))
    by-drawn smaller None d f = cc

module _ (commands : List PathCommand) (list : List PathSegment) (builds : build_of commands ≡ path list) (i : ℕ) (inside : i < length list) where
  abbrev number : ℕ
  number = get_or (drawers_of commands) i 0

  -- the number of segment i is a command's, the commands before it build the segments before i, and with it there is segment i too
  pub record MadeBy : Type 0 where
    pub among : number < length commands
    pub lacks : build_of (take number commands) ≡ path (take i list)
    pub has : build_of (take (suc number) commands) ≡ path (take (suc i) list)

  pub made_by : MadeBy
  unfolding build_of drawers_of
  made_by =
      let m = made-from commands 0 0 zero_f fresh_of list i builds inside in
      let e : m.at ≡ number = omega (arith, m.is) in
      record {
        among = omega (arith, m.inside);
        lacks = subst (λ n. build_from (take n commands) 0 zero_f fresh_of ≡ path (take i list)) e m.lacks;
        has = subst (λ n. build_from (take (suc n) commands) 0 zero_f fresh_of ≡ path (take (suc i) list)) e m.has;
      }

-- `M0 0L3 4M1 1L2 2`: a move is counted and draws nothing; segments numbered one after the other would be 0 and 1
pub moves-are-counted : (a b c d : Point) → drawers_of (MoveTo a ∷ LineTo b ∷ MoveTo c ∷ LineTo d ∷ []) ≡ 1 ∷ 3 ∷ []
unfolding drawers_of drawers_from draw_of
moves-are-counted a b c d = refl
