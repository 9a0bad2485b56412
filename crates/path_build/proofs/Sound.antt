-- What is built always passes the check of a stored path. Assumes nothing.
use Prim.Native.Nat.{ℕ, suc, ◌≤◌}
use mathlib.Core.Path.{◌≡◌, refl, sym, ap, subst, ◌∙◌}
use mathlib.Core.Bool.{Bool, true, false, cond}
use mathlib.Core.List.{List, [], ◌∷◌}
use native.Mathlib.Omega.{arith}
use lib.Dec.{T}
use lib.Ieee.{Float}
use lib.Ieee.Scale.{finite}
use lib.ListN.{length, drop}
use Rattle.std.specs.Prelude.{Option, Some, None}
use Rattle.answers.specs.declared.refusals.Values.TheVariants.{Five}
use Rattle.answers.specs.declared.refusals.Refusal.TheVariants.{NotFinite, NoRoom}
use Rattle.floats.specs.Floats.{zero_f}
use Rattle.table.specs.Sound.{all_finite}
use Rattle.commands.specs.Stored.{arguments_of}
use Rattle.commands.specs.Listed.{command_of, Listing, well_formed, malformed, prepend as prepend_command, follow as follow_command, listed}
use Rattle.commands.specs.declared.command.PathCommand.{PathCommand}
use Rattle.path_segment.specs.declared.segments.PathSegment.{PathSegment}
use Rattle.path_stored.specs.Layout.{running_of, lengths_of_all, laid_wholly}
use Rattle.path_stored.specs.Stored.{is_stored}
use Rattle.path_stored.proofs.Extending.{laid_out}
use Rattle.path_drawing.specs.Drawing.{fresh_of, draw_of}
use Rattle.path_drawing.specs.Building.{Built, path, refusal, prepend, length_after, follow, build_from, build_of, drawers_of}
use Rattle.path_drawing.specs.declared.pens.Pen.{Pen}
use Rattle.path_drawing.specs.declared.strokes.Drawn.{Drawn}
use Rattle.path_drawing.specs.declared.strokes.Drawn.TheVariants.{Moved, Segment}
use Rattle.path_build.specs.Answers.{is_short, counts_of, roomed}
use Rattle.path_build.specs.Lists.{StoredList}
use Rattle.path_build.specs.Paths.{drawers_by, build_list_of, drawers_list_of, build_path_of}
use Rattle.path_build.specs.declared.room.Counts.{Counts}
use Rattle.path_build.proofs.Lists.{built-formed, formed-builds}
use Rattle.path_build.proofs.Numbering.{drawers-count, drawers-rise}

-- ---- no more segments than commands, each with a finite running length

Sound : ℕ → Float → List PathSegment → Type 0
Sound count before list = (length list ≤ count) × T (all_finite (running_of before list))

sound-from : (commands : List PathCommand) (k : ℕ) (before : Float) (pen : Pen) (list : List PathSegment) → build_from commands k before pen ≡ path list → Sound (length commands) before list
unfolding Sound build_from running_of all_finite
sound-from [] k before pen list e = let f : list ≡ [] = cc in rw f (omega arith, tt)
sound-from (command ∷ commands) k before pen list e = by-drawn (sound-from commands) (draw_of pen command) e
  where
    Smaller : Type 0
    Smaller = (k : ℕ) (before : Float) (pen : Pen) (list : List PathSegment) → build_from commands k before pen ≡ path list → (length list ≤ length commands) × T (all_finite (running_of before list))

    by-built :
        Smaller → (segment : PathSegment) (next : Pen) → finite (length_after before segment) ≡ true
        → (built : Built) → build_from commands (suc k) (length_after before segment) next ≡ built → prepend segment built ≡ path list
        → (length list ≤ suc (length commands)) × T (all_finite (running_of before list))
    by-built smaller segment next f (path rest) g h =
        let l : list ≡ segment ∷ rest = cc in
        let s = smaller (suc k) (length_after before segment) next rest g in
        rw l (omega (arith, s.0), rw f s.1)
    by-built smaller segment next f (refusal reason) g h = cc

    by_length :
        Smaller → (segment : PathSegment) (next : Pen) (b : Bool) → finite (length_after before segment) ≡ b
        → cond b (prepend segment (build_from commands (suc k) (length_after before segment) next)) (refusal (NotFinite k)) ≡ path list
        → (length list ≤ suc (length commands)) × T (all_finite (running_of before list))
    by_length smaller segment next true f g = by-built smaller segment next f (build_from commands (suc k) (length_after before segment) next) refl g
    by_length smaller segment next false f g = cc

    by-drawn : Smaller → (drawn : Option Drawn) → follow k before drawn (build_from commands) ≡ path list → (length list ≤ suc (length commands)) × T (all_finite (running_of before list))
    by-drawn smaller (Some (Moved next)) f = let s = smaller k before next list f in (omega (arith, s.0), s.1)
    by-drawn smaller (Some (Segment segment next)) f = by_length smaller segment next (finite (length_after before segment)) refl f
    by-drawn smaller None f = cc

-- what commands build is a stored path
pub built-stored :
    (commands : List PathCommand) (list : List PathSegment) → length commands ≤ 65536 → build_of commands ≡ path list
    → T (is_stored (laid_wholly list (drawers_of commands)))
unfolding Sound build_of lengths_of_all
built-stored commands list few e =
    let s = sound-from commands 0 zero_f fresh_of list e in
    laid_out list (drawers_of commands) (omega (arith, s.0)) s.1 (drawers-count commands list e) (drawers-rise commands)

-- ---- a list has as many commands as letters

listed-count : (letters : List ℕ) (k : ℕ) (numbers : List Float) (commands : List PathCommand) → listed k letters numbers ≡ well_formed commands → length commands ≡ length letters
unfolding listed
listed-count [] k [] commands e = let f : commands ≡ [] = cc in ap length f
listed-count [] k (number ∷ numbers) commands e = cc
listed-count (letter ∷ letters) k numbers commands e = by-decoded (listed-count letters) (command_of letter numbers) e
  where
    Smaller : Type 0
    Smaller = (k : ℕ) (numbers : List Float) (commands : List PathCommand) → listed k letters numbers ≡ well_formed commands → length commands ≡ length letters

    by-listing :
        Smaller → (command : PathCommand) (more : List Float) (l : Listing) → listed (suc k) letters more ≡ l → prepend_command command l ≡ well_formed commands
        → length commands ≡ suc (length letters)
    by-listing smaller command more (well_formed rest) f g =
        let h : commands ≡ command ∷ rest = cc in
        ap length h ∙ ap suc (smaller (suc k) more rest f)
    by-listing smaller command more (malformed j) f g = cc

    by-decoded : Smaller → (decoded : Option PathCommand) → follow_command k numbers decoded (listed (suc k) letters) ≡ well_formed commands → length commands ≡ suc (length letters)
    by-decoded smaller (Some command) f =
        by-listing smaller command (drop (length (arguments_of command)) numbers) (listed (suc k) letters (drop (length (arguments_of command)) numbers)) refl f
    by-decoded smaller None f = cc

-- ---- what the entry builds

pub roomed-path : (lent : Counts) (built : Built) (list : List PathSegment) → roomed lent built ≡ path list → built ≡ path list
roomed-path lent (refusal reason) list e = cc
roomed-path lent (path own) list e = by-room (is_short (counts_of own) lent) e
  where
    by-room :
        (b : Bool) → cond b (refusal (NoRoom (Five (counts_of own).kinds (counts_of own).fields (counts_of own).tables (counts_of own).lengths (counts_of own).commands))) (path own) ≡ path list
        → path own ≡ path list
    by-room true f = cc
    by-room false f = f

-- "what it builds always passes check_path"
pub build-path-stored : (list : StoredList) (lent : Counts) (segments : List PathSegment) → build_path_of list lent ≡ path segments → T (is_stored (laid_wholly segments (drawers_list_of list)))
build-path-stored list lent segments e =
    let built = roomed-path lent (build_list_of list) segments e in
    let f = built-formed list built in
    subst (λ (x : Listing). T (is_stored (laid_wholly segments (drawers_by x)))) (sym f.is)
    (built-stored f.commands segments (omega (arith, f.few, listed-count list.letters 0 list.numbers f.commands f.is)) (sym (formed-builds f) ∙ built))
