-- A list of at most 256 commands: what it builds has room in the tool's buffers. Assumes nothing.
use Prim.Native.Nat.{ℕ, suc, ◌*◌, ◌≤◌}
use mathlib.Core.Path.{◌≡◌, refl, sym, ap, ◌∙◌}
use mathlib.Core.Bool.{Bool, true, false, cond}
use mathlib.Core.List.{List, [], ◌∷◌}
use native.Mathlib.Omega.{arith}
use borrow.Author.Tests.{le-ltb}
use Rattle.std.specs.Prelude.{Option, Some, None}
use lib.Ieee.{Float}
use lib.Ieee.Scale.{finite}
use lib.ListN.{length, length-append}
use Rattle.answers.specs.Answers.{Answer, refused, accepted}
use Rattle.answers.specs.declared.refusals.Refusal.{Refusal}
use Rattle.answers.specs.declared.refusals.Refusal.TheVariants.{NotFinite}
use Rattle.answers.proofs.Settled.{refused-settled, refused-not-accepted}
use Rattle.floats.specs.Floats.{zero_f}
use Rattle.commands.specs.Stored.{arguments_of, letters_of, numbers_of}
use Rattle.commands.specs.declared.command.PathCommand.{PathCommand}
use Rattle.commands.specs.declared.command.PathCommand.TheVariants.{MoveTo, LineTo, QuadTo, CubicTo, ArcTo, ClosePath}
use Rattle.path_segment.specs.declared.segments.PathSegment.{PathSegment}
use Rattle.path_segment.specs.Segments.{fields_of, table_stored}
use Rattle.path_segment.proofs.Reading.{fields-most}
use Rattle.path_segment.proofs.Tables.{table-most}
use Rattle.path_stored.specs.Layout.{kinds_of, fields_of_all, tables_of_all, lengths_of_all}
use Rattle.path_drawing.specs.Drawing.{fresh_of, draw_of}
use Rattle.path_drawing.specs.Building.{Built, path, refusal, prepend, length_after, follow, build_from, build_of}
use Rattle.path_drawing.specs.declared.pens.Pen.{Pen}
use Rattle.path_drawing.specs.declared.strokes.Drawn.{Drawn}
use Rattle.path_drawing.specs.declared.strokes.Drawn.TheVariants.{Moved, Segment}
use Rattle.path_build.specs.Answers.{is_short, counts_of, values, roomed, answered}
use Rattle.path_build.specs.Lists.{list_for}
use Rattle.path_build.specs.Paths.{build_path_of}
use Rattle.path_build.specs.declared.room.Counts.{Counts}
use Rattle.path_build.proofs.Lists.{stored-builds}
use Rattle.path_storing.proofs.Layouts.{lengths-count}
use Rattle.station_commands.proofs.PlanLaws.{letters-count}

few-arguments : (command : PathCommand) → length (arguments_of command) ≤ 7
few-arguments (MoveTo end) = omega arith
few-arguments (LineTo end) = omega arith
few-arguments (QuadTo control end) = omega arith
few-arguments (CubicTo control1 control2 end) = omega arith
few-arguments (ArcTo radii rotation large sweep end) = omega arith
few-arguments ClosePath = omega arith

-- a command has at most 7 numbers
pub numbers-few : (list : List PathCommand) → length (numbers_of list) ≤ 7 * length (letters_of list)
unfolding numbers_of letters_of
numbers-few [] = omega arith
numbers-few (command ∷ list) = omega (arith, numbers-few list, few-arguments command, length-append (arguments_of command) (numbers_of list))

-- ---- a command draws at most one segment

segments-from : (commands : List PathCommand) (k : ℕ) (before : Float) (pen : Pen) (list : List PathSegment) → build_from commands k before pen ≡ path list → length list ≤ length commands
unfolding build_from
segments-from [] k before pen list e = let f : [] ≡ list = cc in omega (arith, ap length f)
segments-from (command ∷ commands) k before pen list e = by-drawn (segments-from commands) (draw_of pen command) e
  where
    Smaller : Type 0
    Smaller = (k : ℕ) (before : Float) (pen : Pen) (list : List PathSegment) → build_from commands k before pen ≡ path list → length list ≤ length commands

    by-built : Smaller → (segment : PathSegment) (j : ℕ) (after : Float) (next : Pen) (built : Built) → build_from commands j after next ≡ built → prepend segment built ≡ path list → length list ≤ suc (length commands)
    by-built smaller segment j after next (path rest) f g = let h : segment ∷ rest ≡ list = cc in omega (arith, smaller j after next rest f, ap length h)
    by-built smaller segment j after next (refusal reason) f g = cc

    by_length :
        Smaller → (segment : PathSegment) (next : Pen) (b : Bool)
        → cond b (prepend segment (build_from commands (suc k) (length_after before segment) next)) (refusal (NotFinite k)) ≡ path list → length list ≤ suc (length commands)
    by_length smaller segment next true g = by-built smaller segment (suc k) (length_after before segment) next (build_from commands (suc k) (length_after before segment) next) refl g
    by_length smaller segment next false g = cc

    by-drawn : Smaller → (drawn : Option Drawn) → follow k before drawn (build_from commands) ≡ path list → length list ≤ suc (length commands)
    by-drawn smaller (Some (Moved next)) g = omega (arith, smaller k before next list g)
    by-drawn smaller (Some (Segment segment next)) g = by_length smaller segment next (finite (length_after before segment)) g
    by-drawn smaller None g = cc

pub segments-few : (commands : List PathCommand) (list : List PathSegment) → build_of commands ≡ path list → length list ≤ length commands
unfolding build_of
segments-few commands list e = segments-from commands 0 zero_f fresh_of list e

-- ---- and each needs so many places

pub kinds-count : (list : List PathSegment) → length (kinds_of list) ≡ length list
unfolding kinds_of
kinds-count [] = refl
kinds-count (segment ∷ list) = ap suc (kinds-count list)

pub fields-few : (list : List PathSegment) → length (fields_of_all list) ≤ 11 * length list
unfolding fields_of_all
fields-few [] = omega arith
fields-few (segment ∷ list) = omega (arith, fields-few list, fields-most segment, length-append (fields_of segment) (fields_of_all list))

pub tables-few : (list : List PathSegment) → length (tables_of_all list) ≤ 33 * length list
unfolding tables_of_all
tables-few [] = omega arith
tables-few (segment ∷ list) = omega (arith, tables-few list, table-most segment, length-append (table_stored segment) (tables_of_all list))

-- ---- so the tool's buffers are long enough

abbrev pub lent : Counts
lent = record { kinds = 256; fields = 2816; tables = 8448; lengths = 256; commands = 256 }

module _ (list : List PathCommand) (few : length (letters_of list) ≤ 256) where
  never-short : (segments : List PathSegment) → build_of list ≡ path segments → is_short (counts_of segments) lent ≡ false
  never-short segments e =
      let s = segments-few list segments e in
      let c = letters-count list in
      let k = kinds-count segments in
      let l = lengths-count segments in
      let f = fields-few segments in
      let t = tables-few segments in
      rw (
        le-ltb 256 (length (kinds_of segments)) (omega arith),
        le-ltb 2816 (length (fields_of_all segments)) (omega arith),
        le-ltb 8448 (length (tables_of_all segments)) (omega arith),
        le-ltb 256 (length (lengths_of_all segments)) (omega arith),
      )

  roomed-same : (built : Built) → build_of list ≡ built → roomed lent built ≡ built
  roomed-same (path segments) e = rw (never-short segments e)
  roomed-same (refusal reason) e = refl

  -- what the tool's buffers are filled from is what the list builds
  pub built-as : build_path_of (list_for list) lent ≡ build_of list
  built-as = ap (roomed lent) (stored-builds list (omega (arith, letters-count list))) ∙ roomed-same (build_of list) refl

-- ---- the answer tells what is built

pub told-refused : (reason : Refusal) (built : Built) → refused reason ≡ answered built → built ≡ refusal reason
told-refused reason (path segments) e = absurd (refused-not-accepted reason _ e)
told-refused reason (refusal other) e = ap refusal (sym (refused-settled reason other e))

pub record BuiltAs (s f t : ℕ) (built : Built) : Type 0 where
  pub list : List PathSegment
  pub is : built ≡ path list
  pub kinds : s ≡ length (kinds_of list)
  pub fields : f ≡ length (fields_of_all list)
  pub tables : t ≡ length (tables_of_all list)
  pub running : s ≡ length (lengths_of_all list)

pub told-built : (s f t : ℕ) (built : Built) → accepted (s ∷ f ∷ t ∷ s ∷ s ∷ []) ≡ answered built → BuiltAs s f t built
told-built s f t (path list) e =
    let v : s ∷ f ∷ t ∷ s ∷ s ∷ [] ≡ values (counts_of list) = ap (λ (a : Answer). a.values) e in
    record { list = list; is = refl; kinds = cc; fields = cc; tables = cc; running = cc }
told-built s f t (refusal reason) e = absurd (refused-not-accepted reason _ (sym e))
