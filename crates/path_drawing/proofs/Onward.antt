-- Building command by command: what the commands passed have drawn does not depend on those to come. Assumes nothing.
use Prim.Native.Nat.{ℕ, suc}
use native.Mathlib.Numerals.{add-one}
use mathlib.Core.Path.{◌≡◌, refl, sym, ap, ◌∙◌}
use mathlib.Core.Bool.{true, false}
use mathlib.Core.List.{List, [], ◌∷◌, ◌++◌, append_assoc, append-nil}
use lib.Ieee.{Float}
use lib.Ieee.Scale.{finite}
use lib.ListN.{length, length-append}
use Rattle.std.specs.Prelude.{Option, Some, None}
use Rattle.answers.specs.declared.refusals.Refusal.TheVariants.{RotationRange, NotFinite}
use Rattle.floats.specs.Floats.{zero_f}
use Rattle.commands.specs.declared.command.PathCommand.{PathCommand}
use Rattle.path_segment.specs.declared.segments.PathSegment.{PathSegment}
use Rattle.path_drawing.specs.Drawing.{fresh_of, draw_of}
use Rattle.path_drawing.specs.Building.{Built, path, refusal, prepend, length_after, follow, build_from, build_of, named_by, named, drawers_from, drawers_of}
use Rattle.path_drawing.specs.declared.pens.Pen.{Pen}
use Rattle.path_drawing.specs.declared.strokes.Drawn.{Drawn}
use Rattle.path_drawing.specs.declared.strokes.Drawn.TheVariants.{Moved, Segment}

-- ---- segments before what is built

abbrev pub onto : List PathSegment → Built → Built
onto done (path rest) = path (done ++ rest)
onto done (refusal reason) = refusal reason

onto-prepend : (done : List PathSegment) (segment : PathSegment) (built : Built) → onto done (prepend segment built) ≡ onto (done ++ (segment ∷ [])) built
onto-prepend done segment (path rest) = ap path (sym (append_assoc done (segment ∷ []) rest))
onto-prepend done segment (refusal reason) = refl

onto-nothing : (built : Built) → built ≡ onto [] built
onto-nothing (path rest) = refl
onto-nothing (refusal reason) = refl

-- ---- what is known after some commands

-- they drew `done`, of the running length `before`, and left the pen so; k is the number of the next segment, and so many of them drew
pub record Drew (commands : List PathCommand) (done : List PathSegment) (k : ℕ) (before : Float) (pen : Pen) : Type 0 where
  pub onward : (rest : List PathCommand) → build_of (commands ++ rest) ≡ onto done (build_from rest k before pen)
  pub drawers : (rest : List PathCommand) → drawers_of (commands ++ rest) ≡ drawers_of commands ++ drawers_from rest (length commands) pen
  pub count : length (drawers_of commands) ≡ k

pub drew-none : Drew [] [] 0 zero_f fresh_of
unfolding build_of drawers_of drawers_from
drew-none = record { onward = λ rest. onto-nothing (build_from rest 0 zero_f fresh_of); drawers = λ rest. refl; count = refl }

module _ {commands : List PathCommand} {done : List PathSegment} {k : ℕ} {before : Float} {pen : Pen} (d : Drew commands done k before pen) where
  -- no command is left
  pub drew-all : build_of commands ≡ path done
  unfolding build_from
  drew-all = ap build_of (sym (append-nil commands)) ∙ d.onward [] ∙ ap path (append-nil done)

  module _ (command : PathCommand) where
    -- the next command is taken
    next-taken : (rest : List PathCommand) → build_of ((commands ++ (command ∷ [])) ++ rest) ≡ onto done (follow k before (draw_of pen command) (build_from rest))
    unfolding build_from
    next-taken rest = ap build_of (append_assoc commands (command ∷ []) rest) ∙ d.onward (command ∷ rest)

    -- its number is told where it draws
    pub drew-named : drawers_of (commands ++ (command ∷ [])) ≡ drawers_of commands ++ named_by (length commands) (draw_of pen command)
    unfolding drawers_from
    drew-named = d.drawers (command ∷ []) ∙ ap (λ l. drawers_of commands ++ l) (alone (draw_of pen command))
      where
        alone : (drawn : Option Drawn) → named (length commands) drawn (drawers_from [] (suc (length commands))) ≡ named_by (length commands) drawn
        alone (Some (Moved next)) = refl
        alone (Some (Segment segment next)) = refl
        alone None = refl

    -- and so are those of the commands after it, which start from the pen that it leaves
    next-drawers :
        (drawn : Option Drawn) (next : Pen) → draw_of pen command ≡ drawn → ((rest : Pen → List ℕ) → named (length commands) drawn rest ≡ named_by (length commands) drawn ++ rest next)
        → (rest : List PathCommand) → drawers_of ((commands ++ (command ∷ [])) ++ rest) ≡ drawers_of (commands ++ (command ∷ [])) ++ drawers_from rest (length (commands ++ (command ∷ []))) next
    unfolding drawers_from
    next-drawers drawn next e onwards rest =
        ap drawers_of (append_assoc commands (command ∷ []) rest)
        ∙ d.drawers (command ∷ rest)
        ∙ ap (λ x. drawers_of commands ++ named (length commands) x (drawers_from rest (suc (length commands)))) e
        ∙ ap (λ l. drawers_of commands ++ l) (onwards (drawers_from rest (suc (length commands))))
        ∙ sym (append_assoc (drawers_of commands) (named_by (length commands) drawn) (drawers_from rest (suc (length commands)) next))
        ∙ ap (λ x. (drawers_of commands ++ named_by (length commands) x) ++ drawers_from rest (suc (length commands)) next) (sym e)
        ∙ ap (λ l. l ++ drawers_from rest (suc (length commands)) next) (sym drew-named)
        ∙ ap (λ n. drawers_of (commands ++ (command ∷ [])) ++ drawers_from rest n next) (sym (length-append commands (command ∷ []) ∙ add-one (length commands)))

    -- it draws nothing
    pub drew-moved : (next : Pen) → draw_of pen command ≡ Some (Moved next) → Drew (commands ++ (command ∷ [])) done k before next
    drew-moved next e =
        record {
          onward = λ rest. next-taken rest ∙ ap (λ x. onto done (follow k before x (build_from rest))) e;
          drawers = next-drawers (Some (Moved next)) next e (λ rest. refl);
          count = ap length (drew-named ∙ ap (λ x. drawers_of commands ++ named_by (length commands) x) e ∙ append-nil (drawers_of commands)) ∙ d.count;
        }

    -- it draws a segment
    pub drew-segment :
        (segment : PathSegment) (next : Pen) → draw_of pen command ≡ Some (Segment segment next) → finite (length_after before segment) ≡ true
        → Drew (commands ++ (command ∷ [])) (done ++ (segment ∷ [])) (suc k) (length_after before segment) next
    drew-segment segment next e f =
        record {
          onward = λ rest.
              next-taken rest
              ∙ ap (λ x. onto done (follow k before x (build_from rest))) e
              ∙ rw f (onto-prepend done segment (build_from rest (suc k) (length_after before segment) next));
          drawers = next-drawers (Some (Segment segment next)) next e (λ rest. refl);
          count =
              ap length (drew-named ∙ ap (λ x. drawers_of commands ++ named_by (length commands) x) e)
              ∙ length-append (drawers_of commands) (length commands ∷ [])
              ∙ add-one (length (drawers_of commands))
              ∙ ap suc d.count;
        }

    -- it is refused
    pub drew-infinite :
        (segment : PathSegment) (next : Pen) → draw_of pen command ≡ Some (Segment segment next) → finite (length_after before segment) ≡ false
        → (rest : List PathCommand) → build_of ((commands ++ (command ∷ [])) ++ rest) ≡ refusal (NotFinite k)
    drew-infinite segment next e f rest = next-taken rest ∙ ap (λ x. onto done (follow k before x (build_from rest))) e ∙ rw f

    pub drew-turned : draw_of pen command ≡ None → (rest : List PathCommand) → build_of ((commands ++ (command ∷ [])) ++ rest) ≡ refusal (RotationRange k)
    drew-turned e rest = next-taken rest ∙ ap (λ x. onto done (follow k before x (build_from rest))) e
