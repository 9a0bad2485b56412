-- The lines of a plan's commands: what is known between two commands, and what a step does to that. Assumes nothing.
use Prim.Native.Nat.{ℕ, suc, ◌+◌, ◌*◌, ◌≤◌, ◌<◌}
use mathlib.Core.Path.{◌≡◌, refl, sym, ap, ◌∙◌}
use mathlib.Core.List.{List, [], ◌∷◌, ◌++◌, append_assoc, append-nil}
use native.Mathlib.Omega.{arith}
use lib.ListN.{length, drop, length-append}
use Rattle.std.specs.Prelude.{Some, None, Ok, Err}
use Rattle.answers.specs.declared.refusals.Refusal.{Refusal}
use Rattle.commands.specs.Stored.{letters_of}
use Rattle.commands.specs.declared.command.PathCommand.{PathCommand}
use Rattle.svg_step.specs.Steps.{fresh_of, Step, read_step_of}
use Rattle.svg.specs.Texts.{Outcome, commands, refusal, read_from, commands_of, offsets_of}
use Rattle.svg_step.specs.declared.steps.Reader.{Reader}
use Rattle.svg_step.specs.declared.steps.Stepped.{Stepped}
use Rattle.svg.proofs.PassLaws.{onto, Known, known-none, known-all, known-offsets, known-refused, known_more, known-offset}
use Rattle.text_reader.specs.Plans.{step_of}
use Rattle.station_lines.specs.Lines.{command_line}
use Rattle.station_lines.specs.Put.{Put, PutWithin}
use Rattle.station_lines.proofs.Putting.{put-none, put_same, put_then, put-length}
use Rattle.station_commands.specs.Passes.{command_lines, FewCommands, Listed}

-- a step of the plan is a step of its path's text
pub step-as : (input : List ℕ) (start : ℕ) (state : Reader) (r s : Step) → r ≡ step_of input start state → r ≡ s → read_step_of (drop start input) state ≡ s
unfolding step_of
step-as input start state r s e f = sym e ∙ f

-- ---- the lines

-- one command more, and its offset
lines_more :
    (done : List PathCommand) (marks : List ℕ) (command : PathCommand) (offset : ℕ) → length marks ≡ length done
    → command_lines done marks ++ command_line command offset ≡ command_lines (done ++ (command ∷ [])) (marks ++ (offset ∷ []))
unfolding command_lines
lines_more [] [] command offset e = sym (append-nil (command_line command offset))
lines_more [] (mark ∷ marks) command offset e = absurd (omega arith)
lines_more (x ∷ done) [] command offset e = absurd (omega arith)
lines_more (x ∷ done) (mark ∷ marks) command offset e =
    append_assoc (command_line x mark) (command_lines done marks) (command_line command offset)
    ∙ ap (λ (l : List ℕ). command_line x mark ++ l) (lines_more done marks command offset (omega arith))

pub letters-count : (list : List PathCommand) → length (letters_of list) ≡ length list
unfolding letters_of
letters-count [] = refl
letters-count (command ∷ list) = ap suc (letters-count list)

pub record Listing (text before out : List ℕ) (from : ℕ) (reader : Reader) (at : ℕ) : Type 0 where
  pub done : List PathCommand
  pub known : Known text reader done
  pub put : Put (command_lines done known.marks) from before out at
  pub within : at ≤ from + 70 * length done
  pub few : FewCommands (commands_of text)
  pub short : length text ≤ 4096

pub listing_none : (text before : List ℕ) (from : ℕ) → FewCommands (commands_of text) → length text ≤ 4096 → Listing text before before from fresh_of from
unfolding command_lines
listing_none text before from few short = record { done = []; known = known-none text; put = put-none from before; within = omega arith; few = few; short = short }

-- the commands known are few, and so are those to come
few-of : (done : List PathCommand) (whole rest : Outcome) → FewCommands whole → whole ≡ onto done rest → length done ≤ 256
few-of done (refusal reason) rest few e = absurd few
few-of done (commands list) (refusal reason) few e = let z : ◌≡◌ {A = ℕ} 0 1 = cc in absurd (omega arith)
few-of done (commands list) (commands rest) few e =
    let f : list ≡ done ++ rest = cc in
    omega (arith, few, ap length f ∙ length-append done rest)

module _ (text before out : List ℕ) (from : ℕ) (reader : Reader) (at : ℕ) (k : Listing text before out from reader at) where
  pub same_out : length out ≡ length before
  same_out = put-length k.put

  pub never-refused : (reason : Refusal) → read_step_of text reader ≡ Err reason → ⊥
  never-refused reason e = rw (known-refused text reader k.done k.known reason e) at k.few

  pub listed : read_step_of text reader ≡ Ok None → Listed (offsets_of text) (commands_of text) from before out at
  listed e =
      let w = few-of k.done (commands_of text) (read_from k.known.steps text reader) k.few k.known.whole in
      let b : at ≤ from + 17920 = omega (arith, w, k.within) in
      rw (known-all text reader k.done k.known e, known-offsets text reader k.done k.known e) (record { put = k.put; within = b })

  module _ (step : Stepped) (e : read_step_of text reader ≡ Ok (Some step)) where
    more : Known text step.next (k.done ++ (step.command ∷ []))
    more = known_more text reader k.done k.known step e

    -- its line has room, and its offset at most four digits
    pub line-room : from + 17920 ≤ 69632 → (step.next.offset < 10000) × (at + 70 ≤ 69632)
    line-room h =
        let w = few-of (k.done ++ (step.command ∷ [])) (commands_of text) (read_from more.steps text step.next) k.few more.whole in
        let o = known-offset text reader k.done k.known step e in
        (omega (arith, k.short), omega (arith, w, length-append k.done (step.command ∷ []), k.within))

    pub listing-more : (out' : List ℕ) (at' : ℕ) → PutWithin 70 (command_line step.command step.next.offset) at out out' at' → Listing text before out' from step.next at'
    unfolding known_more more
    listing-more out' at' p =
        let m : length k.known.marks ≡ length k.done = k.known.many ∙ letters-count k.done in
        record {
          done = k.done ++ (step.command ∷ []);
          known = more;
          put =
              put_same (put_then k.put p.put) (command_lines (k.done ++ (step.command ∷ [])) (k.known.marks ++ (step.next.offset ∷ [])))
              (lines_more k.done k.known.marks step.command step.next.offset m);
          within = omega (arith, p.within, k.within, length-append k.done (step.command ∷ []));
          few = k.few;
          short = k.short;
        }
