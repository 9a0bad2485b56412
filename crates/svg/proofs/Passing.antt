-- The first pass counts what the steps give. It knows of the reader's state what needs no values. Assumes nothing.
use Prim.Native.Nat.{ℕ, ◌+◌, ◌*◌, ◌≤◌, ◌<◌}
use mathlib.Core.Path.{◌≡◌, refl, sym, ap, ◌∙◌}
use mathlib.Core.Bool.{Bool, true}
use mathlib.Core.List.{List}
use native.Mathlib.Omega.{arith}
use lib.ListN.{length}
use Rattle.std.specs.Prelude.{Some, None, Ok, Err}
use Rattle.answers.specs.declared.refusals.Refusal.{Refusal}
use Rattle.commands.specs.Stored.{arguments_of}
use Rattle.svg_step.specs.Steps.{Step, read_step_of, pass_to, pass_step_of}
use Rattle.svg_step.specs.declared.steps.Reader.{Reader}
use Rattle.svg_step.specs.declared.steps.Stepped.{Stepped}
use Rattle.svg_step.specs.declared.steps.Pass.{Pass}
use Rattle.svg_step.proofs.Ahead.{step-ahead}
use Rattle.svg_step.proofs.Passed.{pass_of, step-passed}
use Rattle.svg.specs.Texts.{commands_of, counts_at, measure_of}
use Rattle.svg.proofs.PassLaws.{Counting, counted, uncounted, counting-within, counting_more}

pub record Passing (text : List ℕ) (from remembered : ℕ) (placed : Bool) (letter_at at : ℕ) : Type 0 where
  pub reader : Reader
  pub from_is : reader.at ≡ from
  pub letter-is : reader.letter ≡ remembered
  pub placed-is : reader.placed ≡ placed
  pub counting : Counting text reader letter_at at

pub passing-from : {text : List ℕ} {reader : Reader} {letter_at at : ℕ} → Counting text reader letter_at at → Passing text reader.at reader.letter reader.placed letter_at at
passing-from {text} {reader} counting = record { reader = reader; from_is = refl; letter-is = refl; placed-is = refl; counting = counting }

-- the step that a pass agrees with
record Agreed (text : List ℕ) (reader : Reader) (pass : Pass) : Type 0 where
  step : Stepped
  is : read_step_of text reader ≡ Ok (Some step)
  width_is : pass.width ≡ length (arguments_of step.command)
  next-is : step.next.at ≡ pass.next
  letter-is : step.next.letter ≡ pass.letter

module _ {text : List ℕ} {from remembered : ℕ} {placed : Bool} {letter_at at : ℕ} (k : Passing text from remembered placed letter_at at) where
  agrees : pass_of (read_step_of text k.reader) ≡ pass_step_of text from remembered placed
  agrees = rw (← k.from_is, ← k.letter-is, ← k.placed-is) (step-passed text k.reader)

  done : (step : Step) → pass_of step ≡ Ok None → step ≡ Ok None
  done (Ok (Some step)) e = let z : ◌≡◌ {A = ℕ} 0 1 = cc in absurd (omega arith)
  done (Ok None) e = refl
  done (Err reason) e = let z : ◌≡◌ {A = ℕ} 0 1 = cc in absurd (omega arith)

  refused : (step : Step) (reason : Refusal) → pass_of step ≡ Err reason → step ≡ Err reason
  refused (Ok (Some step)) reason e = let z : ◌≡◌ {A = ℕ} 0 1 = cc in absurd (omega arith)
  refused (Ok None) reason e = let z : ◌≡◌ {A = ℕ} 0 1 = cc in absurd (omega arith)
  refused (Err other) reason e = let f : other ≡ reason = cc in ap Err f

  commanded : (pass : Pass) (step : Step) → read_step_of text k.reader ≡ step → pass_of step ≡ Ok (Some pass) → Agreed text k.reader pass
  commanded pass (Ok (Some step)) e f =
      let same : pass_to (length (arguments_of step.command)) step.next.at step.next.letter ≡ pass = cc in
      record {
        step = step;
        is = e;
        width_is = sym (ap (λ (p : Pass). p.width) same);
        next-is = ap (λ (p : Pass). p.next) same;
        letter-is = ap (λ (p : Pass). p.letter) same;
      }
  commanded pass (Ok None) e f = let z : ◌≡◌ {A = ℕ} 0 1 = cc in absurd (omega arith)
  commanded pass (Err reason) e f = let z : ◌≡◌ {A = ℕ} 0 1 = cc in absurd (omega arith)

  pub passed-done : pass_step_of text from remembered placed ≡ Ok None → Ok (counts_at letter_at at) ≡ measure_of (commands_of text)
  passed-done e = counted text k.reader letter_at at k.counting (done (read_step_of text k.reader) (agrees ∙ e))

  pub passed-refused : (reason : Refusal) → pass_step_of text from remembered placed ≡ Err reason → Err reason ≡ measure_of (commands_of text)
  passed-refused reason e = uncounted text k.reader letter_at at k.counting reason (refused (read_step_of text k.reader) reason (agrees ∙ e))

  module _ {pass : Pass} (e : pass_step_of text from remembered placed ≡ Ok (Some pass)) where
    s : Agreed text k.reader pass
    s = commanded pass (read_step_of text k.reader) refl (agrees ∙ e)

    -- the counts are small, and the place goes on
    pub passing-within : (letter_at < length text) × (at ≤ 7 * letter_at) × (pass.width ≤ 7) × (from < pass.next) × (from < length text)
    passing-within =
        let w = counting-within text k.reader letter_at at k.counting s.step s.is in
        let a = step-ahead text k.reader s.step s.is in
        (w.0, w.1, omega (arith, w.2, s.width_is), omega (arith, a.0, k.from_is, s.next-is), omega (arith, a.1, k.from_is))

    pub passing-more : Passing text pass.next pass.letter true (letter_at + 1) (at + pass.width)
    passing-more =
        record {
          reader = s.step.next;
          from_is = s.next-is;
          letter-is = s.letter-is;
          placed-is = (step-ahead text k.reader s.step s.is).2;
          counting = counting_more text k.reader letter_at at k.counting s.step s.is pass.width s.width_is;
        }
