-- The path's text is what stands from its place on; past the plan's end it is empty. Assumes nothing.
use Prim.Native.Nat.{ℕ, ◌-◌, ◌≤◌, ◌<◌}
use mathlib.Core.Path.{◌≡◌, sym, ap, ◌∙◌}
use mathlib.Core.List.{List, []}
use native.Mathlib.Omega.{arith}
use lib.ListN.{length, take, drop, length-drop}
use lib.Seq.{take_all}
use Rattle.svg_step.specs.Steps.{Step, read_step_of}
use Rattle.svg_step.specs.declared.steps.Reader.{Reader}
use Rattle.text_reader.specs.Plans.{step_of}

-- nothing stands past the end
gone : (at : ℕ) (text : List ℕ) → length text ≤ at → drop at text ≡ []
gone at text h = sym (take_all 0 (drop at text) (omega (arith, length-drop at text)))

module _ (text : List ℕ) (at : ℕ) (state : Reader) (r : Step) where
  pub step-inside : r ≡ read_step_of (take (length text - at) (drop at text)) state → r ≡ step_of text at state
  unfolding step_of
  step-inside e = e ∙ ap (λ t. read_step_of t state) (take_all (length text - at) (drop at text) (omega (arith, length-drop at text)))

  pub step_past : length text < at → r ≡ read_step_of (take (length text - length text) (drop (length text) text)) state → r ≡ step_of text at state
  unfolding step_of
  step_past h e =
      let z : length text - length text ≡ 0 = omega arith in
      e
      ∙ ap (λ k. read_step_of (take k (drop (length text) text)) state) z
      ∙ ap (λ t. read_step_of t state) (sym (gone at text (omega arith)))
