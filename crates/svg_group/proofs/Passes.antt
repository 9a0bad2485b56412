-- Numbers that are passed one after the other are the pairs of a group. Assumes nothing.
use Prim.Native.Nat.{ℕ, suc, ◌+◌, ◌-◌, ◌≤◌, ◌<◌}
use mathlib.Core.Path.{◌≡◌, sym, ap, ◌∙◌}
use mathlib.Core.List.{List}
use native.Mathlib.Omega.{arith}
use Rattle.std.specs.Prelude.{Result, Ok, Err}
use Rattle.answers.specs.declared.refusals.Refusal.{Refusal}
use Rattle.svg_group.specs.Numbers.{and_then, read_flags_of}
use Rattle.svg_group.specs.Passing.{pass_number_of, pass_numbers_of, pass_pair_of, pass_quad_of, pass_cubic_of, pass_arc_of}
use Rattle.svg_group.proofs.Thens.{then-ok, then-then, then-same}

module _ (text : List ℕ) where
  -- the numbers that are left after i of them: one further, one that is refused, and none
  pub pass_next :
      (count i at next : ℕ) → i < count → pass_number_of text at ≡ Ok next → pass_numbers_of text (count - i) at ≡ pass_numbers_of text (count - (i + 1)) next
  unfolding pass_numbers_of
  pass_next count i at next h e =
      let left : count - i ≡ suc (count - (i + 1)) = omega arith in
      rw (left, e)

  pub pass_refused : (count i at : ℕ) (refusal : Refusal) → i < count → pass_number_of text at ≡ Err refusal → Err refusal ≡ pass_numbers_of text (count - i) at
  unfolding pass_numbers_of
  pass_refused count i at refusal h e =
      let left : count - i ≡ suc (count - (i + 1)) = omega arith in
      rw (left, e)

  pub pass_done : (count i at : ℕ) → count ≤ i → Ok at ≡ pass_numbers_of text (count - i) at
  unfolding pass_numbers_of
  pass_done count i at h =
      let left : count - i ≡ 0 = omega arith in
      rw left

  pub two_pass : (at : ℕ) → pass_numbers_of text 2 at ≡ pass_pair_of text at
  unfolding pass_numbers_of pass_pair_of
  two_pass at = then-same (pass_number_of text at) _ _ (λ next. then-ok (pass_number_of text next))

  -- a pair, and the numbers past it
  past-pair : (count at : ℕ) → pass_numbers_of text (suc (suc count)) at ≡ and_then (pass_pair_of text at) (pass_numbers_of text count)
  unfolding pass_numbers_of pass_pair_of
  past-pair count at = sym (then-then (pass_number_of text at) (pass_number_of text) (pass_numbers_of text count))

  pub four_pass : (at : ℕ) → pass_numbers_of text 4 at ≡ pass_quad_of text at
  unfolding pass_quad_of
  four_pass at = past-pair 2 at ∙ then-same (pass_pair_of text at) _ _ two_pass

  pub six_pass : (at : ℕ) → pass_numbers_of text 6 at ≡ pass_cubic_of text at
  unfolding pass_cubic_of pass_quad_of
  six_pass at =
      past-pair 4 at
      ∙ then-same (pass_pair_of text at) _ _ (λ next. past-pair 2 next ∙ then-same (pass_pair_of text next) _ _ two_pass)
      ∙ sym (then-then (pass_pair_of text at) (pass_pair_of text) (pass_pair_of text))

  one_pass : (at : ℕ) → pass_numbers_of text 1 at ≡ pass_number_of text at
  unfolding pass_numbers_of
  one_pass at = then-ok (pass_number_of text at)

  -- the radii and the rotation
  pub three_pass : (at : ℕ) → pass_arc_of text at ≡ and_then (pass_numbers_of text 3 at) (λ third. and_then (read_flags_of text third) (λ flags. pass_pair_of text flags.next))
  unfolding pass_arc_of
  three_pass at =
      let go : ℕ → Result ℕ Refusal = λ third. and_then (read_flags_of text third) (λ flags. pass_pair_of text flags.next) in
      then-same (pass_pair_of text at) _ (λ second. and_then (pass_numbers_of text 1 second) go) (λ second. ap (λ r. and_then r go) (sym (one_pass second)))
      ∙ sym (then-then (pass_pair_of text at) (pass_numbers_of text 1) go)
      ∙ ap (λ r. and_then r go) (sym (past-pair 1 at))
