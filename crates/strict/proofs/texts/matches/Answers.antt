-- `strict::matches` meets its contract. The invariant: the text matches exactly where it can be read to its end from `at`, at which a command is due.
-- The measure is what is left of the text; a command has a byte, so it falls. Assumes nothing.
use Prim.Native.Nat.{ℕ, ◌-◌, ◌≤◌, ◌<◌}
use mathlib.Core.Path.{refl}
use native.Mathlib.Omega.{arith}
use borrow.Author.Tests.{eqb-true, eq-eqb}
use Rattle.scan.proofs.ByteLaws.{clash}
use Rattle.strict.proofs.CommandLaws.{command-grows}
use Rattle.strict.proofs.Rests.{ended, set_out, goes-forth, goes_back, gap-onward, no_second, no_more, at-end}
use Rattle.strict.proofs.texts.matches.Goals as goal

falls : (n i j k : ℕ) → i < n → i < j → j ≤ k → n - k < n - i
falls n i j k a b c = omega arith

pub loop-at-init : goal.loop-at-init
loop-at-init c = set_out _ _ _ _ c.past_space-at.ensures c.stands_alone-alone.ensures

pub returns-then-alone-begun : goal.returns-then-alone-begun
returns-then-alone-begun c =
    (λ z. absurd (clash z refl), λ m. absurd (no_second c.args.text.edition c.args.text.bytes.now _ c.loop-at.begun _ c.loop-at-test.true c.if-alone-begun.true (c.loop-at.invariant.0 m)))

pub returns-in_default : goal.returns-in_default
returns-in_default c =
    (λ z. absurd (clash z refl), λ m. absurd (no_more c.args.text.edition c.args.text.bytes.now _ _ _ c.loop-at-test.true c.in_default.ensures (c.loop-at.invariant.0 m)))

pub loop-at-smaller : goal.loop-at-smaller
loop-at-smaller c =
    falls _ _ _ _ c.loop-at-test.true (command-grows c.args.text.edition c.args.text.bytes.now c.loop-at.begun _ _ c.in-Some.ensures.0)
    (gap-onward c.args.text.edition c.args.text.bytes.now _ _ c.past_gap-at.ensures)

pub loop-at-preserved : goal.loop-at-preserved
loop-at-preserved c = (
  λ m. goes-forth c.args.text.edition c.args.text.bytes.now _ _ _ _ _ c.loop-at-test.true c.in-Some.ensures c.past_gap-at.ensures (c.loop-at.invariant.0 m),
  λ r. c.loop-at.invariant.1 (goes_back c.args.text.edition c.args.text.bytes.now _ c.loop-at.begun _ _ _ c.if-alone-begun.false c.in-Some.ensures c.past_gap-at.ensures r),
)

pub returns : goal.returns
returns c =
    (λ z. c.loop-at.invariant.1 (ended (eqb-true _ _ z)), λ m. eq-eqb _ _ (at-end c.args.text.edition c.args.text.bytes.now _ _ _ c.loop-at-test.false (c.loop-at.invariant.0 m)))
