-- `decimal_tie::scales::lower` meets its contract. Assumes nothing.
use mathlib.Core.Path.{sym, ◌∙◌}
use Prim.Native.Nat.{◌+◌, ◌-◌}
use native.Mathlib.Nat.{add-zero}
use native.Mathlib.Omega.{arith}
use Rattle.decimal_tie.proofs.Wides.{tens-wide, tens-none}
use Rattle.decimal_tie.proofs.Weighed.{lower-beyond, lower-on, lower-end}
use Rattle.decimal_tie.proofs.scales.lower.Goals as goal

pub times_ten-t-requires : goal.times_ten-t-requires
times_ten-t-requires c = (c.zeros.invariant.0, omega arith)

pub returns-then-t-gt0 : goal.returns-then-t-gt0
returns-then-t-gt0 c =
    record {
      said = λ v l h.
          c.zeros.invariant.1 v l h
          ∙ lower-beyond v l h _ _ _ (c.args.zeros - (c.zeros.counter + 1)) (omega (arith, c.zeros-test.true)) _ (sym (add-zero _) ∙ tens-wide _ 0 _ c.times_ten-t.ensures)
          c.if-t-gt0.true;
    }

pub zeros-preserved : goal.zeros-preserved
zeros-preserved c = (
  c.times_ten-t.ensures.small,
  λ v l h.
      c.zeros.invariant.1 v l h
      ∙ lower-on v l h _ _ _ _ (omega (arith, c.zeros-test.true)) (sym (add-zero _) ∙ tens-none _ 0 _ c.times_ten-t.ensures c.if-t-gt0.false),
)

pub returns : goal.returns
returns c =
    record {
      said = λ v l h. (c.zeros.invariant.0, c.zeros.invariant.1 v l h ∙ lower-end v l _ _ (omega (arith, c.zeros-test.false)));
    }
