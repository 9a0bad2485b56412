-- `season_length::nearest` meets its contract: by twice the rest. Assumes nothing.
use borrow.Author.Rules.{rules}
use native.Mathlib.Nat.{mod-lt, div-le_self}
use native.Mathlib.Omega.{arith}
use Rattle.season_length.proofs.Laws.{closest-down, closest-up, closest-tie}
use Rattle.season_length.proofs.nearest.Goals as goal

pub overflow_mul-twice : goal.overflow_mul-twice
overflow_mul-twice c = let l = mod-lt c.args.n c.requires.0 in omega (arith, l)

pub returns-then-twice-unit : goal.returns-then-twice-unit
returns-then-twice-unit c = closest-down _ _ c.if-twice-unit.true

pub overflow_add-result : goal.overflow_add-result
overflow_add-result c = let l = div-le_self c.args.n c.args.unit in omega (arith, l)

pub returns-then-unit-twice : goal.returns-then-unit-twice
returns-then-unit-twice c = closest-up _ _ c.if-unit-twice.true

pub overflow_add-result-2 : goal.overflow_add-result-2
overflow_add-result-2 c = let l = div-le_self c.args.n c.args.unit in omega (arith, l)

pub returns : goal.returns
returns c = closest-tie _ _ (omega arith)
