-- `path_append::is_in_use` meets its contract: each way out is a case of `in_use`. Assumes nothing.
use Rattle.path_append.proofs.InUse.{few-kinds, many-kinds, few-lengths, few-commands, few-numbers, few-tables, checked}
use native.Mathlib.Omega.{arith}
use Rattle.path_append.proofs.used.is_in_use.Goals as goal

pub returns-then-path-count : goal.returns-then-path-count
returns-then-path-count c = few-kinds _ _ c.if-path-count.true

pub returns-then-count-gt65536 : goal.returns-then-count-gt65536
returns-then-count-gt65536 c = many-kinds _ _ c.if-path-count.false c.if-count-gt65536.true

pub returns-then-path-count-2 : goal.returns-then-path-count-2
returns-then-path-count-2 c = few-lengths _ _ c.if-path-count.false c.if-path-count-2.true

pub returns-then-path-count-3 : goal.returns-then-path-count-3
returns-then-path-count-3 c = few-commands _ _ c.if-path-count.false c.if-path-count-3.true

pub returns-then-path-n : goal.returns-then-path-n
returns-then-path-n c = few-numbers _ _ c.if-path-count.false (omega (arith, c.if-path-n.true, c.numbers_used-n.ensures))

pub returns-then-path-m : goal.returns-then-path-m
returns-then-path-m c = few-tables _ _ c.if-path-count.false (omega (arith, c.if-path-m.true, c.tables_used-m.ensures))

pub returns : goal.returns
returns c =
    checked _ _ _ _ _ c.numbers_used-n.ensures c.tables_used-m.ensures c.if-path-count.false c.check_path.ensures.stored
