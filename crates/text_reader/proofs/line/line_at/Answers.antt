-- `text_reader::line::line_at` meets its contract: each way out is a case of its definition. Assumes nothing.
use Prim.Native.Nat.{◌<◌}
use lib.ListN.{length}
use native.Mathlib.Omega.{arith}
use mathlib.Core.Path.{sym, ◌∙◌}
use Rattle.text_reader.proofs.Lines.{feed-inside, line-none, line-long, line-judged, line_other}
use Rattle.text_reader.proofs.line.line_at.Goals as goal

pub returns-then-end-at : goal.returns-then-end-at
returns-then-end-at c = line-none _ _ _ c.exponent-run.ensures c.if-end-at.true

pub returns-then-end-at-gt9 : goal.returns-then-end-at-gt9
returns-then-end-at-gt9 c = line-long _ _ _ c.exponent-run.ensures c.if-end-at.false c.if-end-at-gt9.true

pub overflow_add-end : goal.overflow_add-end
overflow_add-end c =
    let h : c.exponent-run.result.at < length c.args.text.now = feed-inside c.args.text.now c.exponent-run.result.at (sym c.byte_at.ensures ∙ c.if-byte_at-eq10.true) in
    omega arith

pub returns-then-byte_at-eq10 : goal.returns-then-byte_at-eq10
returns-then-byte_at-eq10 c =
    line-judged _ _ _ c.exponent-run.ensures c.if-end-at.false c.if-end-at-gt9.false _ (sym c.byte_at.ensures ∙ c.if-byte_at-eq10.true) c.judge.ensures

pub returns : goal.returns
returns c = line_other _ _ _ c.exponent-run.ensures c.if-end-at.false c.if-end-at-gt9.false (λ t. c.if-byte_at-eq10.false (c.byte_at.ensures ∙ t))
