-- `decimal_digits::gathering::pass_rest` meets its contract. Assumes nothing.
use Rattle.std.proofs.Common.{ℕ, ◌+◌, ◌-◌, sym, subst, arith}
use Rattle.scan.specs.Bytes.{digits}
use Rattle.scan.proofs.RunLaws.{all-onward}
use Rattle.decimal_digits.specs.Leading.{Gathers}
use Rattle.decimal_digits.proofs.Taking.{gathers-none, gathers-rest}
use Rattle.decimal_digits.proofs.gathering.pass_rest.Goals as goal

pub returns-then-w-lt1000000000000000000 : goal.returns-then-w-lt1000000000000000000
returns-then-w-lt1000000000000000000 c = gathers-none _ _ _ _ (c.requires.1 c.if-w-lt1000000000000000000.true) c.requires.0

pub overflow_sub-result : goal.overflow_sub-result
overflow_sub-result c = omega (arith, c.past_many_digits-end.ensures, all-onward digits c.args.text.now c.args.taken.at)

pub overflow_add-result : goal.overflow_add-result
overflow_add-result c = record { fits = omega (arith, c.requires.0, c.past_many_digits-end.ensures, all-onward digits c.args.text.now c.args.taken.at) }

pub returns : goal.returns
returns c =
    subst (λ (end : ℕ). Gathers c.args.text.now c.args.taken.at c.args.taken.w c.args.dropped (record { at = end; w = c.args.taken.w; dropped = c.args.dropped + (end - c.args.taken.at) })) (sym c.past_many_digits-end.ensures)
    (gathers-rest c.args.text.now c.args.taken.at c.args.taken.w c.args.dropped c.if-w-lt1000000000000000000.false c.requires.0)
