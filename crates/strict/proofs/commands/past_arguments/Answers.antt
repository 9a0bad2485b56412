-- `strict::past_arguments` meets its contract. The invariant is `Going`: the items from `at` up to `end` are words, and what is left of any others
-- from `at` is words from `end`, unless they ended where a sequence could go on. The measure is what is left of the text. Assumes nothing.
use native.Mathlib.Omega.{arith}
use Rattle.std.specs.Prelude.{Some, None}
use Rattle.strict.proofs.Sequences.{set_out, go_on, come-to-end, item, item-ahead}
use Rattle.strict.proofs.commands.past_arguments.Goals as goal

pub loop-next-init : goal.loop-next-init
loop-next-init c = set_out _ _ _ _

pub returns-in_default : goal.returns-in_default
returns-in_default c =
    come-to-end c.args.text.edition c.args.text.bytes.now c.args.kind c.args.at _ c.loop-next.invariant
    (item c.args.text.edition c.args.text.bytes.now c.args.kind _ _ None c.past_separator-start.ensures c.in_default.ensures)

pub loop-next-smaller : goal.loop-next-smaller
loop-next-smaller c =
    let one = item c.args.text.edition c.args.text.bytes.now c.args.kind _ _ (Some c.in-Some.next) c.past_separator-start.ensures c.in-Some.ensures in
    let h = item-ahead c.args.text.edition c.args.text.bytes.now c.args.kind _ _ one.0 in
    omega arith

pub loop-next-preserved : goal.loop-next-preserved
loop-next-preserved c =
    go_on c.args.text.edition c.args.text.bytes.now c.args.kind c.args.at _ c.loop-next.invariant _
    (item c.args.text.edition c.args.text.bytes.now c.args.kind _ _ (Some c.in-Some.next) c.past_separator-start.ensures c.in-Some.ensures)
