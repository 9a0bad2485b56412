-- `strict::read_command` meets its contract, letter by letter. Assumes nothing.
use native.Mathlib.Omega.{arith}
use Rattle.scan.proofs.RunLaws.{stands-within}
use Rattle.strict.specs.Commands.{move_letters, close_letters, letters_of}
use Rattle.strict.proofs.CommandLaws.{moves, closes, closes-not-begun, takes, takes-not-begun, no-letter}
use Rattle.strict.proofs.commands.read_command.Goals as goal

pub overflow_add-at : goal.overflow_add-at
overflow_add-at c = omega (arith, stands-within move_letters c.args.text.bytes.now c.args.at c.in-Moves.ensures)

pub overflow_add-result : goal.overflow_add-result
overflow_add-result c = omega (arith, stands-within close_letters c.args.text.bytes.now c.args.at c.in-Closes.ensures)

pub overflow_add-at-in-Takes : goal.overflow_add-at-in-Takes
overflow_add-at-in-Takes c = omega (arith, stands-within (letters_of c.in-Takes.kind) c.args.text.bytes.now c.args.at c.in-Takes.ensures)

pub returns-in-Moves : goal.returns-in-Moves
returns-in-Moves c = moves c.args.text.edition c.args.text.bytes.now c.args.at c.in-Moves.ensures c.args.begun c.read_arguments.result c.read_arguments.ensures

pub returns-in-Closes : goal.returns-in-Closes
returns-in-Closes c = rw c.if-begun.true (closes c.args.text.edition c.args.text.bytes.now c.args.at c.in-Closes.ensures)

pub returns-in-Takes : goal.returns-in-Takes
returns-in-Takes c =
    rw c.if-begun-2.true
    (takes c.args.text.edition c.args.text.bytes.now c.args.at c.in-Takes.kind c.in-Takes.ensures c.read_arguments-in-Takes.result c.read_arguments-in-Takes.ensures)

pub returns-in_default : goal.returns-in_default
returns-in_default c = rw c.if-begun.false (closes-not-begun c.args.text.edition c.args.text.bytes.now c.args.at c.in-Closes.ensures)

pub returns-in_default-2 : goal.returns-in_default-2
returns-in_default-2 c = rw c.if-begun-2.false (takes-not-begun c.args.text.edition c.args.text.bytes.now c.args.at c.in-Takes.kind c.in-Takes.ensures)

pub returns-in_default-3 : goal.returns-in_default-3
returns-in_default-3 c = no-letter c.args.text.edition c.args.text.bytes.now c.args.at c.args.begun c.in_default.ensures
