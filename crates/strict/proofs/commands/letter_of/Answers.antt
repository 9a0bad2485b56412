-- `strict::letter_of` meets its contract: each arm's bytes are those of a class, and a byte of no arm begins no command. Assumes nothing.
use native.Mathlib.Omega.{arith}
use borrow.Author.Rules.{rules}
use borrow.Author.Tests.{ne_eqb}
use Rattle.scan.specs.Bytes.{among}
use Rattle.strict.proofs.commands.letter_of.Goals as goal

pub returns-in-77 : goal.returns-in-77
unfolding among
returns-in-77 c = grind (arith, c.in-77.is)

pub returns-in-90 : goal.returns-in-90
unfolding among
returns-in-90 c = grind (arith, c.in-90.is)

pub returns-in-76 : goal.returns-in-76
unfolding among
returns-in-76 c = grind (arith, c.in-76.is)

pub returns-in-72 : goal.returns-in-72
unfolding among
returns-in-72 c = grind (arith, c.in-72.is)

pub returns-in-67 : goal.returns-in-67
unfolding among
returns-in-67 c = grind (arith, c.in-67.is)

pub returns-in-83 : goal.returns-in-83
unfolding among
returns-in-83 c = grind (arith, c.in-83.is)

pub returns-in-65 : goal.returns-in-65
unfolding among
returns-in-65 c = grind (arith, c.in-65.is)

pub returns-in_default : goal.returns-in_default
unfolding among
returns-in_default c =
    simp (
      ne_eqb c.args.byte 77 (search rules),
      ne_eqb c.args.byte 109 (search rules),
      ne_eqb c.args.byte 90 (search rules),
      ne_eqb c.args.byte 122 (search rules),
      ne_eqb c.args.byte 72 (search rules),
      ne_eqb c.args.byte 104 (search rules),
      ne_eqb c.args.byte 86 (search rules),
      ne_eqb c.args.byte 118 (search rules),
      ne_eqb c.args.byte 76 (search rules),
      ne_eqb c.args.byte 108 (search rules),
      ne_eqb c.args.byte 84 (search rules),
      ne_eqb c.args.byte 116 (search rules),
      ne_eqb c.args.byte 83 (search rules),
      ne_eqb c.args.byte 115 (search rules),
      ne_eqb c.args.byte 81 (search rules),
      ne_eqb c.args.byte 113 (search rules),
      ne_eqb c.args.byte 67 (search rules),
      ne_eqb c.args.byte 99 (search rules),
      ne_eqb c.args.byte 65 (search rules),
      ne_eqb c.args.byte 97 (search rules),
    )
