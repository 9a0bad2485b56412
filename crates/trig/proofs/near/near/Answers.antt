-- The float is the difference exactly, and its pattern packs it: `difference-answer`. Assumes nothing.
use Rattle.std.proofs.Common.{ap, ◌∙◌, arith}
use lib.Ieee.{binary32, of_bits}
use Rattle.trig_single.proofs.Finite.{finite-bits}
use Rattle.trig_single.proofs.Near.{difference-near, difference-answer}
use Rattle.trig.proofs.near.near.Goals as goal

pub float_from_bits-d : goal.float_from_bits-d
float_from_bits-d c = finite-bits _ (omega arith)

pub float_to_bits-d : goal.float_to_bits-d
float_to_bits-d c = (difference-near c.args.a c.args.t c.requires.0 c.requires.1).number

pub single-requires : goal.single-requires
single-requires c = (difference-near c.args.a c.args.t c.requires.0 c.requires.1).range

pub returns : goal.returns
returns c =
    c.single.ensures ∙ ap (of_bits binary32) (difference-answer c.args.a c.args.t c.requires.0 c.requires.1)
