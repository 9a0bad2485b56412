-- `autopilot_legs` meets its contract: a short answer leaves all as it was, any other gives what the entry below gave. Assumes nothing.
use borrow.Author.Rules.{rules}
use Rattle.autopilot.proofs.Giving.{legs-short, legs-given}
use Rattle.autopilot.proofs.autopilot_legs.Goals as goal

pub returns-then-answer-lt8 : goal.returns-then-answer-lt8
returns-then-answer-lt8 c = legs-short _ _ _ c.if-answer-lt8.true

pub returns : goal.returns
returns c =
    legs-given c.args.answer.now _ _ c.if-answer-lt8.false _ _ c.args.out.now _ _ c.legs-flattened.ensures c.give_legs.ensures
