-- A short answer leaves all as it was; any other gives what the entry below gave, and both shapes stand on their lines in order. Assumes nothing.
use borrow.Author.Rules.{rules}
use native.Mathlib.Omega.{arith}
use Rattle.kihavute_paths.proofs.Putting.{put-two-short, put-morphed}
use Rattle.kihavute_paths.proofs.Standing.{morphed-stands}
use Rattle.kihavute_paths.proofs.morphs.kihavute_morph_default.Goals as goal

pub returns-then-answer-lt8 : goal.returns-then-answer-lt8
returns-then-answer-lt8 c = record { put_morph = put-two-short _ _ _ _ c.if-answer-lt8.true; in_order_by = (λ zero. absurd (omega (arith, zero)), λ zero. absurd (omega (arith, zero))) }

pub returns : goal.returns
returns c =
    record {
      put_morph = put-morphed c.args.answer.now _ _ c.if-answer-lt8.false _ _ _ c.args.out_from.now c.args.out_to.now _ _ _ c.morph_default-morphed.ensures c.give_morphed.ensures;
      in_order_by = morphed-stands _ _ _ c.args.out_from.now c.args.out_to.now _ _ _ c.morph_default-morphed.ensures c.give_morphed.ensures;
    }
