-- A short answer leaves all as it was; any other gives what the entry below gave, which stands on the line in order. Assumes nothing.
use borrow.Author.Rules.{rules}
use native.Mathlib.Omega.{arith}
use Rattle.kihavute_paths.proofs.Putting.{put-short, put-resampled}
use Rattle.kihavute_paths.proofs.Standing.{resampled-stands}
use Rattle.kihavute_paths.proofs.morphs.kihavute_resample.Goals as goal

pub returns-then-answer-lt8 : goal.returns-then-answer-lt8
returns-then-answer-lt8 c = record { put = put-short _ _ _ c.if-answer-lt8.true; in_order_by = λ zero. absurd (omega (arith, zero)) }

pub returns : goal.returns
returns c =
    record {
      put = put-resampled c.args.answer.now _ _ c.if-answer-lt8.false _ _ c.args.out.now _ _ c.resample.ensures c.give_count.ensures;
      in_order_by = resampled-stands _ _ c.args.out.now _ _ c.resample.ensures c.give_count.ensures;
    }
