-- Four digits below 16 make a number below 2 ^ 16. Assumes nothing.
use Rattle.std.proofs.Common.{rules}
use Rattle.replay_records.proofs.Digits.{four-digits}
use Rattle.replay_records.proofs.half.Goals as goal

pub returns : goal.returns
returns c = record {
  value = four-digits _ _ _ _ _ _ _ _ c.digit.ensures.value c.digit-2.ensures.value c.digit-3.ensures.value c.digit-4.ensures.value;
  upper_bound = search rules;
}
