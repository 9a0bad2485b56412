-- The loop keeps `Filling`: the numbers so far are written, before the middle and past it. Assumes nothing.
use Rattle.morph.proofs.Filling.{filling-start, filling-more, filling-done, filling-seen}
use Rattle.morph.proofs.evaluating.put_numbers.Goals as goal

pub loop-j-init : goal.loop-j-init
loop-j-init c = filling-start c.shared-half.ensures c.requires

pub loop-j-preserved : goal.loop-j-preserved
loop-j-preserved c = filling-more c.loop-j.invariant c.loop-j-test.true c.lerp-low.ensures c.lerp-high.ensures

pub returns : goal.returns
returns c = record {
  answer = filling-seen c.loop-j.invariant c.loop-j.auto.j-end c.loop-j-test.false;
  memory = filling-done c.loop-j.invariant c.loop-j.auto.j-end c.loop-j-test.false;
}
