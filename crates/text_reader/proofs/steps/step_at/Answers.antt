-- `text_reader::steps::step_at` meets its contract: the part that is lent is what stands from the place on. Assumes nothing.
use Rattle.text_reader.proofs.Paths.{step-inside, step_past}
use Rattle.text_reader.proofs.steps.step_at.Goals as goal

pub returns-then-at-text : goal.returns-then-at-text
returns-then-at-text c = step-inside _ _ _ _ c.read_step.ensures

pub returns : goal.returns
returns c = step_past _ _ _ _ c.if-at-text.false c.read_step-2.ensures
