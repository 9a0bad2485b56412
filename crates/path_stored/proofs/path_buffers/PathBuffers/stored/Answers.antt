-- Buffers that passed the check are a stored path. Assumes nothing.
use Rattle.floats.proofs.Tests.{passed}
use Rattle.path_stored.proofs.Rule.{stored-rule}
use Rattle.path_stored.proofs.path_buffers.PathBuffers.stored.Goals as goal

pub invariant_of-result : goal.invariant_of-result
invariant_of-result c = record { stored = stored-rule _ (passed c.requires.passed); values = c.requires.values }
