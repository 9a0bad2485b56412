-- `scaled` is in the reach of the cast. Assumes nothing.
use Rattle.spline.proofs.Spans.{cast-from, cast-upto}
use Rattle.spline.proofs.sampling.span_index.Goals as goal

pub truncating_f32_to_u64-whole-requires : goal.truncating_f32_to_u64-whole-requires
truncating_f32_to_u64-whole-requires c = record { lower_bound = cast-from _ _ c.requires; upper_bound = cast-upto _ _ c.requires }
