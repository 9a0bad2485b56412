-- `path_append::numbers_used` meets its contract: the count is the same in the part. Assumes nothing.
use Rattle.path_append.proofs.InUse.{before-take}
use Rattle.path_segment.specs.Segments.{width_of}
use lib.Seq.{length-take-le}
use native.Mathlib.Omega.{arith}
use mathlib.Core.Path.{sym, ◌∙◌}
use Rattle.path_append.proofs.used.numbers_used.Goals as goal

pub slice_bounds-fields_before-end : goal.slice_bounds-fields_before-end
slice_bounds-fields_before-end c = sym (length-take-le _ _ c.requires.count_in_bounds)

pub fields_before-requires : goal.fields_before-requires
fields_before-requires c = let e = length-take-le c.args.count c.args.kinds.now c.requires.count_in_bounds in record { kinds_len_bound = omega arith; i_in_bounds = omega arith }

pub returns : goal.returns
returns c = c.fields_before.ensures ∙ before-take width_of c.args.kinds.now c.args.count
