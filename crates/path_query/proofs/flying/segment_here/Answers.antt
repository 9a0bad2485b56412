-- `path_query::flying::segment_here` meets its contract: the cursor stands at the segment's fields. Assumes nothing.
use mathlib.Core.Path.{sym, ap, ◌∙◌, subst}
use Prim.Native.Nat.{ℕ, ◌+◌, ◌≤◌}
use lib.ListN.{length, get_or, drop}
use Rattle.path_segment.specs.Segments.{width_of, segment_of}
use Rattle.path_stored.specs.Stored.{segment_in}
use Rattle.path_stored.proofs.Reading.{segment-fields}
use Rattle.path_query.proofs.Seats.{cursor-fields}
use Rattle.path_query.proofs.flying.segment_here.Goals as goal

pub segment_at-requires : goal.segment_at-requires
segment_at-requires c =
    let path = c.args.path in
    let i = c.args.at.segment in
    let here = c.requires.standing in
    record {
      kind_bound = c.requires.fielded.known i here.inside;
      kind_in_bounds = subst (λ (n : ℕ). n + width_of (get_or path.kinds.now i 0) ≤ length path.fields.now) (sym (cursor-fields _ _ here.is)) (segment-fields c.requires.fielded i here.inside);
    }

pub returns : goal.returns
unfolding segment_in
returns c =
    let path = c.args.path in
    c.segment_at.ensures ∙ ap (λ (n : ℕ). segment_of (get_or path.kinds.now c.args.at.segment 0) (drop n path.fields.now)) (cursor-fields _ _ c.requires.standing.is)
