-- `give_part` meets its contract: an output with room, and one without. Assumes nothing.
use mathlib.Core.Path.{refl, ap, ◌∙◌}
use native.Mathlib.Omega.{arith}
use Rattle.kihavute_segments.specs.Segments.{places_of}
use Rattle.kihavute_segments.proofs.SegmentsGiven.{segment-put, segment-no-room}
use Rattle.kihavute_segments.proofs.segments.give_part.Goals as goal

pub returns-then-out-needed : goal.returns-then-out-needed
returns-then-out-needed c =
    segment-no-room _ _ _ c.requires c.args.part _ refl (c.places-needed.ensures ∙ ap places_of c.kind-own.ensures) c.if-out-needed.true c.refuse.ensures

pub put_part-requires : goal.put_part-requires
put_part-requires c = omega (arith, c.places-needed.ensures ∙ ap places_of c.kind-own.ensures, c.if-out-needed.false)

pub returns : goal.returns
returns c =
    segment-put _ _ _ c.requires c.args.part _ _ _ refl c.kind-own.ensures (c.places-needed.ensures ∙ ap places_of c.kind-own.ensures)
    c.if-out-needed.false c.put_part.ensures c.accept.ensures
