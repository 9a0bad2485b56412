-- `path_query::flying::flown` meets its contract: the cursor is that of the spot's segment (`flight-is`). Assumes nothing.
use mathlib.Core.Path.{◌∙◌}
use Prim.Native.Nat.{◌<◌}
use native.Mathlib.Omega.{arith}
use lib.ListN.{length}
use Rattle.path_place.proofs.Standing.{spot-among}
use Rattle.path_query.proofs.Seats.{some-place, a-flight, seated, flight-is}
use Rattle.path_query.proofs.flying.flown.Goals as goal

pub cursor_at-at-requires : goal.cursor_at-at-requires
cursor_at-at-requires c =
    let among : c.spot-found.result.segment < length c.args.path.buffers.kinds.now = rw c.spot-found.ensures (spot-among (some-place (a-flight c.args.path.stored c.requires)) c.args.progress.value) in
    record { kinds_len_bound = c.args.path.stored.few; segment_in_bounds = omega arith }

pub flown_within-requires : goal.flown_within-requires
flown_within-requires c =
    seated (a-flight c.args.path.stored c.requires) c.cursor_at-at.ensures (rw c.spot-found.ensures (spot-among (some-place (a-flight c.args.path.stored c.requires)) c.args.progress.value))

pub returns : goal.returns
returns c = c.flown_within.ensures ∙ flight-is _ _ c.spot-found.result c.cursor_at-at.result c.spot-found.ensures c.cursor_at-at.ensures
