-- `path_dry_run::runs::reach` meets its contract: the spot's segment is one of the path's, so that the cursor can be moved there and stands at its table. Assumes nothing.
use mathlib.Core.Path.{ap, ◌∙◌, subst}
use Prim.Native.Nat.{ℕ, ◌<◌}
use lib.ListN.{length}
use Rattle.table.specs.declared.tables.Spot.{Spot}
use Rattle.path_place.specs.Cursors.{cursor_of}
use Rattle.path_place.specs.Places.{raw_within}
use Rattle.path_place.proofs.Standing.{some-path, cursor-own, moving, standing}
use Rattle.path_dry_run.proofs.Toward.{seat-place, seat-toward}
use Rattle.path_dry_run.proofs.runs.reach.Goals as goal

pub spot_toward-spot-requires : goal.spot_toward-spot-requires
spot_toward-spot-requires c = record { sound_path = some-path (seat-place c.args.path.stored c.requires.standing); t = c.requires.t }

pub moved-at-requires : goal.moved-at-requires
moved-at-requires c =
    let seat = c.requires.standing in
    moving (seat-place c.args.path.stored seat) seat.is seat.inside (seat-toward c.args.path.stored seat _ c.requires.t c.spot_toward-spot.ensures)

pub raw_within-raw-requires : goal.raw_within-raw-requires
raw_within-raw-requires c =
    let seat = c.requires.standing in
    standing (seat-place c.args.path.stored seat) c.moved-at.ensures (seat-toward c.args.path.stored seat _ c.requires.t c.spot_toward-spot.ensures)

pub returns : goal.returns
returns c =
    let path = c.args.path.buffers in
    let spot_is = c.spot_toward-spot.ensures in
    record {
      is = c.moved-at.ensures ∙ ap (λ (spot : Spot). cursor_of path.kinds.now spot.segment) spot_is;
      there =
          c.raw_within-raw.ensures
          ∙ ap (λ (i : ℕ). raw_within path.kinds.now path.tables.now i c.spot_toward-spot.result.progress.value) (cursor-own path.kinds.now c.spot_toward-spot.result.segment c.moved-at.ensures).0
          ∙ ap (λ (spot : Spot). raw_within path.kinds.now path.tables.now spot.segment spot.progress.value) spot_is;
      inside =
          subst (λ (spot : Spot). spot.segment < length path.kinds.now) spot_is
          (seat-toward c.args.path.stored c.requires.standing _ c.requires.t spot_is);
    }
