-- `path_segment::fields::shape_at` meets its contract: the fields from `at` on are those that `drop` leaves. Assumes nothing.
use Rattle.commands.proofs.Decoding.{number-from, point-first, point-later}
use mathlib.Core.Path.{refl}
use Prim.Native.Nat.{◌+◌}
use Rattle.path_segment.proofs.fields.shape_at.Goals as goal

pub returns : goal.returns
returns c =
    let p = point-first c.args.fields.now c.args.at c.point_at-start.ensures in
    let q = point-later c.args.fields.now c.args.at 2 c.point_at-end.ensures in
    let r = point-later c.args.fields.now c.args.at 4 c.point_at-center.ensures in
    let s = point-later c.args.fields.now c.args.at 6 c.point_at-radii.ensures in
    let x = number-from c.args.fields.now c.args.at 8 (c.args.at + 8) refl in
    let y = number-from c.args.fields.now c.args.at 9 (c.args.at + 9) refl in
    let z = number-from c.args.fields.now c.args.at 10 (c.args.at + 10) refl in
    cc
