-- `legs::legs` meets its contract: the path, the distance and the room are judged in this order, and the legs are written from the array of the first pass or by a second one.
-- Assumes nothing.
use borrow.Author.Rules.{rules}
use mathlib.Core.Path.{sym, ◌∙◌}
use Rattle.std.specs.Prelude.{Err}
use Rattle.path_stored.specs.Paths.{held}
use Rattle.legs.specs.Legs.{Legs}
use Rattle.legs.proofs.Answers.{bad-path, out_of_range, no_room, flown-put, flown-copied, lent-put}
use Rattle.legs.proofs.flattening.legs.Goals as goal

pub returns-then-not-check_path : goal.returns-then-not-check_path
returns-then-not-check_path c = bad-path _ _ _ (sym c.check_path.ensures.stored ∙ c.if-not-check_path.true)

pub returns-then-not-is_distance : goal.returns-then-not-is_distance
returns-then-not-is_distance c =
    out_of_range _ _ _ (sym c.check_path.ensures.stored ∙ c.if-not-check_path.false) (sym c.is_distance.ensures ∙ c.if-not-is_distance.true) _ c.bits.ensures

pub returns-then-out-tally : goal.returns-then-out-tally
returns-then-out-tally c =
    let is = sym c.check_path.ensures.stored ∙ c.if-not-check_path.false in
    let same = c.stored-stored.ensures in
    no_room _ _ _ is (sym c.is_distance.ensures ∙ c.if-not-is_distance.false) _ c.limit_of-limit.ensures _ (lent-put same c.put_path-tally.ensures) c.if-out-tally.true

pub returns-then-tally-le1024 : goal.returns-then-tally-le1024
returns-then-tally-le1024 c =
    let is = sym c.check_path.ensures.stored ∙ c.if-not-check_path.false in
    let same = c.stored-stored.ensures in
    flown-copied _ _ _ is (sym c.is_distance.ensures ∙ c.if-not-is_distance.false) _ c.limit_of-limit.ensures _ (lent-put same c.put_path-tally.ensures) c.if-out-tally.false
    (search rules) c.copy.ensures

pub returns-else-tally-le1024 : goal.returns-else-tally-le1024
returns-else-tally-le1024 c =
    let is = sym c.check_path.ensures.stored ∙ c.if-not-check_path.false in
    let same = c.stored-stored.ensures in
    flown-put _ _ _ is (sym c.is_distance.ensures ∙ c.if-not-is_distance.false) _ c.limit_of-limit.ensures _ (lent-put same c.put_path-tally.ensures) c.if-out-tally.false
    (lent-put same c.put_path.ensures)
