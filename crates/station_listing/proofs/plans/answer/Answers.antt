-- `station_listing::plans::answer` meets its contract: the text's length, then what reading answers. Assumes nothing.
use borrow.Author.Rules.{rules}
use native.Mathlib.Omega.{arith}
use Rattle.station_listing.proofs.Telling.{too_long, not-read, letters-most, numbers-most, held}
use Rattle.station_listing.proofs.Texts.{spare}
use Rattle.station_listing.proofs.plans.answer.Goals as goal

-- ---- the answers
pub returns-then-input-start-gt4096 : goal.returns-then-input-start-gt4096
returns-then-input-start-gt4096 c =
    too_long c.args.input.now c.args.start _ c.if-input-start-gt4096.true c.put_refusal.ensures

pub returns-in-Err : goal.returns-in-Err
returns-in-Err c =
    not-read c.args.input.now c.args.start c.if-input-start-gt4096.false c.read_lean.ensures
    (spare (search rules) (search rules) (search rules))
    _ c.in-Err.is c.put_refusal-in-Err.ensures

pub slice_bounds-letters-end : goal.slice_bounds-letters-end
slice_bounds-letters-end c =
    let most = letters-most c.args.input.now c.args.start c.if-input-start-gt4096.false c.read_lean.ensures
    (spare (search rules) (search rules) (search rules))
    c.in-Ok.is in
    omega (arith, most)

pub slice_bounds-numbers-end : goal.slice_bounds-numbers-end
slice_bounds-numbers-end c =
    let most = numbers-most c.args.input.now c.args.start c.if-input-start-gt4096.false c.read_lean.ensures
    (spare (search rules) (search rules) (search rules))
    c.in-Ok.is in
    omega (arith, most)

pub fly-requires : goal.fly-requires
fly-requires c = (
  held c.args.input.now c.args.start c.if-input-start-gt4096.false c.read_lean.ensures
      (spare (search rules) (search rules) (search rules))
      c.in-Ok.is,
  c.requires.1,
  c.requires.2,
)

pub returns-in-Ok : goal.returns-in-Ok
returns-in-Ok c = c.fly.ensures
