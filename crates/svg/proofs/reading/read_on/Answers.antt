-- `svg::reading::read_on` meets its contract: the rest is counted, what is held is copied, and the rest is stored past it. Assumes nothing.
use borrow.Author.Rules.{rules}
use mathlib.Core.Path.{sym, ◌∙◌}
use Rattle.svg.specs.Lists.{lent_mut}
use Rattle.svg.proofs.Answering.{unread, no-letters, no-numbers, no-offsets, has_room, read_whole}
use Rattle.svg.proofs.Holding.{begun-counting, begun-room, begun-holding, begun-filled}
use Rattle.svg.proofs.reading.read_on.Goals as goal
use Rattle.svg.proofs.reading.read_on.Goals.{then-letters-counts-via-then-letters-counts, then-letters-counts-via-else-letters-counts+then-numbers-counts, then-letters-counts-via-else-letters-counts+else-numbers-counts+then-offsets-counts}

pub measure_on-requires : goal.measure_on-requires
measure_on-requires c = (c.requires.0, begun-counting c.requires.1)

pub returns-in_err-counts : goal.returns-in_err-counts
returns-in_err-counts c =
    let said =
    unread c.args.text.now (lent_mut c.args.letters c.args.numbers c.args.offsets) c.requires.0 c.in_err-counts.field-0.0 (sym c.measure_on.ensures ∙ c.in_err-counts.was) in
    search rules

pub returns-then-letters-counts : goal.returns-then-letters-counts
returns-then-letters-counts c =
    let m = sym c.measure_on.ensures ∙ c.in_ok-counts.was in
    elim c.then-letters-counts.branch [
      | then-letters-counts-via-then-letters-counts w ↦ rw c.no_room.ensures (no-letters _ _ c.requires.0 m w.if-letters-counts.true)
      | then-letters-counts-via-else-letters-counts+then-numbers-counts w ↦ rw c.no_room.ensures (no-numbers _ _ c.requires.0 m w.if-letters-counts.false w.if-numbers-counts.true)
      | then-letters-counts-via-else-letters-counts+else-numbers-counts+then-offsets-counts w ↦
          rw c.no_room.ensures (no-offsets _ _ c.requires.0 m w.if-letters-counts.false w.if-numbers-counts.false w.if-offsets-counts.true)
    ]

pub put_first-requires : goal.put_first-requires
put_first-requires c =
    (begun-room c.requires.1 (lent_mut c.args.letters c.args.numbers c.args.offsets) (has_room _ (lent_mut c.args.letters c.args.numbers c.args.offsets) c.requires.0 (sym c.measure_on.ensures ∙ c.in_ok-counts.was) c.if-letters-counts.false c.if-numbers-counts.false c.if-offsets-counts.false)).0

pub put_first-requires-2 : goal.put_first-requires-2
put_first-requires-2 c =
    (begun-room c.requires.1 (lent_mut c.args.letters c.args.numbers c.args.offsets) (has_room _ (lent_mut c.args.letters c.args.numbers c.args.offsets) c.requires.0 (sym c.measure_on.ensures ∙ c.in_ok-counts.was) c.if-letters-counts.false c.if-numbers-counts.false c.if-offsets-counts.false)).1

pub put_first-requires-3 : goal.put_first-requires-3
put_first-requires-3 c =
    (begun-room c.requires.1 (lent_mut c.args.letters c.args.numbers c.args.offsets) (has_room _ (lent_mut c.args.letters c.args.numbers c.args.offsets) c.requires.0 (sym c.measure_on.ensures ∙ c.in_ok-counts.was) c.if-letters-counts.false c.if-numbers-counts.false c.if-offsets-counts.false)).2

pub fill-whole-requires : goal.fill-whole-requires
fill-whole-requires c = (
  c.requires.0,
  begun-holding c.requires.1 (lent_mut c.args.letters c.args.numbers c.args.offsets) (has_room _ (lent_mut c.args.letters c.args.numbers c.args.offsets) c.requires.0 (sym c.measure_on.ensures ∙ c.in_ok-counts.was) c.if-letters-counts.false c.if-numbers-counts.false c.if-offsets-counts.false) _ c.put_first.ensures c.put_first-2.ensures
      c.put_first-3.ensures,
)

pub returns : goal.returns
returns c =
    read_whole _ _ c.requires.0 (sym c.measure_on.ensures ∙ c.in_ok-counts.was) c.if-letters-counts.false c.if-numbers-counts.false c.if-offsets-counts.false _
    (begun-filled c.requires.1 (lent_mut c.args.letters c.args.numbers c.args.offsets) (has_room _ (lent_mut c.args.letters c.args.numbers c.args.offsets) c.requires.0 (sym c.measure_on.ensures ∙ c.in_ok-counts.was) c.if-letters-counts.false c.if-numbers-counts.false c.if-offsets-counts.false) _ c.put_first.ensures c.put_first-2.ensures
    c.put_first-3.ensures _ _ c.fill-whole.ensures)
