-- `svg::reading::read_by` meets its contract: what the three buffers hold is given, or goes before the rest. Assumes nothing.
use borrow.Author.Rules.{rules}
use mathlib.Core.Path.{sym, ap, ◌∙◌}
use lib.Seq.{length-take-le}
use Rattle.std.specs.Prelude.{Ok}
use Rattle.svg.specs.Lists.{lent_mut}
use Rattle.svg.proofs.Answering.{unread}
use Rattle.svg.proofs.Holding.{holding-none, told-refused, whole-within, whole-held, full-within, full-begun}
use Rattle.svg.proofs.reading.read_by.Goals as goal

pub fill-requires : goal.fill-requires
fill-requires c = (c.requires, rw c.fresh.ensures (holding-none _ _))

pub returns-in_err-counts : goal.returns-in_err-counts
returns-in_err-counts c =
    let said = unread c.args.text.now (lent_mut c.args.letters c.args.numbers c.args.offsets) c.requires c.in_err-counts.field-0.0 (told-refused c.fill.ensures c.in_err-counts.was) in
    search rules

pub slice_bounds-give-end : goal.slice_bounds-give-end
slice_bounds-give-end t = (whole-within t.fill.ensures (t.in_ok-counts.was ∙ ap Ok t.in-Whole.is)).0

pub slice_bounds-give-end-in-Whole : goal.slice_bounds-give-end-in-Whole
slice_bounds-give-end-in-Whole c = sym (length-take-le _ _ ((whole-within c.fill.ensures (c.in_ok-counts.was ∙ ap Ok c.in-Whole.is)).0))

pub slice_bounds-give-end-in-Whole-2 : goal.slice_bounds-give-end-in-Whole-2
slice_bounds-give-end-in-Whole-2 c = (whole-within c.fill.ensures (c.in_ok-counts.was ∙ ap Ok c.in-Whole.is)).1

pub slice_bounds-give-end-in-Whole-3 : goal.slice_bounds-give-end-in-Whole-3
slice_bounds-give-end-in-Whole-3 c = sym (length-take-le _ _ ((whole-within c.fill.ensures (c.in_ok-counts.was ∙ ap Ok c.in-Whole.is)).1))

pub slice_bounds-give-end-in-Whole-4 : goal.slice_bounds-give-end-in-Whole-4
slice_bounds-give-end-in-Whole-4 c = (whole-within c.fill.ensures (c.in_ok-counts.was ∙ ap Ok c.in-Whole.is)).2

pub slice_bounds-give-end-in-Whole-5 : goal.slice_bounds-give-end-in-Whole-5
slice_bounds-give-end-in-Whole-5 c = sym (length-take-le _ _ ((whole-within c.fill.ensures (c.in_ok-counts.was ∙ ap Ok c.in-Whole.is)).2))

pub returns-in-Whole : goal.returns-in-Whole
returns-in-Whole c = c.give.ensures.said _ c.requires (whole-held c.fill.ensures (c.in_ok-counts.was ∙ ap Ok c.in-Whole.is))

pub slice_bounds-read_on-end : goal.slice_bounds-read_on-end
slice_bounds-read_on-end t = (full-within t.fill.ensures (t.in_ok-counts.was ∙ ap Ok t.in-Full.is)).0

pub slice_bounds-read_on-end-in-Full : goal.slice_bounds-read_on-end-in-Full
slice_bounds-read_on-end-in-Full c = sym (length-take-le _ _ ((full-within c.fill.ensures (c.in_ok-counts.was ∙ ap Ok c.in-Full.is)).0))

pub slice_bounds-read_on-end-in-Full-2 : goal.slice_bounds-read_on-end-in-Full-2
slice_bounds-read_on-end-in-Full-2 c = (full-within c.fill.ensures (c.in_ok-counts.was ∙ ap Ok c.in-Full.is)).1

pub slice_bounds-read_on-end-in-Full-3 : goal.slice_bounds-read_on-end-in-Full-3
slice_bounds-read_on-end-in-Full-3 c = sym (length-take-le _ _ ((full-within c.fill.ensures (c.in_ok-counts.was ∙ ap Ok c.in-Full.is)).1))

pub slice_bounds-read_on-end-in-Full-4 : goal.slice_bounds-read_on-end-in-Full-4
slice_bounds-read_on-end-in-Full-4 c = (full-within c.fill.ensures (c.in_ok-counts.was ∙ ap Ok c.in-Full.is)).2

pub slice_bounds-read_on-end-in-Full-5 : goal.slice_bounds-read_on-end-in-Full-5
slice_bounds-read_on-end-in-Full-5 c = sym (length-take-le _ _ ((full-within c.fill.ensures (c.in_ok-counts.was ∙ ap Ok c.in-Full.is)).2))

pub read_on-requires : goal.read_on-requires
read_on-requires c = (c.requires, full-begun c.fill.ensures (c.in_ok-counts.was ∙ ap Ok c.in-Full.is))

pub returns-in-Full : goal.returns-in-Full
returns-in-Full c = c.read_on.ensures
