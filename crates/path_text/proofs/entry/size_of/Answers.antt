-- `path_text::entry::size_of` meets its contract: what the first pass finds is what is answered. Assumes nothing.
use mathlib.Core.Path.{ap, subst, ◌∙◌}
use Rattle.std.specs.Prelude.{Err}
use Rattle.path_text.specs.Builds.{Finds}
use Rattle.path_text.proofs.Entering.{too_long, short-size, unread-size}
use Rattle.path_text.proofs.entry.size_of.Goals as goal

pub returns-then-size-gt65536 : goal.returns-then-size-gt65536
returns-then-size-gt65536 c = too_long _ c.if-size-gt65536.true

pub returns-in-Ok : goal.returns-in-Ok
returns-in-Ok c = short-size _ c.if-size-gt65536.false (subst (Finds _) c.in-Ok.is c.measure.ensures)

pub returns-in-Err-Unread : goal.returns-in-Err-Unread
returns-in-Err-Unread c =
    short-size _ c.if-size-gt65536.false (unread-size _ (subst (Finds _) (c.in-Err-Unread.is ∙ ap Err c.in-Err-Unread.field-0-is) c.measure.ensures))

pub unbuilt-requires : goal.unbuilt-requires
unbuilt-requires c = (c.if-size-gt65536.false, subst (Finds _) (c.in-Err-Unbuilt.is ∙ ap Err c.in-Err-Unbuilt.field-0-is) c.measure.ensures)

pub returns-in-Err-Unbuilt : goal.returns-in-Err-Unbuilt
returns-in-Err-Unbuilt c = short-size _ c.if-size-gt65536.false c.unbuilt.ensures
