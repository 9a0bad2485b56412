-- `path_text::build_from_text` meets its contract: the first pass tells what is built, the second stores it. Assumes nothing.
use borrow.Author.Rules.{rules}
use mathlib.Core.Path.{◌≡◌, sym, ◌∙◌}
use Rattle.std.specs.Prelude.{Err}
use Rattle.path_stored.specs.Buffers.{lent_mut}
use Rattle.path_build.proofs.Answering.{ended-refused, ended-holding, ended-built}
use Rattle.path_text.proofs.entry.build_from_text.Goals as goal

pub returns-in_err-sizes : goal.returns-in_err-sizes
returns-in_err-sizes c =
    let e : c.from_residual.result ≡ Err c.in_err-sizes.field-0.0 = search rules in
    rw e (ended-refused _ _ c.size_of.ensures (sym c.room.ensures ∙ c.in_err-sizes.was))

pub fill-requires : goal.fill-requires
fill-requires c =
    ended-holding (lent_mut c.args.kinds c.args.fields c.args.tables c.args.lengths c.args.commands) _ c.size_of.ensures (sym c.room.ensures ∙ c.in_ok-sizes.was)

pub returns : goal.returns
returns c = ended-built _ _ c.size_of.ensures (sym c.room.ensures ∙ c.in_ok-sizes.was) c.fill.ensures
