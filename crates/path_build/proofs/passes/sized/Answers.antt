-- `path_build::passes::sized` meets its contract: a plain list is counted, any other checked and measured. Assumes nothing.
use borrow.Author.Rules.{rules}
use mathlib.Core.Path.{◌≡◌, sym, ap, ◌∙◌}
use Rattle.std.specs.Prelude.{Err}
use Rattle.commands.specs.Checked.{answer_of}
use Rattle.path_build.proofs.Lists.{not-formed}
use Rattle.path_build.proofs.Along.{refused-is}
use Rattle.path_build.proofs.passes.sized.Goals as goal

pub returns-in_err-check_commands : goal.returns-in_err-check_commands
returns-in_err-check_commands c =
    let e : c.from_residual.result ≡ Err c.in_err-check_commands.field-0.0 = search rules in
    rw e (refused-is (not-formed _ (ap answer_of (sym c.in_err-check_commands.was) ∙ c.check_commands.ensures)))
