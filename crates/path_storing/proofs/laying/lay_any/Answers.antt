-- `path_storing::laying::lay_any` meets its contract: each way out is a case of what is drawn. Assumes nothing.
use mathlib.Core.Path.{sym, ap, ◌∙◌}
use Rattle.std.specs.Prelude.{Some}
use Rattle.path_storing.proofs.Judged.{moved-laid, turned-laid}
use Rattle.path_storing.proofs.laying.lay_any.Goals as goal

pub returns-in-Some-Moved : goal.returns-in-Some-Moved
returns-in-Some-Moved c = moved-laid (sym c.draw.ensures ∙ c.in-Some-Moved.is ∙ ap Some c.in-Some-Moved.field-0-is) c.moved.ensures

pub returns-in-None : goal.returns-in-None
returns-in-None c = turned-laid (sym c.draw.ensures ∙ c.in-None.is)
