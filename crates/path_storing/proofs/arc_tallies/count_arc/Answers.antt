-- `path_storing::arc_tallies::count_arc` meets its contract: each way out is a case of what an arc draws. Assumes nothing.
use mathlib.Core.Path.{sym, ◌∙◌}
use Rattle.path_drawing.specs.Drawing.{arc_of}
use Rattle.path_storing.proofs.ArcTallying.{fallback-counted}
use Rattle.path_storing.proofs.arc_tallies.count_arc.Goals as goal

pub returns-then-is_fallback : goal.returns-then-is_fallback
unfolding arc_of
returns-then-is_fallback c = rw (c.grown.ensures, sym c.is_fallback.ensures ∙ c.if-is_fallback.true) (fallback-counted _ _ _)
