-- `places` meets its contract: a kind has a table or none. Assumes nothing.
use mathlib.Core.Path.{sym, ap, ◌∙◌}
use Prim.Native.Nat.{ℕ, ◌+◌}
use native.Mathlib.Omega.{arith}
use Rattle.path_segment.proofs.Widths.{width-most}
use Rattle.kihavute_segments.proofs.SegmentsGiven.{places-some, places-none}
use Rattle.kihavute_segments.proofs.segments.places.Goals as goal

pub overflow_add-result : goal.overflow_add-result
overflow_add-result c = omega (arith, c.width.ensures, width-most c.args.kind)

pub returns-then-has_table : goal.returns-then-has_table
returns-then-has_table c = ap (λ (n : ℕ). n + 33) c.width.ensures ∙ places-some _ (sym c.has_table.ensures ∙ c.if-has_table.true)

pub returns : goal.returns
returns c = c.width-2.ensures ∙ places-none _ (sym c.has_table.ensures ∙ c.if-has_table.false)
