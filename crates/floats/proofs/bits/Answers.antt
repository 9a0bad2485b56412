-- `floats::bits` meets its contract: what differs from itself is the logic's one NaN, whose pattern is the constant; any other value is
-- none, so its bits may be read. Assumes nothing.
use borrow.Author.Rules.{rules}
use mathlib.Core.Path.{◌≡◌, refl, sym, subst, ap, ◌∙◌}
use mathlib.Core.Bool.{Bool, not}
use lib.Dec.{T}
use lib.Ieee.{nan, binary32, to_bits}
use lib.Ieee.Compare.{differs_from_itself}
use Rattle.floats.proofs.Order.{same→real}
use Rattle.floats.proofs.bits.Goals as goal

nan-bits : 0x7fc0_0000 ≡ to_bits binary32 nan
unfolding to_bits
nan-bits = refl

pub returns-then-x : goal.returns-then-x
returns-then-x c = nan-bits ∙ ap (to_bits binary32) (sym (differs_from_itself c.args.x (subst T (sym c.if-x.true) tt)))

pub float_to_bits-result : goal.float_to_bits-result
float_to_bits-result c = same→real c.args.x (subst (λ (b : Bool). T (not b)) (sym c.if-x.false) tt)
