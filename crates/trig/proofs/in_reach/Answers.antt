-- The second comparison is made only where the first holds, as the definition's `&&` has it. Assumes nothing.
use Rattle.std.proofs.Common.{◌≡◌, Bool, ◌&&◌, sym, refl, ap, ◌∙◌}
use lib.Ieee.{Float, binary32, of_bits, neg, le}
use Rattle.trig.proofs.in_reach.Goals as goal

minus_is : of_bits binary32 3263168512 ≡ neg (of_bits binary32 1115684864)
unfolding of_bits neg
minus_is = refl

-- the test as the code has it, with the comparison that was made
tested : (x : Float) (b : Bool) → le (neg (of_bits binary32 1115684864)) x ≡ b → (le (of_bits binary32 3263168512) x && le x (of_bits binary32 1115684864)) ≡ (b && le x (of_bits binary32 1115684864))
tested x b h = ap (λ (a : Bool). a && le x (of_bits binary32 1115684864)) (ap (λ (y : Float). le y x) minus_is ∙ h)

pub returns-then-x : goal.returns-then-x
returns-then-x c = sym (tested c.args.x _ c.if-x.true)

pub returns-else-x : goal.returns-else-x
returns-else-x c = c.if-x.false ∙ sym (tested c.args.x _ c.if-x.false)
