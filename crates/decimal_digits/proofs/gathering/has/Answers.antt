-- `decimal_digits::gathering::has` meets its contract. Assumes nothing.
use Rattle.std.proofs.Common.{◌≡◌, ℕ, ◌-◌, length, arith, leb-true}
use Rattle.decimal_digits.proofs.gathering.has.Goals as goal

pub returns-then-count-text : goal.returns-then-count-text
returns-then-count-text c = λ t. let fits = leb-true c.args.at (length c.args.text.now - c.args.count) t in omega arith

pub returns-else-count-text : goal.returns-else-count-text
returns-else-count-text c = λ t. let z : ◌≡◌ {A = ℕ} 0 1 = cc in absurd (omega arith)
