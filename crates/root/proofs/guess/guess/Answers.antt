-- Each table's numbers are below its limit, by computation. Assumes nothing.
use Rattle.std.proofs.Common.{ℕ, ◌+◌, ◌-◌, ◌^◌, ◌<◌, refl, arith}
use Rattle.root.specs.declared.guess.TheConstants.{START, SLOPE, BEND}
use Rattle.root.proofs.Tables.{within-at}
use Rattle.root.proofs.guess.guess.Goals as goal

raised : (x : ℕ) → x < 2 ^ 24 → x + 65536 < 2 ^ 64
raised x h = omega arith

lowered : (x b : ℕ) → x < 2 ^ 24 → x + 65536 - b < 2 ^ 25
lowered x b h = omega arith

pub overflow_add-slope : goal.overflow_add-slope
overflow_add-slope c = record { fits = raised _ (within-at 0 (2 ^ 24) SLOPE refl _ c.cell_of-cell.ensures).1 }

pub bent-requires : goal.bent-requires
bent-requires c = (omega arith, (within-at 0 (2 ^ 15) BEND refl _ c.cell_of-cell.ensures).1)

pub along-requires : goal.along-requires
along-requires c = ((within-at 0 (2 ^ 47) START refl _ c.cell_of-cell.ensures).1, omega arith, lowered _ _ (within-at 0 (2 ^ 24) SLOPE refl _ c.cell_of-cell.ensures).1)
