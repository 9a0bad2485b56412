-- `decimal_product::products::high` meets its contract: four products of halves, whose sizes leave room for their sum. Assumes nothing.
use native.Mathlib.Omega.{arith}
use Rattle.decimal_product.proofs.Halfwords.{high_is, sizes}
use Rattle.decimal_product.proofs.products.high.Goals as goal

pub overflow_mul-result : goal.overflow_mul-result
overflow_mul-result c = record { fits = omega (arith, (sizes c.args.x c.args.p c.ranges.x.fits c.requires).upper) }

pub overflow_mul-result-2 : goal.overflow_mul-result-2
overflow_mul-result-2 c = record { fits = omega (arith, (sizes c.args.x c.args.p c.ranges.x.fits c.requires).left) }

pub overflow_add-result : goal.overflow_add-result
overflow_add-result c = let s = sizes c.args.x c.args.p c.ranges.x.fits c.requires in record { fits = omega arith }

pub overflow_mul-result-3 : goal.overflow_mul-result-3
overflow_mul-result-3 c = record { fits = omega (arith, (sizes c.args.x c.args.p c.ranges.x.fits c.requires).right) }

pub overflow_add-result-2 : goal.overflow_add-result-2
overflow_add-result-2 c = let s = sizes c.args.x c.args.p c.ranges.x.fits c.requires in record { fits = omega arith }

pub returns : goal.returns
returns c = high_is c.args.x c.args.p
