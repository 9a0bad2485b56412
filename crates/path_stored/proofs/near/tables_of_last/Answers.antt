-- `path_stored::near::tables_of_last` meets its contract. Assumes nothing.
use Prim.Native.Nat.{◌≤◌}
use native.Mathlib.Omega.{arith}
use Rattle.path_stored.specs.Near.{itself}
use Rattle.path_stored.proofs.Lanes.{lanes-most, table-lanes}
use Rattle.path_stored.proofs.near.tables_of_last.Goals as goal

pub overflow_mul-result : goal.overflow_mul-result
overflow_mul-result c =
    let most : c.last_few.result ≤ 506381209866536711 = lanes-most itself (λ kind known. omega arith) c.args.kinds.now c.requires.known _ _ _ c.requires.short (omega arith) c.last_few.ensures in
    record { fits = omega (arith, most) }

pub overflow_add-result : goal.overflow_add-result
overflow_add-result c =
    let most : c.last_few.result ≤ 506381209866536711 = lanes-most itself (λ kind known. omega arith) c.args.kinds.now c.requires.known _ _ _ c.requires.short (omega arith) c.last_few.ensures in
    record { fits = omega (arith, most) }

pub returns : goal.returns
returns c =
    table-lanes c.args.kinds.now c.requires.known _ _ _ c.requires.short (omega arith) c.last_few.ensures
