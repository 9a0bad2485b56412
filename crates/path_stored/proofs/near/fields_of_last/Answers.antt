-- `path_stored::near::fields_of_last` meets its contract. Assumes nothing.
use Prim.Native.Nat.{◌+◌, ◌-◌, ◌*◌, ◌/◌, ◌≤◌}
use mathlib.Core.Path.{◌≡◌}
use native.Mathlib.Omega.{arith}
use lib.Bits.{bit_and, and_le_r}
use Rattle.path_stored.specs.Near.{laid, itself, more_fields}
use Rattle.path_stored.proofs.Lanes.{lanes-most, field-lanes}
use Rattle.path_stored.proofs.near.fields_of_last.Goals as goal

pub overflow_add-from3 : goal.overflow_add-from3
overflow_add-from3 c =
    let most : c.last_few-word.result ≤ 506381209866536711 = lanes-most itself (λ kind known. omega arith) c.args.kinds.now c.requires.known _ _ _ c.requires.short (omega arith) c.last_few-word.ensures in
    record { fits = omega (arith, most) }

pub overflow_add-from4 : goal.overflow_add-from4
overflow_add-from4 c =
    let most : c.last_few-word.result ≤ 506381209866536711 = lanes-most itself (λ kind known. omega arith) c.args.kinds.now c.requires.known _ _ _ c.requires.short (omega arith) c.last_few-word.ensures in
    record { fits = omega (arith, most) }

pub overflow_mul-result : goal.overflow_mul-result
overflow_mul-result c =
    let most : c.last_few-word.result ≤ 506381209866536711 = lanes-most itself (λ kind known. omega arith) c.args.kinds.now c.requires.known _ _ _ c.requires.short (omega arith) c.last_few-word.ensures in
    record { fits = omega (arith, most) }

pub overflow_add-result : goal.overflow_add-result
overflow_add-result c =
    let from3_most : bit_and ((c.last_few-word.result + 361700864190383365) / 8) 72340172838076673 ≤ 72340172838076673 = and_le_r ((c.last_few-word.result + 361700864190383365) / 8) 72340172838076673 in
    let most : c.last_few-word.result ≤ 506381209866536711 = lanes-most itself (λ kind known. omega arith) c.args.kinds.now c.requires.known _ _ _ c.requires.short (omega arith) c.last_few-word.ensures in
    record { fits = omega (arith, most, from3_most) }

pub overflow_mul-result-2 : goal.overflow_mul-result-2
overflow_mul-result-2 c =
    let from4_most : bit_and ((c.last_few-word.result + 289360691352306692) / 8) 72340172838076673 ≤ 72340172838076673 = and_le_r ((c.last_few-word.result + 289360691352306692) / 8) 72340172838076673 in
    record { fits = omega (arith, from4_most) }

pub overflow_sub-result : goal.overflow_sub-result
overflow_sub-result c =
    let lanes : 2 * c.last_few-word.result + bit_and ((c.last_few-word.result + 361700864190383365) / 8) 72340172838076673 ≡ laid more_fields c.args.kinds.now (c.args.end - c.args.few) c.args.few + 2 * bit_and ((c.last_few-word.result + 289360691352306692) / 8) 72340172838076673 = field-lanes c.args.kinds.now c.requires.known _ _ _ c.requires.short (omega arith) c.last_few-word.ensures in
    omega (arith, lanes)

pub returns : goal.returns
returns c =
    let lanes : 2 * c.last_few-word.result + bit_and ((c.last_few-word.result + 361700864190383365) / 8) 72340172838076673 ≡ laid more_fields c.args.kinds.now (c.args.end - c.args.few) c.args.few + 2 * bit_and ((c.last_few-word.result + 289360691352306692) / 8) 72340172838076673 = field-lanes c.args.kinds.now c.requires.known _ _ _ c.requires.short (omega arith) c.last_few-word.ensures in
    omega (arith, lanes)
