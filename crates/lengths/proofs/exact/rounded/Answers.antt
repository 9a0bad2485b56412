-- Below 2^-126 the step is 2^(925 - k), above it 2^29 (`rounded-small`, `rounded-large`). Assumes nothing.
use native.Mathlib.Omega.{arith}
use mathlib.Core.Path.{ap, ◌∙◌}
use Prim.Native.Nat.{ℕ, ◌+◌, ◌-◌, ◌*◌}
use lib.Ieee.{binary32, of_bits}
use Rattle.floats.specs.Patterns.{hidden}
use Rattle.lengths.proofs.Off.{shifted, step_small, kept_small, rest-small, rounded-small, rounded-large}
use Rattle.lengths.proofs.exact.rounded.Goals as goal

pub nearest-requires : goal.nearest-requires
nearest-requires c =
    let q = c.args.q in
    let k = c.args.k in
    let p = c.requires in
    let e = shifted (925 - k) (omega arith) in
    (kept_small q k _ p.1 p.2 c.if-k-lt896.true e, rest-small q k _ p.1 p.2 c.if-k-lt896.true e, step_small q k _ p.1 p.2 c.if-k-lt896.true e)

pub overflow_cast-result : goal.overflow_cast-result
overflow_cast-result c =
    let q = c.args.q in
    let k = c.args.k in
    let p = c.requires in
    let e = shifted (925 - k) (omega arith) in
    record { fits = omega (arith, c.nearest.ensures, kept_small q k _ p.1 p.2 c.if-k-lt896.true e) }

pub returns-then-k-lt896 : goal.returns-then-k-lt896
returns-then-k-lt896 c =
    let q = c.args.q in
    let k = c.args.k in
    let p = c.requires in
    let e = shifted (925 - k) (omega arith) in
    (ap (of_bits binary32) c.nearest.ensures.0 ∙ rounded-small q k _ p.1 p.2 c.if-k-lt896.true e, omega (arith, c.nearest.ensures, kept_small q k _ p.1 p.2 c.if-k-lt896.true e))

pub returns : goal.returns
returns c =
    let q = c.args.q in
    let k = c.args.k in
    let p = c.requires in
    (ap (λ (z : ℕ). of_bits binary32 ((k - 896) * hidden + z)) c.nearest-m.ensures.0 ∙ rounded-large q k p.0 p.1 c.if-k-lt896.false p.3, omega (arith, c.nearest-m.ensures, p))
