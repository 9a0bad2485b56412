-- The whole root of the shifted digits lies between the middles around the exact root (`pattern-root`), and half of its 25 digits is far
-- below the pattern of infinity. Assumes nothing.
use native.Mathlib.Omega.{arith}
use Rattle.root.proofs.Patterns.{shifted-lt, shifted-root, root-few, pattern_lt, pattern-root}
use Rattle.root.proofs.pattern.root_pattern.Goals as goal

pub whole_root-q-requires : goal.whole_root-q-requires
whole_root-q-requires c = (shifted-lt c.split-x.result.digits c.split-x.result.scale c.split-x.ensures.few, c.guess.ensures)

pub overflow_add-result-2 : goal.overflow_add-result-2
overflow_add-result-2 c =
    let s = c.split-x in
    let m = s.result.digits in
    let f = s.result.scale in
    let q = c.whole_root-q.result in
    record { fits = omega (arith, root-few c.args.b m f q s.ensures (shifted-root m f q s.ensures.few c.whole_root-q.ensures)) }

pub overflow_cast-result : goal.overflow_cast-result
overflow_cast-result c =
    let s = c.split-x in
    let m = s.result.digits in
    let f = s.result.scale in
    let q = c.whole_root-q.result in
    record { fits = omega (arith, root-few c.args.b m f q s.ensures (shifted-root m f q s.ensures.few c.whole_root-q.ensures)) }

pub overflow_add-result-3 : goal.overflow_add-result-3
overflow_add-result-3 c =
    let s = c.split-x in
    let m = s.result.digits in
    let f = s.result.scale in
    let q = c.whole_root-q.result in
    record { fits = omega (arith, pattern_lt c.args.b m f q s.ensures (shifted-root m f q s.ensures.few c.whole_root-q.ensures)) }

pub returns : goal.returns
returns c =
    let s = c.split-x in
    let m = s.result.digits in
    let f = s.result.scale in
    let q = c.whole_root-q.result in
    let r = shifted-root m f q s.ensures.few c.whole_root-q.ensures in
    (pattern-root c.args.b m f q s.ensures r c.requires.0 c.requires.1, pattern_lt c.args.b m f q s.ensures r)
