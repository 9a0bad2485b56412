-- The whole root of the digits gives the f64 root, and that its f32 (`root-rounded`). Assumes nothing.
use mathlib.Core.Path.{sym, ◌∙◌}
use Rattle.lengths.proofs.Digits.{root-rounded}
use Rattle.lengths.proofs.exact.root_pattern.Goals as goal

pub returns : goal.returns
returns c =
    let w = c.root_digits-w in
    (c.rounded.ensures.0 ∙ sym (root-rounded c.args.b c.requires.0 c.requires.1 w.result (record { low = w.ensures.0; high = w.ensures.1 })), c.rounded.ensures.1)
