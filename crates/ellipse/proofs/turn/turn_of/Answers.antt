-- `ellipse::turn_of` meets its contract: the pair has both parts. Assumes nothing.
use mathlib.Core.Path.{◌≡◌}
use Rattle.trig_rule.specs.Steps.{sine_of, cosine_of}
use Rattle.rotation.specs.Rotation.{phi_of}
use Rattle.ellipse.proofs.turn.turn_of.Goals as goal

pub returns : goal.returns
returns c =
    let sine : c.sin_cos.result.sin ≡ sine_of (phi_of c.args.x_axis_rotation) = cc in
    let cosine : c.sin_cos.result.cos ≡ cosine_of (phi_of c.args.x_axis_rotation) = cc in
    λ i. record { sin = sine i; cos = cosine i }
