-- The turn of an ellipse, which building an arc, its points and its directions share. Definitions only.
use Rattle.std.specs.Prelude.{Float}
use Rattle.trig.specs.declared.SinCos.{SinCos}
use Rattle.trig_rule.specs.Steps.{sine_of, cosine_of}
use Rattle.rotation.specs.Rotation.{phi_of}

-- sin_phi and cos_phi
abbrev pub turn_of : Float → SinCos
turn_of rotation = record { sin = sine_of (phi_of rotation); cos = cosine_of (phi_of rotation) }
