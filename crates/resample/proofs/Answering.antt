-- What filling may ask of a planned way. Assumes nothing.
use Prim.Native.Nat.{ℕ, ◌*◌, ◌≤◌, ◌<◌}
use mathlib.Core.Path.{◌≡◌, subst}
use mathlib.Core.List.{List}
use lib.Ieee.{Float}
use Rattle.polyline.specs.Points.{count_of}
use Rattle.resample.specs.Spacing as Spacing
use Rattle.resample.specs.Planning.{Planned}
use Rattle.resample.specs.declared.spreading.Way.{Way}
use Rattle.resample.specs.declared.spreading.Way.TheVariants.{Copies, Spread}
use Rattle.resample.proofs.Plans.{planned-copies, planned-spread}

module _ (points : List Float) (count : ℕ) (way : Way) (room : ℕ) (p : Planned points count way room) where
  pub fill-copies : way ≡ Copies → (0 < count_of points) × (2 * count ≤ room)
  fill-copies e =
      let q = subst (λ (w : Way). Planned points count w room) e p in
      (planned-copies points count room q, q.fits)

  pub fill-spread : (total : Float) → way ≡ Spread total → Spacing.Spread points count total room
  fill-spread total e = planned-spread points count room total (subst (λ (w : Way). Planned points count w room) e p)
