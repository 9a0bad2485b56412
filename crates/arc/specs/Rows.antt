-- Rows of numbers, one for each of an arc's 32 samples: what each pass over them gives (F.6.3). Definitions only.
use Rattle.std.specs.Prelude.{ℕ, ◌+◌, ◌<◌, ◌≡◌, List, get_or, length, Float}
use Rattle.std.specs.Float.{nan, binary32}
use Rattle.std.specs.Float.Ieee.{sub}
use Rattle.floats.specs.Floats.{clamp01_of}
use Rattle.trig.specs.declared.SinCos.{SinCos}
use Rattle.trig_rule.specs.Steps.{sine_of, cosine_of}
use Rattle.math.specs.declared.points.Point.{Point}
use Rattle.table.specs.Lookup.{mark_of}
use Rattle.ellipse.specs.declared.ends.Arc.{Arc}
use Rattle.ellipse.specs.Shape.{on_ellipse, angle_at}

-- of 32 places each of the first n has its number
pub record Row (numbers : ℕ → Float) (n : ℕ) (row : List Float) : Type 0 where
  pub size : length row ≡ 32
  pub each : (k : ℕ) → k < n → get_or row k nan ≡ numbers k

-- the angle of sample k, at k/31 of the turn
abbrev pub angle_for : Arc → ℕ → Float
angle_for shape k = angle_at shape (clamp01_of (mark_of 31 k))

abbrev pub sine_for : List Float → ℕ → Float
sine_for angles k = sine_of (get_or angles k nan)

abbrev pub cosine_for : List Float → ℕ → Float
cosine_for angles k = cosine_of (get_or angles k nan)

-- the point of sample k, from the rows of its sines and cosines
abbrev pub point_for : Point → Point → SinCos → List Float → List Float → ℕ → Point
point_for center radii turn sines cosines k = on_ellipse center radii turn.sin turn.cos (get_or sines k nan) (get_or cosines k nan)

abbrev pub across_for : Point → Point → SinCos → List Float → List Float → ℕ → Float
across_for center radii turn sines cosines k = (point_for center radii turn sines cosines k).x

abbrev pub along_for : Point → Point → SinCos → List Float → List Float → ℕ → Float
along_for center radii turn sines cosines k = (point_for center radii turn sines cosines k).y

-- from place k to the next
abbrev pub step_for : List Float → ℕ → Float
step_for row k = sub binary32 (get_or row (k + 1) nan) (get_or row k nan)
