-- One coordinate of the samples of `Quads` and `Cubics`, and its differences from each sample to the next. Definitions only.
use Rattle.std.specs.Prelude.{ℕ, suc, ◌<◌, ◌≡◌, List, get_or, Float}
use Rattle.std.specs.Float.{nan, binary32}
use Rattle.std.specs.Float.Ieee.{sub}
use Rattle.floats.specs.Floats.{clamp01_of}
use Rattle.math.specs.Math.{lerp_of}
use Rattle.table.specs.Lookup.{mark_of}

-- at an already clamped t, as `quad_at` and `cubic_at`
abbrev pub quad_coordinate : Float → Float → Float → Float → Float
quad_coordinate a b c t = lerp_of (lerp_of a b t) (lerp_of b c t) t

abbrev pub cubic_coordinate : Float → Float → Float → Float → Float → Float
cubic_coordinate a b c d t = lerp_of (quad_coordinate a b c t) (quad_coordinate b c d t) t

-- "sample i is taken at i/31", clamped
abbrev pub sample_mark : ℕ → Float
sample_mark i = clamp01_of (mark_of 31 i)

-- the first n differences of a coordinate
abbrev pub DifferencesOf : (Float → Float) → List Float → ℕ → Type 0
DifferencesOf coordinate row n = (k : ℕ) → k < n → get_or row k nan ≡ sub binary32 (coordinate (sample_mark (suc k))) (coordinate (sample_mark k))
