-- From the ends of an arc to its centre and angles: `from_svg` of poly.rs (source document 002), its locals by their names, in the order of SVG
-- 1.1, F.6.5 and F.6.6, whose equations stand beside them. "Each operation rounds once in the order of the Rust". Definitions only.
use Rattle.std.specs.Prelude.{Bool, true, false, cond, Float}
use Rattle.std.specs.Bool.{beq}
use Rattle.std.specs.Float.{binary32}
use Rattle.std.specs.Float.Ieee.{of_bits, neg, add, sub, mul, div, lt, le}
use Rattle.floats.specs.Floats.{zero_f, one_f, epsilon_f, max_of}
use Rattle.root.specs.Root.{sqrt_of}
use Rattle.trig.specs.declared.SinCos.{SinCos}
use Rattle.math.specs.declared.points.Point.{Point}
use Rattle.math.specs.Math.{pi_f, point_of, scale_of}
use Rattle.angles.specs.Angles.{minus_one_f, angle_between_of}
use Rattle.ellipse.specs.declared.ends.Chord.{Chord}
use Rattle.ellipse.specs.declared.ends.Arc.{Arc}
use Rattle.ellipse.specs.declared.ends.Way.{Way}
use Rattle.ellipse.specs.Turn.{turn_of}

-- 0.5 and 2
unfoldable pub half_f : Float
half_f = of_bits binary32 0x3f00_0000

unfoldable pub two_f : Float
two_f = of_bits binary32 0x4000_0000

-- rx, ry: F.6.6.1, a radius without its sign
unfoldable pub size_of : Float → Float
unfolding zero_f
size_of x = cond (lt x zero_f) (neg x) x

abbrev pub sizes_of : Point → Point
sizes_of radii = point_of (size_of radii.x) (size_of radii.y)

-- dx, dy: half the difference of two coordinates
abbrev pub half_gap : Float → Float → Float
half_gap a b = mul binary32 (sub binary32 a b) half_f

-- (x1p, y1p): F.6.5.1
unfoldable pub primed_of : Float → Float → Point → Point → Point
unfolding half_f
primed_of sin-phi cos-phi start end =
    let dx = half_gap start.x end.x in
    let dy = half_gap start.y end.y in
    point_of
    (add binary32 (mul binary32 cos-phi dx) (mul binary32 sin-phi dy))
    (add binary32 (mul binary32 (neg sin-phi) dx) (mul binary32 cos-phi dy))

-- a·a
abbrev pub square : Float → Float
square a = mul binary32 a a

-- lambda: F.6.6.2
unfoldable pub lambda_of : Point → Point → Float
lambda_of radii p = add binary32 (div binary32 (square p.x) (square radii.x)) (div binary32 (square p.y) (square radii.y))

-- rx, ry after F.6.6.3: grown by the root of lambda where that is above 1
unfoldable pub fitted_of : Point → Point → Point
unfolding one_f lambda_of
fitted_of radii p = cond (lt one_f (lambda_of radii p)) (scale_of radii (sqrt_of (lambda_of radii p))) radii

-- denom of F.6.5.2
unfoldable pub denom_of : Point → Point → Float
denom_of radii p = add binary32 (mul binary32 (square radii.x) (square p.y)) (mul binary32 (square radii.y) (square p.x))

-- the numerator of F.6.5.2 over its denominator, at least 0
unfoldable pub under_root : Point → Point → Float
unfolding zero_f denom_of
under_root radii p =
    max_of
    (div binary32
    (sub binary32
    (sub binary32 (mul binary32 (square radii.x) (square radii.y)) (mul binary32 (square radii.x) (square p.y)))
    (mul binary32 (square radii.y) (square p.x)))
    (denom_of radii p))
    zero_f

-- sign: negative where the two flags are the same
unfoldable pub facing_of : Bool → Float
unfolding one_f minus_one_f
facing_of same = cond same minus_one_f one_f

-- coef: 0 where denom is at most 2^-23; else the root with its sign
unfoldable pub coef_of : Point → Point → Bool → Float
unfolding zero_f epsilon_f facing_of denom_of under_root
coef_of radii p same = cond (le (denom_of radii p) epsilon_f) zero_f (mul binary32 (facing_of same) (sqrt_of (under_root radii p)))

-- (cxp, cyp): F.6.5.2
unfoldable pub middle_of : Float → Point → Point → Point
middle_of coef radii p =
    point_of
    (mul binary32 coef (div binary32 (mul binary32 radii.x p.y) radii.y))
    (mul binary32 coef (div binary32 (mul binary32 (neg radii.y) p.x) radii.x))

-- half the sum of two coordinates
abbrev pub half_sum : Float → Float → Float
half_sum a b = mul binary32 (add binary32 a b) half_f

-- center: F.6.5.3
unfoldable pub center_of : Float → Float → Point → Point → Point → Point
unfolding half_f
center_of sin-phi cos-phi m start end =
    point_of
    (add binary32 (sub binary32 (mul binary32 cos-phi m.x) (mul binary32 sin-phi m.y)) (half_sum start.x end.x))
    (add binary32 (add binary32 (mul binary32 sin-phi m.x) (mul binary32 cos-phi m.y)) (half_sum start.y end.y))

-- v1: the vector of F.6.5.5
unfoldable pub towards_of : Point → Point → Point → Point
towards_of p m radii = point_of (div binary32 (sub binary32 p.x m.x) radii.x) (div binary32 (sub binary32 p.y m.y) radii.y)

-- v2: the second vector of F.6.5.6
unfoldable pub away_of : Point → Point → Point → Point
away_of p m radii =
    point_of
    (div binary32 (sub binary32 (neg p.x) m.x) radii.x)
    (div binary32 (sub binary32 (neg p.y) m.y) radii.y)

-- a whole turn, PI·2
unfoldable pub whole_turn_f : Float
unfolding pi_f two_f
whole_turn_f = mul binary32 pi_f two_f

-- delta_angle: F.6.5.6, a turn taken without the sweep where it is above 0, and added with it where it is below
unfoldable pub turned_of : Float → Bool → Float
unfolding zero_f whole_turn_f
turned_of angle true = cond (lt angle zero_f) (add binary32 angle whole_turn_f) angle
turned_of angle false = cond (lt zero_f angle) (sub binary32 angle whole_turn_f) angle

-- the arc from its ends. Each local is named once, so that the equations above read in F.6's order.
module _ (chord : Chord) where
  -- sin_phi and cos_phi
  abbrev pub turn : SinCos
  turn = turn_of chord.x_axis_rotation

  abbrev pub primed : Point
  primed = primed_of turn.sin turn.cos chord.start chord.end

  abbrev pub fitted : Point
  fitted = fitted_of (sizes_of chord.radii) primed

  abbrev pub middle : Point
  middle = middle_of (coef_of fitted primed (beq chord.large_arc chord.sweep)) fitted primed

  abbrev pub towards : Point
  towards = towards_of primed middle fitted

  abbrev pub away : Point
  away = away_of primed middle fitted

-- what is known before the angles
abbrev pub way_of : Chord → Way
way_of chord = record { turn = turn chord; radii = fitted chord; middle = middle chord; towards = towards chord; away = away chord }

unfoldable pub from_ends_of : Chord → Arc
unfolding zero_f one_f
from_ends_of chord =
    record {
      start = chord.start;
      end = chord.end;
      center = center_of (turn chord).sin (turn chord).cos (middle chord) chord.start chord.end;
      radii = fitted chord;
      x_axis_rotation = chord.x_axis_rotation;
      start_angle = angle_between_of (point_of one_f zero_f) (towards chord);
      delta_angle = turned_of (angle_between_of (towards chord) (away chord)) chord.sweep;
    }
