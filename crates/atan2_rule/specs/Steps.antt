-- Atan2 by steps: "Each of the three also equals, bit for bit, a definition by steps that you write" (document 01, "Arcs"). A guess in f64 is tested on whole numbers;
-- where it fails, a bisection over the bits of f32 takes its place. Angles are counted in 2 ^ -56, sums in 2 ^ -30. Definitions only.
use Rattle.std.specs.Prelude.{ℕ, zero, suc, ◌+◌, ◌-◌, ◌*◌, ◌/◌, ◌%◌, ◌^◌, Bool, cond, ◌&&◌, leb, ltb, eqb, Float}
use Rattle.std.specs.Float.{nan, binary32, binary64}
use Rattle.std.specs.Float.Ieee.{to_bits, of_bits, is_nan, add, sub, mul, div}
use Rattle.std.specs.Float.Ieee.Scale.{finite}
use Rattle.floats.specs.Patterns.{sign_place, narrow_step, narrow_half}
use Rattle.trig_rule.specs.Reduction.{turn}
use Rattle.trig_rule.specs.Steps.{half, fixed_of, sine_plus, sine_minus, cosine_plus, cosine_minus}

-- ---- y and x on one scale
-- a number's bits as an f64 without the sign, and the sign's bit: as an f64 every f32 but 0 is normal, so that subnormals need no case
abbrev pub plain : Float → ℕ
plain x = to_bits binary64 x % 2 ^ 63

abbrev pub sign_bit : Float → ℕ
sign_bit x = to_bits binary64 x / 2 ^ 63

-- the exponent's field of such bits, and the larger one of two
abbrev pub field : ℕ → ℕ
field b = b / 2 ^ 52

abbrev pub top_of : ℕ → ℕ → ℕ
top_of a b = cond (ltb (field a) (field b)) (field b) (field a)

-- the number with the bits b, cut to a whole number of 2 ^ (top - 1052): 30 digits of it where its field is `top`
abbrev pub part_of : ℕ → ℕ → ℕ
part_of b top = cond (ltb (top - field b) 30) ((b % 2 ^ 52 + 2 ^ 52) / 2 ^ 23 / 2 ^ (top - field b)) 0

-- ---- the sums at R, of at most half a turn, in units of 2 ^ -30: what each adds (up) and what it takes away (down)
abbrev pub cosine_up : ℕ → ℕ
cosine_up R = 4 * cosine_plus R

abbrev pub cosine_down : ℕ → ℕ
cosine_down R = 4 * cosine_minus R

abbrev pub sine_up : ℕ → ℕ
sine_up R = R / 2 ^ 26 * sine_plus R / 2 ^ 30

abbrev pub sine_down : ℕ → ℕ
sine_down R = R / 2 ^ 26 * sine_minus R / 2 ^ 30

-- ---- the test. u and v are the sizes of y and x, `left` is 1 where x is negative. The angle is the rest R of a turn, and -R where `flip` is 1
-- u·cos - x·sin: what it adds and what it takes away. x·sin is taken away where x and the rest have one sign (`same`)
unfoldable pub ahead : ℕ → ℕ → Bool → ℕ → ℕ
ahead u v same R = u * cosine_up R + v * cond same (sine_down R) (sine_up R)

unfoldable pub behind : ℕ → ℕ → Bool → ℕ → ℕ
behind u v same R = u * cosine_down R + v * cond same (sine_up R) (sine_down R)

-- x·cos + u·sin: what it adds and what it takes away, where x is not negative (`right`) and where the rest is not (`straight`)
unfoldable pub along : ℕ → ℕ → Bool → Bool → ℕ → ℕ
along u v right straight R = v * cond right (cosine_up R) (cosine_down R) + u * cond straight (sine_up R) (sine_down R)

unfoldable pub against : ℕ → ℕ → Bool → Bool → ℕ → ℕ
against u v right straight R = v * cond right (cosine_down R) (cosine_up R) + u * cond straight (sine_down R) (sine_up R)

-- |u·cos - x·sin| is at most 900 · 2^-30 · (u + v), and x·cos + u·sin is at least that
abbrev pub passes_at : ℕ → ℕ → ℕ → ℕ → ℕ → Bool
passes_at u v left flip R =
    leb (ahead u v (eqb left flip) R) (behind u v (eqb left flip) R + 900 * (u + v))
    && (leb (behind u v (eqb left flip) R) (ahead u v (eqb left flip) R + 900 * (u + v))
    && leb (against u v (eqb left 0) (eqb flip 0) R + 900 * (u + v)) (along u v (eqb left 0) (eqb flip 0) R))

-- the same of the angle with the bits b, from 2 ^ -33 up to PI: PI itself is above half a turn
unfoldable pub passes : ℕ → ℕ → ℕ → ℕ → Bool
passes u v left b = cond (leb (fixed_of b) half) (passes_at u v left 0 (fixed_of b)) (passes_at u v left 1 (turn - fixed_of b))

-- ---- the guess
-- m - n * s, of two f64 by their bits
abbrev pub less_of : ℕ → ℕ → Float → Float
less_of m n s = sub binary64 (of_bits binary64 m) (mul binary64 (of_bits binary64 n) s)

-- e + atan t for t from -1 to 1, by a polynomial in t * t
abbrev pub bend_of : Float → Float → Float
bend_of e t =
    let s = mul binary64 t t in
    let q = mul binary64 s s in
    let o = mul binary64 q q in
    let k = mul binary64 t o in
    let a = add binary64 (less_of 4607182418795996032 4599676417467509233 s) (mul binary64 q (less_of 4596373620483205329 4594312419463711947 s)) in
    let b = add binary64 (less_of 4592627340567176626 4590994711487626206 s) (mul binary64 q (less_of 4589481673679609669 4586491572210492718 s)) in
    let c = add binary64 (less_of 4581973198037814223 4574755832177917852 s) (mul binary64 q (of_bits binary64 4562520176334015345)) in
    add binary64 (add binary64 e (mul binary64 t a)) (add binary64 (mul binary64 k b) (mul binary64 (mul binary64 k o) c))

-- the bits of PI, and of the f32 nearest to an f64 from 2 ^ -14 to PI; for any other it is PI, which then fails the test
abbrev pub pi_bits : ℕ
pi_bits = 1078530011

abbrev pub narrowed : ℕ → ℕ
narrowed b = cond (ltb b 4544132024016830464) pi_bits (cond (ltb 4614256656748904448 b) pi_bits ((b - 4035225266123964416 + narrow_half) / narrow_step))

unfoldable pub near_of : Float → ℕ
near_of g = cond (is_nan g) pi_bits (narrowed (to_bits binary64 g))

-- the angle from the bits a and b of |y| and |x|. Where y is the larger (`steep`) it is a right angle less that of x over y, and from the left side two right angles less it
unfoldable pub guess_of : ℕ → ℕ → Bool → ℕ → ℕ
guess_of a b steep left =
    let t = div binary64 (of_bits binary64 (cond steep (1 - left) left * 2 ^ 63 + cond steep b a)) (of_bits binary64 (cond steep a b)) in
    near_of (bend_of (of_bits binary64 (cond steep 4609753056924675352 (left * 4614256656552045848))) t)

-- ---- the bisection, over bits below PI's
-- u·cos - x·sin is not negative at the angle with the bits b, and how large it is there
unfoldable pub ahead_at : ℕ → ℕ → ℕ → ℕ → Bool
ahead_at u v left b = leb (behind u v (eqb left 0) (fixed_of b)) (ahead u v (eqb left 0) (fixed_of b))

abbrev pub apart : ℕ → ℕ → ℕ
apart a b = cond (leb a b) (b - a) (a - b)

unfoldable pub miss_at : ℕ → ℕ → ℕ → ℕ → ℕ
miss_at u v left b = apart (behind u v (eqb left 0) (fixed_of b)) (ahead u v (eqb left 0) (fixed_of b))

-- from t the test's last pattern below `to`, by steps of 2 ^ (k - 1), .., 2, 1
unfoldable pub climb : (ℕ → Bool) → ℕ → ℕ → ℕ → ℕ
climb test to zero t = t
climb test to (suc k) t = climb test to k (cond (ltb (t + 2 ^ k) to && test (t + 2 ^ k)) (t + 2 ^ k) t)

-- of t and t + 1 the one with the smaller miss
abbrev pub nearer : ℕ → ℕ → ℕ → ℕ → ℕ
nearer u v left t = cond (leb (miss_at u v left t) (miss_at u v left (t + 1))) t (t + 1)

unfoldable pub between_of : ℕ → ℕ → ℕ → ℕ → ℕ → ℕ
between_of u v left from to = cond (ahead_at u v left from) (cond (ahead_at u v left to) to (nearer u v left (climb (ahead_at u v left) to 27 from))) from

-- the bits of 2 ^ -14, and of the f32 next to a quarter, three quarters and the whole of half a turn
abbrev pub least : ℕ
least = 947912704

abbrev pub quarter : ℕ
quarter = 1061752795

abbrev pub three_quarters : ℕ
three_quarters = 1075235812

abbrev pub most : ℕ
most = 1078530010

unfoldable pub fallback_of : ℕ → ℕ → ℕ → ℕ
fallback_of u v left = cond (ltb v u) (between_of u v left quarter three_quarters) (cond (eqb left 0) (between_of u v left least quarter) (between_of u v left three_quarters most))

-- ---- every pair
-- the bits of the angle's size: the guess, or the bisection's where the guess fails
abbrev pub angle_bits : ℕ → ℕ → ℕ → ℕ → ℕ
angle_bits u v left guess = cond (passes u v left guess) guess (fallback_of u v left)

-- below 2 ^ -13 the angle is the quotient, with all its digits: v is below 2 ^ 30, so that no point on the left side is near
abbrev pub tiny : ℕ → ℕ → ℕ → Bool
tiny u v left = leb (u * 8192 + left * 2 ^ 30) v

-- a and b are the bits of y and x without their signs s and t
abbrev pub slanted : Float → Float → ℕ → ℕ → ℕ → ℕ → Float
slanted y x a b s t =
    let u = part_of a (top_of a b) in
    let v = part_of b (top_of a b) in
    cond (tiny u v t) (div binary32 y x) (of_bits binary32 (s * sign_place + angle_bits u v t (guess_of a b (ltb v u) t)))

-- "for y zero it is zero with x above 0 and PI in size with x below. Both zero: 0."
abbrev pub level : Float → ℕ → ℕ → ℕ → Float
level y b s t = cond (eqb b 0) (of_bits binary32 0) (cond (eqb t 0) y (of_bits binary32 (s * sign_place + pi_bits)))

-- "Not finite: NaN."
unfoldable pub atan2_of : Float → Float → Float
atan2_of y x =
    cond (finite y && finite x)
    (cond (eqb (plain y) 0) (level y (plain x) (sign_bit y) (sign_bit x)) (slanted y x (plain y) (plain x) (sign_bit y) (sign_bit x)))
    nan
