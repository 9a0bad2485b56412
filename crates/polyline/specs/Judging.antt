-- How point lists are judged (document 01, "The answers"). Definitions only.
use Rattle.std.specs.Prelude.{◌%◌, Bool, cond, List, ltb, eqb, length, Float, Result, Ok, Err}
use Rattle.answers.specs.declared.refusals.Refusal.{Refusal}
use Rattle.answers.specs.declared.refusals.Refusal.TheVariants.{BadList, Range}
use Rattle.polyline.specs.Points.{count_of}

-- 9: "a point list has an odd count of numbers"
abbrev pub is_odd : List Float → Bool
is_odd points = eqb (length points % 2) 1

-- 13: "points above 4,096"
abbrev pub is_long : List Float → Bool
is_long points = ltb 4096 (count_of points)

-- "For points: 9, 13": 9 with "half the count rounded down", 13 with "the number"
unfoldable pub judge_of : List Float → Result (Unit {0}) Refusal
judge_of points = cond (is_odd points) (Err (BadList (count_of points))) (cond (is_long points) (Err (Range (count_of points))) (Ok tt))

-- "with two shapes each step judges the first, then the second"
unfoldable pub judge_two_of : List Float → List Float → Result (Unit {0}) Refusal
judge_two_of first second =
    cond (is_odd first) (Err (BadList (count_of first)))
    (cond (is_odd second) (Err (BadList (count_of second)))
    (cond (is_long first) (Err (Range (count_of first))) (cond (is_long second) (Err (Range (count_of second))) (Ok tt))))
