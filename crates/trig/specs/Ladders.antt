-- The ladders that the sums of sine and cosine climb. Definitions only.
use Rattle.std.specs.Prelude.{ℕ}
use Rattle.trig_rule.specs.Steps.{risen}

-- a + v * (b + v * (c + v * (d + v * e))), where v is a fraction in units of 2 ^ -32
abbrev pub rungs_of : ℕ → ℕ → ℕ → ℕ → ℕ → ℕ → ℕ
rungs_of a b c d e v = risen a v (risen b v (risen c v (risen d v e)))
