-- Two answers that are equal have one value and one place past it. Assumes nothing.
use Prim.Native.Nat.{ℕ}
use mathlib.Core.Path.{◌≡◌, ap}
use lib.Ieee.{Float}
use Rattle.std.specs.Prelude.{Result, Ok, Err}
use Rattle.answers.specs.declared.refusals.Refusal.{Refusal}
use Rattle.decimal.specs.Decimal.{read_at}
use Rattle.decimal.specs.declared.numbers.Read.{Read}

abbrev value_in : Float → Result Read Refusal → Float
value_in x (Ok read) = read.value
value_in x (Err refusal) = x

abbrev end_in : ℕ → Result Read Refusal → ℕ
end_in n (Ok read) = read.end
end_in n (Err refusal) = n

module _ {x y : Float} {next end : ℕ} where
  pub same-value : ◌≡◌ {A = Result Read Refusal} (Ok (read_at x next)) (Ok (read_at y end)) → x ≡ y
  same-value e = ap (value_in x) e

  pub same-end : ◌≡◌ {A = Result Read Refusal} (Ok (read_at x next)) (Ok (read_at y end)) → next ≡ end
  same-end e = ap (end_in next) e
