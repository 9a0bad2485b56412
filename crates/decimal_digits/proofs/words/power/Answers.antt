-- `decimal_digits::words::power` meets its contract: each arm has the power at its key. Assumes nothing.
use Rattle.std.proofs.Common.{◌≡◌, ℕ, ◌^◌, sym, ap}

at_count : (k count : ℕ) → count ≡ k → 10 ^ k ≡ 10 ^ count
at_count k count e = ap (λ (n : ℕ). 10 ^ n) (sym e)
