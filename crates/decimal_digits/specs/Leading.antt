-- The leading digits of a number: at most 19 of them as a number, and the count of those after them. Definitions only.
use Rattle.std.specs.Prelude.{◌≡◌, ℕ, ◌+◌, ◌*◌, ◌^◌, ◌<◌, ◌≤◌, List}
use Rattle.scan.specs.Runs.{past_digits_of}
use Rattle.decimal_digits.specs.Digits.{digits_in, val}
use Rattle.decimal_digits.specs.declared.gathering.Leading.{Leading}
use Rattle.decimal_digits.specs.declared.gathering.Taken.{Taken}

-- w is the number of all the digits but the last ones, of which there are dropped; none while w has 18 digits or fewer
pub record Leads (ds : List ℕ) (w dropped : ℕ) : Type 0 where
  pub rest : ℕ
  pub is : val ds ≡ w * 10 ^ dropped + rest
  pub small : rest < 10 ^ dropped
  pub early : w < 10 ^ 18 → dropped ≡ 0

-- the digits from one place up to another are taken into a number: the run goes on there, and what is known of the digits before is known of them all
pub record Takes (text : List ℕ) (from w at held : ℕ) : Type 0 where
  pub onward : from ≤ at
  pub grows : w ≤ held
  pub same-run : past_digits_of text at ≡ past_digits_of text from
  pub leads : (start dropped : ℕ) → start ≤ from → Leads (digits_in text start from) w dropped → Leads (digits_in text start at) held dropped

-- and all of them where the number has 18 digits or fewer
pub record Fills (text : List ℕ) (from w : ℕ) (r : Taken) : Type 0 where
  pub takes : Takes text from w r.at r.w
  pub ended : r.w < 10 ^ 18 → past_digits_of text r.at ≡ r.at

-- the run is passed, and what is known of the digits from any place before it is known of those with the run
pub record Gathers (text : List ℕ) (from w dropped : ℕ) (r : Leading) : Type 0 where
  pub passed : r.at ≡ past_digits_of text from
  pub held : (start : ℕ) → start ≤ from → Leads (digits_in text start from) w dropped → Leads (digits_in text start r.at) r.w r.dropped
  pub few : r.dropped ≤ r.at
